-- The start of an exchange at a clone: what is asked, or sent, is the machine's message, and what is refused it refuses.
use Rattle.std.proofs.Common.{◌≡◌, ℕ, Bool, true, false, List, None, Ok, Err, refl, sym, ap, ◌∙◌, subst}
use Rattle.std.specs.Prelude.{Vec, string_bytes}
use Rattle.std.specs.Global.{Global}
use Rattle.vc_sending.specs.SendFault.{IsRefusedPush}
use Rattle.vc_sending.specs.Sending.{machine_items}
use Rattle.vc_sending.specs.SentPush.{DeclinesPush, IsSentPush, SendsPush}
use Rattle.vc_sending.specs.declared.item.PushItem.{PushItem}
use Rattle.vc_sending.specs.declared.send_fault.SendFault.{SendFault}
use Rattle.vc_sending.specs.declared.send_fault.SendFault.TheVariants as send
use Rattle.vc_files.specs.FileMap.{FileMap}
use Rattle.vc_files.specs.declared.faults.Fault.TheVariants.{Memory}
use Rattle.vc_graph.specs.declared.fault.GraphFault.TheVariants as graph
use Rattle.vc_message.specs.Machine.{IsWritten}
use Rattle.vc_rules.specs.Told.{Quietly}
use Rattle.vc_message.specs.Told.{SendsBytes}
use Rattle.vc_model.specs.Clone.{Awaited, CloneNode, IsItemId}
use Rattle.vc_model.specs.Clone.Awaited.{AnAdvert}
use Rattle.vc_model.specs.Clone.Task.{StartFetch, StartPush}
use Rattle.vc_model.specs.CloneCall.{CloneCall}
use Rattle.vc_model.specs.CloneCall.CloneCall.{Command}
use Rattle.vc_model.specs.Message.Message.{ListRefs, Push}
use Rattle.vc_model.specs.Object.{zero_id}
use Rattle.vc_refs.specs.declared.faults.RefFault.TheVariants as refs
use Rattle.vc_object_map.specs.declared.faults.StoreFault.TheVariants as store
use Rattle.vc_node.proofs.CloneCallLemmas.{Leads, as_told, fault_leads, refused_leads, sent_leads}
use Rattle.vc_local.proofs.BesideLemmas.{held_content}
use Rattle.vc_node.specs.Awaited.{AwaitedText, IsAwaited, an_advert}
use Rattle.vc_node.specs.CloneCalls.{AnswersClone, SentAs}
use Rattle.vc_node.specs.CloneFaults.{fault_answer, of_device, of_send, up_after}
use Rattle.vc_local.specs.Machine.{HoldsNode}
use Rattle.vc_node.specs.declared.clone_fault.CloneFault.{CloneFault}

-- ---- a fetch
-- the refs are asked for, and awaited from then on, whatever was awaited before
pub fetch_sent : (old new : FileMap) (waits after : AwaitedText) (was_up is_up : Bool) (bytes : Vec ℕ Global) → IsWritten ListRefs bytes.items → new ≡ old → after ≡ an_advert → was_up ≡ true → is_up ≡ true
    → AnswersClone (Command StartFetch) (SentAs (Ok bytes)) old new waits after was_up is_up
fetch_sent old new waits after was_up is_up bytes written files same was up =
    as_told (Command StartFetch) (SendsBytes bytes.items) old old new waits an_advert after was_up is_up true true files same was up
    (record { each = λ awaited n waited held. sent_leads (Command StartFetch) old waits awaited n waited held an_advert AnAdvert refl ListRefs bytes.items written (λ sound. refl) })

-- there was no memory for it
pub fetch_faulted : (old new : FileMap) (waits after : AwaitedText) (was_up is_up : Bool) (told : CloneFault) → told ≡ of_device Memory → new ≡ old → after ≡ waits → was_up ≡ true → is_up ≡ false
    → AnswersClone (Command StartFetch) (SentAs (Err told)) old new waits after was_up is_up
fetch_faulted old new waits after was_up is_up told is files same was up =
    subst (λ (e : CloneFault). AnswersClone (Command StartFetch) (Quietly (fault_answer e)) old new waits after was_up is_up) (sym is)
    (as_told (Command StartFetch) (Quietly (fault_answer (of_device Memory))) old old new waits waits after was_up is_up true false files same was up
    (record { each = λ awaited n waited held. fault_leads (Command StartFetch) old waits awaited n waited held (λ never. cc never) Memory }))

-- ---- a push
abbrev a_push : Bool → List PushItem → CloneCall
a_push atomic items = Command (StartPush atomic (machine_items items))

module _ (content : FileMap) (atomic : Bool) (items : List PushItem) (waits : AwaitedText) (awaited : Awaited) (n : CloneNode) (waited : IsAwaited waits awaited) (held : HoldsNode content true awaited n) where
  -- what is awaited stays awaited
  pushed : (bytes : List ℕ) → IsSentPush n.repository atomic (machine_items items) bytes → Leads n (a_push atomic items) content waits true (SendsBytes bytes)
  pushed bytes is =
      sent_leads (a_push atomic items) content waits awaited n waited held waits awaited waited (Push atomic None is.commands is.objects) bytes is.written
      (λ sound. (is.few, is.complete, (is.commands, is.objects, is.commands_are, is.objects_are, refl)))

  -- over clean files a push is refused for what it asks alone, but for a fault
  unpushed : (fault : SendFault) → IsRefusedPush content items fault → DeclinesPush content items fault
      → Leads n (a_push atomic items) content waits (up_after {T = Vec ℕ Global} (Err (of_send fault))) (Quietly (fault_answer (of_send fault)))
  unpushed send.TooMany why declines = refused_leads (a_push atomic items) content waits awaited n waited held 84 (λ sound. declines n.repository (held_content content n.repository held.shows.spells))
  unpushed (send.Missing id) why declines = refused_leads (a_push atomic items) content waits awaited n waited held 40 (λ sound. declines n.repository (held_content content n.repository held.shows.spells))
  unpushed (send.Refs (refs.Stale current)) why declines = absurd why
  unpushed (send.Refs (refs.Conflict name)) why declines = absurd why
  unpushed (send.Refs (refs.BadRefFile path)) why declines = absurd (held.clean.refs (string_bytes path) why)
  unpushed (send.Refs refs.HeadLoop) why declines = absurd why
  unpushed (send.Refs (refs.Fault f)) why declines = fault_leads (a_push atomic items) content waits awaited n waited held (λ never. cc never) Memory
  unpushed (send.Graph (graph.Missing id)) why declines =
      refused_leads (a_push atomic items) content waits awaited n waited held 40 (λ sound. absurd (declines n.repository (held_content content n.repository held.shows.spells) sound))
  unpushed (send.Graph (graph.Store (store.BadObject e))) why declines = absurd why
  unpushed (send.Graph (graph.Store (store.Absent id))) why declines = absurd why
  unpushed (send.Graph (graph.Store (store.Damaged id))) (met, damaged) declines = absurd (held.clean.objects id damaged)
  unpushed (send.Graph (graph.Store (store.Fault e))) why declines = absurd why
  unpushed (send.Fault f) why declines = fault_leads (a_push atomic items) content waits awaited n waited held (λ never. cc never) f

module _ (atomic : Bool) (items : List PushItem) (old new : FileMap) (waits after : AwaitedText) (was_up is_up : Bool) (files : new ≡ old) (same : after ≡ waits) (was : was_up ≡ true) where
  pub push_sent : (bytes : Vec ℕ Global) → SendsPush old atomic items bytes.items → is_up ≡ true → ¬ IsItemId (machine_items items) zero_id
      → AnswersClone (Command (StartPush atomic (machine_items items))) (SentAs (Ok bytes)) old new waits after was_up is_up
  push_sent bytes sends up zero =
      as_told (a_push atomic items) (SendsBytes bytes.items) old old new waits waits after was_up is_up true true files same was up
      (record { each = λ awaited n waited held. pushed old atomic items waits awaited n waited held bytes.items (sends n.repository (held_content old n.repository held.shows.spells) zero) })

  pub push_declined : (fault : SendFault) (told : CloneFault) → IsRefusedPush old items fault → DeclinesPush old items fault → told ≡ of_send fault → is_up ≡ up_after {T = Vec ℕ Global} (Err told)
      → AnswersClone (Command (StartPush atomic (machine_items items))) (SentAs (Err told)) old new waits after was_up is_up
  push_declined fault told why declines is up =
      subst (λ (e : CloneFault). AnswersClone (a_push atomic items) (Quietly (fault_answer e)) old new waits after was_up is_up) (sym is)
      (as_told (a_push atomic items) (Quietly (fault_answer (of_send fault))) old old new waits waits after was_up is_up true (up_after {T = Vec ℕ Global} (Err (of_send fault))) files same was
      (up ∙ ap (λ (e : CloneFault). up_after {T = Vec ℕ Global} (Err e)) is)
      (record { each = λ awaited n waited held. unpushed old atomic items waits awaited n waited held fault why declines }))
