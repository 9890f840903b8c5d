-- What is answered to a list and to a want is what the machine answers.
use Rattle.std.proofs.Common.{◌≡◌, ◌++◌, ◌∷◌, ℕ, arith, Bool, true, false, List, map, Option, Some, Result, Ok, Err, refl, sym, ap, ◌∙◌, subst, Contains, true≢false, []}
use Rattle.std.specs.Prelude.{IfErr, IfOk, Vec, is_some, option_map}
use Rattle.std.specs.Global.{Global}
use Rattle.std.proofs.lemmas.List.Elements.{Contains-append_right}
use Rattle.vc_pack.specs.Answer.{IsNotOurs, IsOurs}
use Rattle.vc_pack.specs.AnswerFault.{IsRefusedAnswer}
use Rattle.vc_pack.specs.Picked.{IsFirst}
use Rattle.vc_pack.specs.declared.fault.AnswerFault.{AnswerFault}
use Rattle.vc_pack.specs.declared.fault.AnswerFault.TheVariants as answer
use Rattle.vc_fetch.specs.Want.{WantText}
use Rattle.vc_files.specs.FileMap.{FileMap}
use Rattle.vc_files.specs.declared.faults.Fault.{Fault as FilesFault}
use Rattle.vc_format.specs.Git.{bytes_of_id}
use Rattle.vc_graph.specs.declared.fault.GraphFault.TheVariants as graph
use Rattle.vc_message.specs.AnyMessage.{SpellsMessage, a_pack, a_want, an_advert}
use Rattle.vc_message.proofs.AnyLaws.{written_so}
use Rattle.vc_rules.specs.Told.{Quietly}
use Rattle.vc_message.specs.Told.{SendsBytes}
use Rattle.vc_model.specs.Message.{Message}
use Rattle.vc_model.specs.Message.Message.{Advert, ListRefs, Pack, Want}
use Rattle.vc_model.specs.Node.{Answer, Deed}
use Rattle.vc_model.specs.Node.Answer.{Declined, Did}
use Rattle.vc_model.specs.Node.Reply.{Sends}
use Rattle.vc_model.specs.Push.{Slots}
use Rattle.vc_model.specs.Repository.{IsBare, IsSound, no_effect}
use Rattle.vc_model.specs.Shared as shared
use Rattle.vc_model.specs.Shared.{SharedNode}
use Rattle.vc_model.specs.SharedCall.{SharedAnswers}
use Rattle.vc_model.specs.SharedCall.SharedCall.{Accept}
use Rattle.vc_model.proofs.Maps.{none_added}
use Rattle.vc_local.specs.Machine.{failure_of}
use Rattle.vc_object.specs.declared.id.ObjectId.{ObjectId}
use Rattle.vc_pkt.specs.Message.{IsSpelledBy}
use Rattle.vc_rules.specs.Git.{git}
use Rattle.vc_push_rules.specs.Session.{SessionText}
use Rattle.vc_shared.proofs.CallLemmas.{Leads, fault_leads, refused_leads}
use Rattle.vc_shared.proofs.ServingFaults.{no_blame}
use Rattle.vc_shared.proofs.ServingPacks.{brought, machine_first, machine_pack, machine_sent, machine_wants, not_ours, ours_there, written_pack}
use Rattle.vc_shared.proofs.ServingRefs.{machine_advert, written_advert}
use Rattle.vc_shared.proofs.SteppingLaws.{pushes_of}
use Rattle.vc_shared.specs.Calls.{AcceptedAs, AnswersShared}
use Rattle.vc_shared.specs.Faults.{fault_answer, of_answer, of_device, up_after}
use Rattle.vc_shared.specs.Holding.{HoldsShared}
use Rattle.vc_shared.specs.Serving.{IsAnswered, IsListed, IsRefusedList, ListAnswers, RefusesList, RefusesWant, WantAnswers, reply_of}
use Rattle.vc_shared.specs.declared.fault.SharedFault.{SharedFault}
use Rattle.vc_object_map.specs.declared.faults.StoreFault.TheVariants as store

abbrev machine_want : WantText → Message
machine_want want = Want (map bytes_of_id want.wants) (map bytes_of_id want.haves)

module _ (content : FileMap) (slots : List (Option SessionText)) (n : SharedNode) (pushes : Slots) (held : HoldsShared content slots true n) (live : n.live ≡ Some pushes) where
  -- a message is sent, and nothing changes
  sent : (m reply : Message) (bytes : List ℕ) → SendsBytes bytes (Did Sends) (Some reply)
      → (IsSound git n.repository → IsBare git n.repository → shared.Serves git n.repository pushes m (record { effect = no_effect; left = pushes; sends = Some reply; reply = Sends }))
      → Leads n (Accept m) content slots true (SendsBytes bytes)
  sent m reply bytes written serves =
      let d : Deed Slots = record { effect = no_effect; left = pushes; sends = Some reply; reply = Sends } in (
        n,
        Did Sends,
        Some reply,
        held,
        written,
        λ sound bare. SharedAnswers.obeyed pushes d live (serves sound bare) ((n.repository.objects, none_added n.repository.objects, refl), live, refl) refl,
      )

  -- a fault ended the call, and the node is down
  stopped : (m : Message) (f : FilesFault) → Leads n (Accept m) content slots false (Quietly (fault_answer (of_device f)))
  stopped m f = fault_leads (Accept m) n pushes live content slots (λ never. cc never) held.spells held.clean (failure_of f)

  -- a refusal changes nothing
  refused : (m : Message) (k : ℕ) → (IsSound git n.repository → IsBare git n.repository → shared.ServesNot git n.repository pushes m k) → Leads n (Accept m) content slots true (Quietly (Declined k))
  refused m k why = refused_leads (Accept m) n pushes live content slots true held k why

  -- ---- a list
  listed : (bytes : List ℕ) → IsListed content bytes → Leads n (Accept ListRefs) content slots true (SendsBytes bytes)
  listed bytes is =
      let message : Message = Advert (shared.head_value n.repository) n.repository.refs in
      sent ListRefs message bytes
      (record {
        message = message;
        written = written_so message (an_advert is.advert) bytes (machine_advert content is.advert is.tells n.repository held.spells) (written_advert content is.advert is.tells) is.spelled;
        answer = refl;
        sent = refl;
      })
      (λ sound bare. refl)

  -- over clean files a list is refused for a fault alone
  unlisted : (f : AnswerFault) → IsRefusedList content f → Leads n (Accept ListRefs) content slots (up_after {T = Vec ℕ Global} (Err (of_answer f))) (Quietly (fault_answer (of_answer f)))
  unlisted (answer.NotOurs id) why = absurd why
  unlisted (answer.Incomplete id) why = absurd why
  unlisted (answer.Refs e) why = absurd (no_blame content held.clean held.spells.head held.spells.head_shown e why)
  unlisted (answer.Graph e) why = absurd why
  unlisted (answer.Fault f) why = stopped ListRefs f

  -- ---- a want
  module _ (want : WantText) where
    answered : (read bytes : List ℕ) → IsSpelledBy SpellsMessage (a_want want) read → IsAnswered content want bytes → Leads n (Accept (machine_want want)) content slots true (SendsBytes bytes)
    answered read bytes (lines, each, spells) is =
        let objects = brought content want is.pack is.answers in
        let ack = option_map bytes_of_id is.pack.ack in
        let message : Message = Pack ack objects in
        sent (machine_want want) message bytes
        (record {
          message = message;
          written = written_so message (a_pack is.pack) bytes (machine_pack content want is.pack is.answers) (written_pack content want is.pack is.answers lines spells) is.spelled;
          answer = refl;
          sent = refl;
        })
        (λ sound bare. (
          machine_wants content n.repository held.spells bare want is.pack is.answers,
          (ack, objects, machine_first content n.repository held.spells bare want.haves is.pack.ack is.answers.first, machine_sent content n.repository held.spells bare want is.pack is.answers, refl),
        ))

    among : (before after : List ObjectId) (id : ObjectId) → Contains (map bytes_of_id (before ++ id ∷ after)) id.0
    among [] after id = (0, omega arith, refl)
    among (x ∷ before) after id = Contains-append_right (bytes_of_id x ∷ []) (map bytes_of_id (before ++ id ∷ after)) id.0 (among before after id)

    -- the first that no ref reaches is one
    other : (id : ObjectId) → IsFirst (IsNotOurs content) (IsOurs content) want.wants id → IsSound git n.repository → IsBare git n.repository
        → shared.ServesNot git n.repository pushes (machine_want want) 90
    other id first sound bare = (
      refl,
      id.0,
      subst (λ (ids : List ObjectId). Contains (map bytes_of_id ids) id.0) (sym first.place) (among first.before first.after id),
      not_ours content n.repository held.spells bare id first.here,
    )

    -- over clean files of a sound and bare repository nothing else is refused, but for a fault
    unanswered : (f : AnswerFault) → IsRefusedAnswer content want.wants f
        → Leads n (Accept (machine_want want)) content slots (up_after {T = Vec ℕ Global} (Err (of_answer f))) (Quietly (fault_answer (of_answer f)))
    unanswered (answer.NotOurs id) why = refused (machine_want want) 90 (other id why)
    unanswered (answer.Incomplete id) why = absurd why
    unanswered (answer.Refs e) why = absurd (no_blame content held.clean held.spells.head held.spells.head_shown e why)
    unanswered (answer.Graph (graph.Missing id)) (ours, none) =
        refused (machine_want want) 40
        (λ sound bare. absurd (true≢false (sym (ours_there content n.repository held.spells bare sound id ours) ∙ ap is_some none)))
    unanswered (answer.Graph (graph.Store (store.BadObject e))) why = absurd why
    unanswered (answer.Graph (graph.Store (store.Absent id))) why = absurd why
    unanswered (answer.Graph (graph.Store (store.Damaged id))) (ours, damaged) = absurd (held.clean.objects id damaged)
    unanswered (answer.Graph (graph.Store (store.Fault e))) why = absurd why
    unanswered (answer.Fault f) why = stopped (machine_want want) f

-- ---- whatever was answered
module _ (content : FileMap) (slots : List (Option SessionText)) where
  list_leads : (result : Result (Vec ℕ Global) SharedFault) → IfOk result (λ bytes. IsListed content bytes.items) → IfErr result (RefusesList content)
      → AnswersShared (Accept ListRefs) (AcceptedAs (reply_of result)) content content slots slots true (up_after result)
  list_leads (Ok bytes) is refuses = record { each = λ n held. let up = pushes_of content slots n.live held.live in listed content slots n up.0 held up.1 bytes.items is }
  list_leads (Err e) is (f, told, why) = record {
    each = λ n held.
        let up = pushes_of content slots n.live held.live in
        subst (λ (x : SharedFault). Leads n (Accept ListRefs) content slots (up_after {T = Vec ℕ Global} (Err x)) (Quietly (fault_answer x))) (sym told) (unlisted content slots n up.0 held up.1 f why);
  }

  want_leads : (want : WantText) (read : List ℕ) → IsSpelledBy SpellsMessage (a_want want) read → (result : Result (Vec ℕ Global) SharedFault)
      → IfOk result (λ bytes. IsAnswered content want bytes.items) → IfErr result (RefusesWant content want)
      → AnswersShared (Accept (machine_want want)) (AcceptedAs (reply_of result)) content content slots slots true (up_after result)
  want_leads want read spelled (Ok bytes) is refuses = record { each = λ n held. let up = pushes_of content slots n.live held.live in answered content slots n up.0 held up.1 want read bytes.items spelled is }
  want_leads want read spelled (Err e) is (f, told, why) = record {
    each = λ n held.
        let up = pushes_of content slots n.live held.live in
        subst
        (λ (x : SharedFault). Leads n (Accept (machine_want want)) content slots (up_after {T = Vec ℕ Global} (Err x)) (Quietly (fault_answer x)))
        (sym told) (unanswered content slots n up.0 held up.1 want f why);
  }

module _ (m : Message) (old new : FileMap) (slots after : List (Option SessionText)) (was_up is_up : Bool) (shows : Answer → Option Message → Type 0) where
  -- the same, in other words
  as_told : (asked : Message) (up : Bool) → m ≡ asked → new ≡ old → after ≡ slots → was_up ≡ true → is_up ≡ up → AnswersShared (Accept asked) shows old old slots slots true up
      → AnswersShared (Accept m) shows old new slots after was_up is_up
  as_told asked up is files same was now h =
      subst (λ (q : Message). AnswersShared (Accept q) shows old new slots after was_up is_up) (sym is)
      (subst (λ (c : FileMap). AnswersShared (Accept asked) shows old c slots after was_up is_up) (sym files)
      (subst (λ (xs : List (Option SessionText)). AnswersShared (Accept asked) shows old old slots xs was_up is_up) (sym same)
      (subst (λ (b : Bool). AnswersShared (Accept asked) shows old old slots slots b is_up) (sym was)
      (subst (λ (b : Bool). AnswersShared (Accept asked) shows old old slots slots true b) (sym now) h))))

pub list_answers : ListAnswers
list_answers m old new slots after was_up is_up result is listed refuses files same was up =
    as_told m old new slots after was_up is_up (AcceptedAs (reply_of result)) ListRefs (up_after result) is files same was up (list_leads old slots result listed refuses)

pub want_answers : WantAnswers
want_answers m want read old new slots after was_up is_up result is spelled answered refuses files same was up =
    as_told m old new slots after was_up is_up (AcceptedAs (reply_of result)) (machine_want want) (up_after result) is files same was up
    (want_leads old slots want read spelled result answered refuses)
