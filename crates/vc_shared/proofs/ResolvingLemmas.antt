-- The value of an expression over a node's files is the machine's answer to the question for it.
use Rattle.std.proofs.Common.{◌≡◌, ℕ, Bool, true, false, List, Option, Some, Result, Ok, Err, refl, sym, subst}
use Rattle.vc_files.specs.FileMap.{FileMap}
use Rattle.vc_files.specs.declared.faults.Fault.{Fault as FilesFault}
use Rattle.vc_format.specs.Git.{bytes_of_id}
use Rattle.vc_rules.specs.Told.{Quietly}
use Rattle.vc_model.specs.Message.{Message}
use Rattle.vc_model.specs.Node.{Answer}
use Rattle.vc_model.specs.Node.Answer.{Declined, Fault}
use Rattle.vc_model.specs.Object.{Id}
use Rattle.vc_model.specs.Push.{Slots}
use Rattle.vc_model.specs.Question.{found}
use Rattle.vc_model.specs.Question.Question.{Resolve}
use Rattle.vc_model.specs.Shared.{SharedNode}
use Rattle.vc_model.specs.SharedCall.{SharedCall}
use Rattle.vc_model.specs.SharedCall.SharedCall.{Asks}
use Rattle.vc_local.proofs.ValueLemmas.{values_are_told}
use Rattle.vc_local.specs.Told.{FoundAs}
use Rattle.vc_local.specs.Values.{TellsValue, rev_answer, up_after_value}
use Rattle.vc_local.specs.Machine.{failure_of}
use Rattle.vc_object.specs.declared.id.ObjectId.{ObjectId}
use Rattle.vc_rev.specs.Value.{refusal_number}
use Rattle.vc_rev.specs.declared.refusal.RevFault.{RevFault}
use Rattle.vc_rev.specs.declared.refusal.RevFault.TheVariants.{Missing, NotACommit, Refused, Source}
use Rattle.vc_rev.specs.declared.refusal.SourceFault.TheVariants.{BadIndex, BadRefFile, HeadLoop, Store}
use Rattle.vc_values.specs.Values.{DenotesAt}
use Rattle.vc_push_rules.specs.Session.{SessionText}
use Rattle.vc_object_map.specs.declared.faults.StoreFault.TheVariants as store
use Rattle.vc_shared.proofs.CallLemmas.{Leads, asked_leads, fault_leads}
use Rattle.vc_shared.proofs.SteppingLaws.{down_answers, pushes_of}
use Rattle.vc_shared.specs.Holding.{HoldsShared}
use Rattle.vc_shared.specs.Resolving.{DownDeclines, ValuesAnswer}

-- what leads somewhere where nothing changed
leads_same : (old new : FileMap) (slots after : List (Option SessionText)) (n : SharedNode) (call : SharedCall) (is_up up : Bool) (shows : Answer → Option Message → Type 0)
    → new ≡ old → after ≡ slots → is_up ≡ up → Leads n call old slots up shows → Leads n call new after is_up shows
leads_same old new slots after n call is_up up shows files same is leads =
    subst (λ (m : FileMap). Leads n call m after is_up shows) (sym files)
    (subst (λ (xs : List (Option SessionText)). Leads n call old xs is_up shows) (sym same)
    (subst (λ (b : Bool). Leads n call old slots b shows) (sym is) leads))

module _ (content : FileMap) (slots : List (Option SessionText)) (n : SharedNode) (held : HoldsShared content slots true n) (pushes : Slots) (live : n.live ≡ Some pushes) (text : List ℕ) where
  answered : (v : Result Id ℕ) → DenotesAt n.repository text v → Leads n (Asks (Resolve text)) content slots true (Quietly (found v))
  answered v denotes = asked_leads (Asks (Resolve text)) n pushes live content slots true held (Resolve text) refl (found v) (v, denotes, refl)

  ended : (f : FilesFault) → Leads n (Asks (Resolve text)) content slots false (Quietly (Fault (failure_of f)))
  ended f = fault_leads (Asks (Resolve text)) n pushes live content slots (λ never. cc never) held.spells held.clean (failure_of f)

  value_leads : (result : Result ObjectId RevFault) → TellsValue n.repository text result → Leads n (Asks (Resolve text)) content slots (up_after_value result) (FoundAs rev_answer result)
  value_leads (Ok id) tells = answered (Ok (bytes_of_id id)) tells
  value_leads (Err (Refused refusal)) tells = answered (Err (refusal_number refusal)) tells
  value_leads (Err (Source (Store (store.Fault f)))) tells = ended f
  value_leads (Err (Source (Store (store.BadObject e)))) never = absurd never
  value_leads (Err (Source (Store (store.Absent id)))) never = absurd never
  value_leads (Err (Source (Store (store.Damaged id)))) never = absurd never
  value_leads (Err (Source (BadRefFile path))) never = absurd never
  value_leads (Err (Source HeadLoop)) never = absurd never
  value_leads (Err (Source (BadIndex place))) never = absurd never
  value_leads (Err (Missing id)) never = absurd never
  value_leads (Err (NotACommit id)) never = absurd never

pub values_answer : ValuesAnswer
values_answer old new slots after text e was_up is_up result spelled value why files same was up =
    record { each = λ n held. by n (subst (λ (b : Bool). HoldsShared old slots b n) was held) }
  where
    by : (n : SharedNode) → HoldsShared old slots true n → Leads n (Asks (Resolve text)) new after is_up (FoundAs rev_answer result)
    by n held =
        let open_now = pushes_of old slots n.live held.live in
        leads_same old new slots after n (Asks (Resolve text)) is_up (up_after_value result) (FoundAs rev_answer result) files same up
        (value_leads old slots n held open_now.0 open_now.1 text result (values_are_told old n.repository text e result held.clean held.spells spelled value why))

pub down_declines : DownDeclines
down_declines old new slots after call was_up is_up other files same up was =
    down_answers call (Quietly (Declined 112)) other (record { answer = refl; sent = refl }) old new slots after was_up is_up files same up was
