-- What a clone answers to the question for a value is the machine's answer, as its method tells it: by the clone's own faults.
use Rattle.std.proofs.Common.{◌≡◌, ℕ, Bool, true, List, Option, None, Result, Ok, Err, refl, sym, ap, ◌∙◌, subst}
use Rattle.std.specs.Prelude.{IfErr, IfOk, IsErrOf, not}
use Rattle.vc_files.specs.Failures.{Wears}
use Rattle.vc_files.specs.FileMap.{FileMap}
use Rattle.vc_files.specs.declared.faults.Fault.TheVariants.{Device}
use Rattle.vc_format.specs.Git.{bytes_of_id}
use Rattle.vc_rules.specs.Told.{Quietly}
use Rattle.vc_model.specs.Clone.{Awaited, CloneNode}
use Rattle.vc_model.specs.CloneCall.{CloneAnswers}
use Rattle.vc_model.specs.CloneCall.CloneCall.{Asks}
use Rattle.vc_model.specs.Node.{Answer}
use Rattle.vc_model.specs.Object.{Id}
use Rattle.vc_model.specs.Question.{found}
use Rattle.vc_model.specs.Question.Question.{Resolve}
use Rattle.vc_object.specs.declared.id.ObjectId.{ObjectId}
use Rattle.vc_repository.specs.Resolving.{DenotesIn, IsOfExpr}
use Rattle.vc_expression.specs.Grammar.{ExprText, IsExpr}
use Rattle.vc_rev.specs.Value.{refusal_number}
use Rattle.vc_rev.specs.declared.refusal.RevFault.{RevFault}
use Rattle.vc_rev.specs.declared.refusal.RevFault.TheVariants.{Missing, NotACommit, Refused, Source}
use Rattle.vc_rev.specs.declared.refusal.SourceFault.TheVariants.{BadIndex, BadRefFile, HeadLoop, Store}
use Rattle.vc_values.specs.Values.{DenotesAt}
use Rattle.vc_object_map.specs.declared.faults.StoreFault.TheVariants as store
use Rattle.vc_node.proofs.CloneCallLemmas.{Leads, as_told, fault_leads}
use Rattle.vc_local.proofs.FaultLemmas.{source_alone}
use Rattle.vc_local.proofs.LookLemmas.{looks_told}
use Rattle.vc_local.proofs.ValueLemmas.{values_are_told}
use Rattle.vc_node.specs.Awaited.{AwaitedText, IsAwaited}
use Rattle.vc_node.specs.CloneCalls.{AnswersClone}
use Rattle.vc_node.specs.CloneFaults.{IsOfDevice, fault_answer, of_rev, takes_down}
use Rattle.vc_local.specs.Machine.{HoldsNode}
use Rattle.vc_local.specs.Told.{FoundAs}
use Rattle.vc_local.specs.Values.{TellsValue, rev_answer, up_after_value, value_takes_down}
use Rattle.vc_node.specs.declared.clone_fault.CloneFault.{CloneFault}

-- ---- a fault of an expression, as the clone tells it
same_answer : (e : RevFault) → fault_answer (of_rev e) ≡ rev_answer e
same_answer (Refused refusal) = refl
same_answer (Missing id) = refl
same_answer (NotACommit id) = refl
same_answer (Source fault) = refl

takes_down_so : (e : RevFault) → takes_down (of_rev e) ≡ value_takes_down e
takes_down_so (Refused refusal) = refl
takes_down_so (Missing id) = refl
takes_down_so (NotACommit id) = refl
takes_down_so (Source fault) = refl

device_alone : (e : RevFault) → IsOfDevice (of_rev e) → e ≡ Source (Store (store.Fault Device))
device_alone (Refused refusal) never = absurd never
device_alone (Missing id) never = absurd never
device_alone (NotACommit id) never = absurd never
device_alone (Source fault) device = ap Source (source_alone fault device)

device_told : (e : RevFault) (told : CloneFault) (result : Result ObjectId RevFault) → told ≡ of_rev e → result ≡ Err e → IsOfDevice told → IsErrOf result (Source (Store (store.Fault Device)))
device_told e told result is ends device = ends ∙ ap Err (device_alone e (subst IsOfDevice is device))

module _ {D : Type 0} {failed : D → ℕ} {can_fail : D → Type 0} {left : D → Option ℕ} {old mid new : D} (e : RevFault) (told : CloneFault) (result : Result ObjectId RevFault)
    (is : told ≡ of_rev e) (ends : result ≡ Err e) where
  pub no_value_wears : new ≡ mid → Wears failed can_fail left old mid (IsErrOf result (Source (Store (store.Fault Device)))) → Wears failed can_fail left old new (IsOfDevice told)
  no_value_wears files w =
      subst (λ (d : D). Wears failed can_fail left old d (IsOfDevice told)) (sym files) (looks_told w (device_told e told result is ends))

-- ---- the machine's answer

module _ (content : FileMap) (waits : AwaitedText) (text : List ℕ) (awaited : Awaited) (n : CloneNode) (waited : IsAwaited waits awaited) (held : HoldsNode content true awaited n) where
  answered : (v : Result Id ℕ) → DenotesAt n.repository text v → Leads n (Asks (Resolve text)) content waits true (Quietly (found v))
  answered v denotes = (
    awaited,
    n,
    found v,
    None,
    waited,
    held,
    record { answer = refl; sent = refl },
    λ sound. CloneAnswers.asked awaited (Resolve text) held.shows.live refl (v, denotes, refl) refl refl,
  )

  value_leads : (result : Result ObjectId RevFault) → TellsValue n.repository text result → Leads n (Asks (Resolve text)) content waits (up_after_value result) (FoundAs rev_answer result)
  value_leads (Ok id) tells = answered (Ok (bytes_of_id id)) tells
  value_leads (Err (Refused refusal)) tells = answered (Err (refusal_number refusal)) tells
  value_leads (Err (Source (Store (store.Fault f)))) tells = fault_leads (Asks (Resolve text)) content waits awaited n waited held (λ never. cc never) f
  value_leads (Err (Source (Store (store.BadObject e)))) never = absurd never
  value_leads (Err (Source (Store (store.Absent id)))) never = absurd never
  value_leads (Err (Source (Store (store.Damaged id)))) never = absurd never
  value_leads (Err (Source (BadRefFile path))) never = absurd never
  value_leads (Err (Source HeadLoop)) never = absurd never
  value_leads (Err (Source (BadIndex place))) never = absurd never
  value_leads (Err (Missing id)) never = absurd never
  value_leads (Err (NotACommit id)) never = absurd never

told_answers : (content : FileMap) (waits : AwaitedText) (text : List ℕ) (e : ExprText) (result : Result ObjectId RevFault)
    → IsExpr text e → IfOk result (λ id. DenotesIn content e (Ok id)) → IfErr result (IsOfExpr content e)
    → AnswersClone (Asks (Resolve text)) (FoundAs rev_answer result) content content waits waits true (up_after_value result)
told_answers content waits text e result spelled value why = record {
  each = λ awaited n waited held. value_leads content waits text awaited n waited held result (values_are_told content n.repository text e result held.clean held.shows.spells spelled value why);
}

pub value_answers : (old new : FileMap) (waits after : AwaitedText) (text : List ℕ) (e : ExprText) (was_up is_up : Bool) (id : ObjectId)
    → IsExpr text e → DenotesIn old e (Ok id) → new ≡ old → after ≡ waits → was_up ≡ true → is_up ≡ true
    → AnswersClone (Asks (Resolve text)) (FoundAs fault_answer (Ok id)) old new waits after was_up is_up
value_answers old new waits after text e was_up is_up id spelled value files same was up =
    as_told (Asks (Resolve text)) (FoundAs fault_answer (Ok id)) old old new waits waits after was_up is_up true true files same was up (told_answers old waits text e (Ok id) spelled value tt)

pub no_value_answers : (old new : FileMap) (waits after : AwaitedText) (text : List ℕ) (e : ExprText) (was_up is_up : Bool) (fault : RevFault) (told : CloneFault)
    → IsExpr text e → IsOfExpr old e fault → new ≡ old → after ≡ waits → told ≡ of_rev fault → was_up ≡ true → is_up ≡ not (takes_down told)
    → AnswersClone (Asks (Resolve text)) (FoundAs fault_answer (Err told)) old new waits after was_up is_up
no_value_answers old new waits after text e was_up is_up fault told spelled why files same is was up =
    subst (λ (a : Answer). AnswersClone (Asks (Resolve text)) (Quietly a) old new waits after was_up is_up) (sym (ap fault_answer is ∙ same_answer fault))
    (as_told (Asks (Resolve text)) (Quietly (rev_answer fault)) old old new waits waits after was_up is_up true (not (value_takes_down fault)) files same was
    (up ∙ ap not (ap takes_down is ∙ takes_down_so fault)) (told_answers old waits text e (Err fault) spelled tt why))
