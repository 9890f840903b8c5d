-- A call for the value of an expression, as its method tells it: by the shared node's own faults.
use Rattle.std.proofs.Common.{◌≡◌, Bool, true, List, ℕ, Option, Result, Err, refl, sym, ap, ◌∙◌, subst}
use Rattle.std.specs.Prelude.{IsErrOf, not}
use Rattle.vc_files.specs.Failures.{Wears}
use Rattle.vc_files.specs.FileMap.{FileMap}
use Rattle.vc_files.specs.declared.faults.Fault.TheVariants.{Device}
use Rattle.vc_rules.specs.Told.{Quietly}
use Rattle.vc_model.specs.Node.{Answer}
use Rattle.vc_model.specs.Question.Question.{Resolve}
use Rattle.vc_model.specs.SharedCall.SharedCall.{Asks}
use Rattle.vc_local.proofs.FaultLemmas.{source_alone}
use Rattle.vc_local.proofs.LookLemmas.{looks_told}
use Rattle.vc_local.specs.Told.{FoundAs}
use Rattle.vc_local.specs.Values.{rev_answer, value_takes_down}
use Rattle.vc_repository.specs.Resolving.{IsOfExpr}
use Rattle.vc_object.specs.declared.id.ObjectId.{ObjectId}
use Rattle.vc_expression.specs.Grammar.{ExprText, IsExpr}
use Rattle.vc_rev.specs.declared.refusal.RevFault.{RevFault}
use Rattle.vc_rev.specs.declared.refusal.RevFault.TheVariants.{Missing, NotACommit, Refused, Source}
use Rattle.vc_rev.specs.declared.refusal.SourceFault.TheVariants.{Store}
use Rattle.vc_push_rules.specs.Session.{SessionText}
use Rattle.vc_object_map.specs.declared.faults.StoreFault.TheVariants as store
use Rattle.vc_shared.proofs.ResolvingLemmas.{values_answer}
use Rattle.vc_shared.specs.Calls.{AnswersShared}
use Rattle.vc_shared.specs.Faults.{IsOfDevice, fault_answer, of_rev, takes_down}
use Rattle.vc_shared.specs.declared.fault.SharedFault.{SharedFault}

same_answer : (e : RevFault) → fault_answer (of_rev e) ≡ rev_answer e
same_answer (Refused refusal) = refl
same_answer (Missing id) = refl
same_answer (NotACommit id) = refl
same_answer (Source fault) = refl

takes_down_so : (e : RevFault) → takes_down (of_rev e) ≡ value_takes_down e
takes_down_so (Refused refusal) = refl
takes_down_so (Missing id) = refl
takes_down_so (NotACommit id) = refl
takes_down_so (Source fault) = refl

pub no_value_answers : (old new : FileMap) (slots after : List (Option SessionText)) (text : List ℕ) (e : ExprText) (was_up is_up : Bool) (fault : RevFault) (told : SharedFault)
    → IsExpr text e → IsOfExpr old e fault → new ≡ old → after ≡ slots → told ≡ of_rev fault → was_up ≡ true → is_up ≡ not (takes_down told)
    → AnswersShared (Asks (Resolve text)) (FoundAs fault_answer (Err told)) old new slots after was_up is_up
no_value_answers old new slots after text e was_up is_up fault told spelled why files same is was up =
    subst (λ (a : Answer). AnswersShared (Asks (Resolve text)) (Quietly a) old new slots after was_up is_up) (sym (ap fault_answer is ∙ same_answer fault))
    (values_answer old new slots after text e was_up is_up (Err fault) spelled tt why files same was (up ∙ ap not (ap takes_down is ∙ takes_down_so fault)))

device_alone : (e : RevFault) → IsOfDevice (of_rev e) → e ≡ Source (Store (store.Fault Device))
device_alone (Refused refusal) never = absurd never
device_alone (Missing id) never = absurd never
device_alone (NotACommit id) never = absurd never
device_alone (Source fault) device = ap Source (source_alone fault device)

device_told : (e : RevFault) (told : SharedFault) (result : Result ObjectId RevFault) → told ≡ of_rev e → result ≡ Err e → IsOfDevice told → IsErrOf result (Source (Store (store.Fault Device)))
device_told e told result is ends device = ends ∙ ap Err (device_alone e (subst IsOfDevice is device))

module _ {D : Type 0} {failed : D → ℕ} {can_fail : D → Type 0} {left : D → Option ℕ} {old mid new : D} (e : RevFault) (told : SharedFault) (result : Result ObjectId RevFault)
    (is : told ≡ of_rev e) (ends : result ≡ Err e) where
  pub no_value_wears : new ≡ mid → Wears failed can_fail left old mid (IsErrOf result (Source (Store (store.Fault Device)))) → Wears failed can_fail left old new (IsOfDevice told)
  no_value_wears files w =
      subst (λ (d : D). Wears failed can_fail left old d (IsOfDevice told)) (sym files) (looks_told w (device_told e told result is ends))
