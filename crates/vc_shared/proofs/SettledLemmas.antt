-- What a method of the shared node tells of a message, once what came of it has gone through the call that takes the node down after a
-- fault.
use Rattle.std.proofs.Common.{◌≡◌, ℕ, Bool, true, List, Option, Result, Ok, Err, ◌⊎◌, inr, sym, ap, ◌∙◌, subst}
use Rattle.std.specs.Prelude.{IfErr, IfOk, OnErr}
use Rattle.vc_files.specs.FileMap.{FileMap}
use Rattle.vc_files.specs.Failures.{Wears, Writes}
use Rattle.vc_model.specs.SharedCall.{SharedCall}
use Rattle.vc_local.specs.Clean.{KeepsClean}
use Rattle.vc_local.specs.declared.fault.NodeFault.TheVariants.{Down}
use Rattle.vc_quarantine.specs.Clean.{MakesNoneBad}
use Rattle.vc_push_rules.specs.Session.{SessionText}
use Rattle.vc_local.proofs.BesideLemmas.{clean_by}
use Rattle.vc_shared.specs.Accepting.{AnswersUp, IsAnsweredBytes}
use Rattle.vc_shared.specs.Calls.{AcceptedAs, AnswersShared}
use Rattle.vc_shared.proofs.ComingLemmas.{packed_free}
use Rattle.vc_shared.specs.Faults.{TellsDevice, up_after}
use Rattle.vc_shared.specs.Pushing.{ChangesFree}
use Rattle.vc_shared.specs.declared.accepting.Accepted.{Accepted}
use Rattle.vc_shared.specs.declared.fault.SharedFault.{SharedFault}
use Rattle.vc_shared.specs.declared.fault.SharedFault.TheVariants.{Node}

-- the files and the slots are those after the call, and the result is told as it came
module _ {D : Type 0} (content : D → FileMap) (old mid new : D) (slots mids after : List (Option SessionText)) (was_up is_up : Bool) (came told : Result Accepted SharedFault) (is : told ≡ came) (files : new ≡ mid) (same : after ≡ mids) where
  pub settled_answers : (call : SharedCall) → was_up ≡ true → is_up ≡ up_after told → AnswersUp call came (content old) (content mid) slots mids
      → AnswersShared call (AcceptedAs told) (content old) (content new) slots after was_up is_up
  settled_answers call was up answers =
      subst (λ (r : Result Accepted SharedFault). AnswersShared call (AcceptedAs r) (content old) (content new) slots after was_up is_up) (sym is)
      (subst (λ (d : D). AnswersShared call (AcceptedAs came) (content old) (content d) slots after was_up is_up) (sym files)
      (subst (λ (xs : List (Option SessionText)). AnswersShared call (AcceptedAs came) (content old) (content mid) slots xs was_up is_up) (sym same)
      (answers was_up is_up was (up ∙ ap (λ (r : Result Accepted SharedFault). up_after r) is))))

  pub settled_answered : (bytes : List ℕ) → IfOk came (IsAnsweredBytes (content old) (content mid) slots mids bytes) → IfOk told (IsAnsweredBytes (content old) (content new) slots after bytes)
  settled_answered bytes so =
      subst (λ (r : Result Accepted SharedFault). IfOk r (IsAnsweredBytes (content old) (content new) slots after bytes)) (sym is)
      (subst (λ (d : D). IfOk came (IsAnsweredBytes (content old) (content d) slots after bytes)) (sym files)
      (subst (λ (xs : List (Option SessionText)). IfOk came (IsAnsweredBytes (content old) (content mid) slots xs bytes)) (sym same) so))

  pub settled_err : OnErr came (mids ≡ slots) → OnErr told (after ≡ slots)
  settled_err kept =
      subst (λ (r : Result Accepted SharedFault). OnErr r (after ≡ slots)) (sym is)
      (subst (λ (xs : List (Option SessionText)). OnErr came (xs ≡ slots)) (sym same) kept)

  pub settled_clean : MakesNoneBad (content old) (content mid) → ChangesFree (content old) (content mid) slots → KeepsClean (content old) (content new)
  settled_clean bad outside =
      subst (λ (d : D). KeepsClean (content old) (content d)) (sym files)
      (clean_by (content old) (content mid) bad (packed_free (content old) (content mid) slots outside))

  module _ {failed : D → ℕ} {can_fail : D → Type 0} {left : D → Option ℕ} where
    pub settled_wear : {honest : Type 0} → Writes honest content failed can_fail left old mid (TellsDevice came) → Writes honest content failed can_fail left old new (TellsDevice told)
    settled_wear {honest} wear =
        subst (λ (r : Result Accepted SharedFault). Writes honest content failed can_fail left old new (TellsDevice r)) (sym is)
        (subst (λ (d : D). Writes honest content failed can_fail left old d (TellsDevice came)) (sym files) wear)

    pub settled_looks : {May : Type 0} → May ⊎ Wears failed can_fail left old mid (TellsDevice came) → May ⊎ Wears failed can_fail left old new (TellsDevice told)
    settled_looks {May = May} may =
        subst (λ (r : Result Accepted SharedFault). May ⊎ Wears failed can_fail left old new (TellsDevice r)) (sym is)
        (subst (λ (d : D). May ⊎ Wears failed can_fail left old d (TellsDevice came)) (sym files) may)

refusal_here : (P : SharedFault → Type 0) (came : Result Accepted SharedFault) → IfErr came P → IfErr came (λ e. (e ≡ Node Down) ⊎ P e)
refusal_here P (Ok x) why = tt
refusal_here P (Err e) why = inr why

pub settled_refusal : (P : SharedFault → Type 0) (came told : Result Accepted SharedFault) → told ≡ came → IfErr came P → IfErr told (λ e. (e ≡ Node Down) ⊎ P e)
settled_refusal P came told is why = subst (λ (r : Result Accepted SharedFault). IfErr r (λ e. (e ≡ Node Down) ⊎ P e)) (sym is) (refusal_here P came why)
