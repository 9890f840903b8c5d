-- What a method of a clone tells of a message, once what came of it has gone through the call that takes the node down after a fault.
use Rattle.std.proofs.Common.{◌≡◌, Bool, true, Option, Result, Ok, Err, ◌⊎◌, inr, refl, sym, ap, ◌∙◌, subst}
use Rattle.std.specs.Prelude.{ℕ, IfErr, OnErr}
use Rattle.vc_files.specs.FileMap.{FileMap}
use Rattle.vc_files.specs.Failures.{Wears, Writes}
use Rattle.vc_model.specs.CloneCall.{CloneCall}
use Rattle.vc_quarantine.specs.Clean.{MakesNoneBad}
use Rattle.vc_quarantine.specs.Learning.{Learnt}
use Rattle.vc_node.proofs.CloneCallLemmas.{as_told}
use Rattle.vc_local.proofs.BesideLemmas.{clean_by}
use Rattle.vc_node.proofs.ReceivingClone.{may_up}
use Rattle.vc_node.specs.Awaited.{AwaitedText}
use Rattle.vc_local.specs.Clean.{KeepsClean}
use Rattle.vc_refs.proofs.LayeredLemmas.{packed_map-same}
use Rattle.vc_refs.specs.Refs.{packed_path}
use Rattle.vc_tracking.specs.Storing.{KeepsBeside}
use Rattle.vc_node.specs.CloneCalls.{AnswersClone, AnswersUp, MayOr, ReceivedAs}
use Rattle.vc_node.specs.CloneFaults.{TellsDevice, up_after}
use Rattle.vc_node.specs.Learning.{LearnsFrom, Leaves}
use Rattle.vc_node.specs.Receipts.{IsOfMessage}
use Rattle.vc_node.specs.declared.clone_fault.CloneFault.{CloneFault}
use Rattle.vc_node.specs.declared.clone_fault.CloneFault.TheVariants.{Node}
use Rattle.vc_node.specs.declared.exchanging.Received.{Received}
use Rattle.vc_local.specs.declared.fault.NodeFault.TheVariants.{Down}

-- the files and what is awaited are those after the call, and the result is told as it came
module _ {D : Type 0} (content : D → FileMap) (old mid new : D) (waits mids after : AwaitedText) (was_up is_up : Bool) (came told : Result Received CloneFault) (is : told ≡ came) (files : new ≡ mid) (same : after ≡ mids) where
  pub settled_answers : (call : CloneCall) → was_up ≡ true → is_up ≡ up_after told → AnswersUp call came (content old) (content mid) waits mids → AnswersClone call (ReceivedAs told) (content old) (content new) waits after was_up is_up
  settled_answers call was up answers =
      subst (λ (r : Result Received CloneFault). AnswersClone call (ReceivedAs r) (content old) (content new) waits after was_up is_up) (sym is)
      (as_told call (ReceivedAs came) (content old) (content mid) (content new) waits mids after was_up is_up was_up is_up (ap content files) same refl refl
      (answers was_up is_up was (up ∙ ap (λ (r : Result Received CloneFault). up_after r) is)))

  pub settled_err : IfErr came (λ e. IsOfMessage e → content mid ≡ content old) → IfErr told (λ e. IsOfMessage e → content new ≡ content old)
  settled_err kept =
      subst (λ (r : Result Received CloneFault). IfErr r (λ e. IsOfMessage e → content new ≡ content old)) (sym is)
      (subst (λ (d : D). IfErr came (λ e. IsOfMessage e → content d ≡ content old)) (sym files) kept)

  pub settled_awaits : OnErr came (mids ≡ waits) → OnErr told (after ≡ waits)
  settled_awaits kept =
      subst (λ (r : Result Received CloneFault). OnErr r (after ≡ waits)) (sym is)
      (subst (λ (w : AwaitedText). OnErr came (w ≡ waits)) (sym same) kept)

  pub settled_clean : MakesNoneBad (content old) (content mid) → KeepsBeside (content old) (content mid) → KeepsClean (content old) (content new)
  settled_clean bad beside =
      subst (λ (d : D). KeepsClean (content old) (content d)) (sym files)
      (clean_by (content old) (content mid) bad (packed_map-same (content old) (content mid) (beside.at packed_path refl refl)))

  pub settled_learns : {honest : Type 0} (known between now : Learnt) → now ≡ between → is_up ≡ up_after told
      → Leaves honest (LearnsFrom came (content old) (content mid) known between) came (up_after came) (content mid) waits mids between → honest → is_up ≡ true → LearnsFrom told (content old) (content new) known now
  settled_learns known between now still up leaves h is_there =
      subst (λ (r : Result Received CloneFault). LearnsFrom r (content old) (content new) known now) (sym is)
      (subst (λ (d : D). LearnsFrom came (content old) (content d) known now) (sym files)
      (subst (λ (l : Learnt). LearnsFrom came (content old) (content mid) known l) (sym still)
      ((leaves.learnt h).learns (sym (up ∙ ap (λ (r : Result Received CloneFault). up_after r) is) ∙ is_there))))

  module _ {failed : D → ℕ} {can_fail : D → Type 0} {left : D → Option ℕ} where
    pub settled_wear : {honest : Type 0} → Writes honest content failed can_fail left old mid (TellsDevice came) → Writes honest content failed can_fail left old new (TellsDevice told)
    settled_wear {honest} wear =
        subst (λ (r : Result Received CloneFault). Writes honest content failed can_fail left old new (TellsDevice r)) (sym is)
        (subst (λ (d : D). Writes honest content failed can_fail left old d (TellsDevice came)) (sym files) wear)

    pub settled_looks : (call : CloneCall) → was_up ≡ true → MayOr call waits true (content old) (Wears failed can_fail left old mid (TellsDevice came))
        → MayOr call waits was_up (content old) (Wears failed can_fail left old new (TellsDevice told))
    settled_looks call was may =
        may_up call waits (content old) was_up was
        (subst (λ (r : Result Received CloneFault). MayOr call waits true (content old) (Wears failed can_fail left old new (TellsDevice r))) (sym is)
        (subst (λ (d : D). MayOr call waits true (content old) (Wears failed can_fail left old d (TellsDevice came))) (sym files) may))

-- what is said of the files after the call is said of those that the method leaves
pub kept_through : {D : Type 0} (content : D → FileMap) (Keeps : FileMap → FileMap → Type 0) (old mid new : D) → new ≡ mid → Keeps (content old) (content mid) → Keeps (content old) (content new)
kept_through content Keeps old mid new files keeps = subst (λ d. Keeps (content old) (content d)) (sym files) keeps

refusal_here : (P : CloneFault → Type 0) (came : Result Received CloneFault) → IfErr came P → IfErr came (λ e. (e ≡ Node Down) ⊎ P e)
refusal_here P (Ok x) why = tt
refusal_here P (Err e) why = inr why

pub settled_refusal : (P : CloneFault → Type 0) (came told : Result Received CloneFault) → told ≡ came → IfErr came P → IfErr told (λ e. (e ≡ Node Down) ⊎ P e)
settled_refusal P came told is why = subst (λ (r : Result Received CloneFault). IfErr r (λ e. (e ≡ Node Down) ⊎ P e)) (sym is) (refusal_here P came why)
