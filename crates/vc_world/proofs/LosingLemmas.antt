-- What a clone makes of an answer that is lost on its way, and of one that comes from a reader.
use Rattle.std.proofs.Common.{◌≡◌, ◌≢◌, inl, inr, ℕ, Bool, true, false, List, Option, Some, None, Result, Ok, Err, subst, sym}
use Rattle.vc_files.specs.FileMap.{FileMap}
use Rattle.vc_files.specs.declared.faults.Fault.{Fault as FilesFault}
use Rattle.vc_message.specs.Coming.{Came, IsCome, a_message, cut_short, lost, no_message, nothing_came}
use Rattle.vc_message.specs.Incoming.{TakesNothing}
use Rattle.vc_message.specs.Source.{TellsLoss, one_more}
use Rattle.vc_model.specs.CloneCall.{CloneCall}
use Rattle.vc_model.specs.CloneCall.CloneCall.{Open, Receive}
use Rattle.vc_model.specs.Message.{Message}
use Rattle.vc_node.proofs.CloneCallLemmas.{fault_leads}
use Rattle.vc_node.proofs.ReceivingClone.{up_answers}
use Rattle.vc_node.specs.Arriving.{IsKnown, IsTold, KeepsHeld, ReceivesFrom, ToldAs}
use Rattle.vc_node.specs.Awaited.{AwaitedText}
use Rattle.vc_node.specs.CloneCalls.{AnswersClone, ReceivedAs}
use Rattle.vc_node.specs.CloneFaults.{of_device}
use Rattle.vc_node.specs.declared.clone_fault.CloneFault.{CloneFault}
use Rattle.vc_node.specs.declared.exchanging.Received.{Received}
use Rattle.vc_node.specs.declared.receive_fault.ReceiveFault.{ReceiveFault}
use Rattle.vc_node.specs.declared.receive_fault.ReceiveFault.TheVariants.{Node}

-- the clone goes down, by a fault of the call
pub lost_answers : (call : CloneCall) → call ≢ Open → (f : FilesFault) (e : CloneFault) → e ≡ of_device f → (old new : FileMap) (waits after : AwaitedText) (was_up is_up : Bool) → new ≡ old → after ≡ waits → was_up ≡ true → is_up ≡ false
    → AnswersClone call (ReceivedAs (Err e)) old new waits after was_up is_up
lost_answers call other f e is old new waits after was_up is_up files same was down =
    subst (λ (x : CloneFault). AnswersClone call (ReceivedAs (Err x)) old new waits after was_up is_up) (sym is)
    (subst (λ (content : FileMap). AnswersClone call (ReceivedAs (Err (of_device f))) old content waits after was_up is_up) (sym files)
    (subst (λ (w : AwaitedText). AnswersClone call (ReceivedAs (Err (of_device f))) old old waits w was_up is_up) (sym same)
    (up_answers call (Err (of_device f)) old old waits waits (λ awaited n waiting held. fault_leads call old waits awaited n waiting held other f) was_up is_up was down)))

-- what a call answers that begins at a clone which holds what was held before, it answers
pub answers_before : (call : CloneCall) (result : Result Received CloneFault) (old mid new : FileMap) (waits mids after : AwaitedText) (was_up mid_up is_up : Bool) → KeepsHeld old mid waits mids was_up mid_up
    → AnswersClone call (ReceivedAs result) mid new mids after mid_up is_up → AnswersClone call (ReceivedAs result) old new waits after was_up is_up
answers_before call result old mid new waits mids after was_up mid_up is_up keeps answers = record {
  each = λ awaited n waiting held. let kept = keeps awaited n waiting held in answers.each awaited n kept.0 kept.1;
}

-- ---- a message that a reader brought
module _ (honest : Type 0) (was_up is_up : Bool) (m : Message) (rest : List ℕ) (left : Option (List ℕ)) (old new : FileMap) (waits after : AwaitedText) where
  abbrev pub Known : Result (Option Received) ReceiveFault → Type 0
  Known r = IsKnown honest was_up m rest left (λ call. AnswersClone call (ToldAs r) old new waits after was_up is_up) r

  pub taken_answers : (r : Result (Option Received) ReceiveFault) (received : Received) → r ≡ Ok (Some received) → honest → Known r → AnswersClone (Receive m) (ReceivedAs (Ok received)) old new waits after was_up is_up
  taken_answers r received is h known = (subst Known is known).1 h

  pub refused_answers : (r : Result (Option Received) ReceiveFault) (e : CloneFault) → r ≡ Err (Node e) → honest → was_up ≡ true → Known r → AnswersClone (Receive m) (ReceivedAs (Err e)) old new waits after was_up is_up
  refused_answers r e is h up known = (subst Known is known).1 h (inl up)

  pub some_came : (r : Result (Option Received) ReceiveFault) → r ≡ Ok None → Known r → ⊥
  some_came r is known = subst Known is known

-- ---- a reader that brought none
-- where nothing came, nothing was taken
pub nothing_taken : (honest : Type 0) (before rest : Option (List ℕ)) (old new : FileMap) (waits after : AwaitedText) (was_up is_up : Bool) (found : Option Received) → found ≡ None
    → ReceivesFrom honest before rest old new waits after was_up is_up (Ok found) → TakesNothing before rest
nothing_taken honest before rest old new waits after was_up is_up found is receives = by was_up receives.came (subst (λ (f : Option Received). IsTold was_up receives.came (Ok f)) is receives.told) receives.is_come
  where
    by : (b : Bool) (came : Came) → IsTold b came (Ok None) → IsCome before rest came → TakesNothing before rest
    by true (a_message text) told come = absurd told
    by true nothing_came told come = come
    by true (no_message fault) told come = absurd told
    by true lost told come = absurd told
    by true cut_short told come = absurd told
    by false (a_message text) told come = absurd told
    by false nothing_came told come = come
    by false (no_message fault) told come = absurd told
    by false lost told come = absurd told
    by false cut_short told come = absurd told

-- a reader that is told as failed has failed
pub reader_failed : {S : Type 0} {failed : S → ℕ} {can_fail : S → Type 0} {old new : S} {P R : Type 0} → TellsLoss failed can_fail old new P R → P → (failed new ≡ one_more (failed old)) × can_fail old
reader_failed (inl call) told = (call.once told, call.could told)
reader_failed (inr (fault, call)) told = (call.once tt, call.could tt)
