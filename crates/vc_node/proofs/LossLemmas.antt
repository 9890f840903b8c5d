-- What a clone tells of a reader that fails, call by call.
use Rattle.std.proofs.Common.{◌≡◌, ℕ, true, Option, Some, None, Result, Ok, Err, inl, inr, refl, sym, ap, subst}
use Rattle.std.specs.Prelude.{IsErrOf}
use Rattle.vc_files.specs.declared.faults.Fault.{Fault as FilesFault}
use Rattle.vc_message.proofs.SourceLaws.{loss_as, memory_is_no_failure, ok_is_no_error, tells_as, tells_not, unread_is_no_failure}
use Rattle.vc_message.specs.Source.{TellsFailures, TellsLoss}
use Rattle.vc_message.specs.declared.incoming_fault.IncomingFault.{IncomingFault}
use Rattle.vc_message.specs.declared.incoming_fault.IncomingFault.TheVariants as incoming
use Rattle.vc_node.specs.Arriving.{down_told, some_told}
use Rattle.vc_node.specs.CloneFaults.{of_device}
use Rattle.vc_node.specs.ReceiveFault.{ends_in_fault, of_incoming}
use Rattle.vc_node.specs.declared.clone_fault.CloneFault.{CloneFault}
use Rattle.vc_node.specs.declared.exchanging.Received.{Received}
use Rattle.vc_node.specs.declared.receive_fault.ReceiveFault.{ReceiveFault}
use Rattle.vc_node.specs.declared.receive_fault.ReceiveFault.TheVariants.{Node, ReadFailed}

-- what the node tells by itself is no failure of the reader
pub node_is_no_loss : {T : Type 0} {e : CloneFault} → ◌≡◌ {A = Result T ReceiveFault} (Err (Node e)) (Err ReadFailed) → ⊥
node_is_no_loss is = cc is

-- a failure of the reader is told as that, and nothing else is
pub loss_told : (e : IncomingFault) → e ≡ incoming.Failed → of_incoming e ≡ ReadFailed
loss_told e is = ap of_incoming is

pub loss_came : (e : IncomingFault) → of_incoming e ≡ ReadFailed → e ≡ incoming.Failed
loss_came incoming.Memory is = absurd (cc is)
loss_came incoming.Failed is = refl
loss_came (incoming.Unread fault) is = absurd (cc is)

module _ {S : Type 0} {failed : S → ℕ} {can_fail : S → Type 0} where
  module _ {old new : S} where
    -- the files fail while the quarantine is emptied, whatever ended the message
    pub loss_dropped : {T U : Type 0} (e : ReceiveFault) (f : FilesFault) → TellsFailures failed can_fail old new (IsErrOf {T = T} (Err e) ReadFailed)
        → TellsLoss failed can_fail old new (IsErrOf {T = U} (Err (Node (of_device f))) ReadFailed) (ends_in_fault {T = U} (Err (Node (of_device f))) ≡ true)
    loss_dropped ReadFailed f call = inr (refl, tells_as call (λ told. tt) (λ told. refl))
    loss_dropped (Node e) f call = inl (tells_not call node_is_no_loss node_is_no_loss)

    -- what came of a message is told of it
    pub loss_of_some : (r : Result Received ReceiveFault) (q : Result (Option Received) ReceiveFault) → q ≡ some_told r → TellsLoss failed can_fail old new (IsErrOf r ReadFailed) (ends_in_fault r ≡ true)
        → TellsLoss failed can_fail old new (IsErrOf q ReadFailed) (ends_in_fault q ≡ true)
    loss_of_some r q is call = subst (λ (t : Result (Option Received) ReceiveFault). TellsLoss failed can_fail old new (IsErrOf t ReadFailed) (ends_in_fault t ≡ true)) (sym is) (by r call)
      where
        by : (r : Result Received ReceiveFault) → TellsLoss failed can_fail old new (IsErrOf r ReadFailed) (ends_in_fault r ≡ true) → TellsLoss failed can_fail old new (IsErrOf (some_told r) ReadFailed) (ends_in_fault (some_told r) ≡ true)
        by (Ok received) call = loss_as call (λ told. absurd (ok_is_no_error told)) (λ told. absurd (ok_is_no_error told)) (λ fault. fault)
        by (Err ReadFailed) call = loss_as call (λ told. refl) (λ told. refl) (λ fault. fault)
        by (Err (Node e)) call = loss_as call (λ told. absurd (node_is_no_loss told)) (λ told. absurd (node_is_no_loss told)) (λ fault. fault)

    -- a node that is down has read the message to its end
    pub loss_of_down : (s : Result (Option (Unit {0})) IncomingFault) (q : Result (Option Received) ReceiveFault) → q ≡ down_told s → TellsFailures failed can_fail old new (IsErrOf s incoming.Failed)
        → TellsLoss failed can_fail old new (IsErrOf q ReadFailed) (ends_in_fault q ≡ true)
    loss_of_down s q is call = subst (λ (t : Result (Option Received) ReceiveFault). TellsLoss failed can_fail old new (IsErrOf t ReadFailed) (ends_in_fault t ≡ true)) (sym is) (inl (by s call))
      where
        by : (s : Result (Option (Unit {0})) IncomingFault) → TellsFailures failed can_fail old new (IsErrOf s incoming.Failed) → TellsFailures failed can_fail old new (IsErrOf (down_told s) ReadFailed)
        by (Ok (Some u)) call = tells_not call ok_is_no_error node_is_no_loss
        by (Ok None) call = tells_not call ok_is_no_error ok_is_no_error
        by (Err incoming.Failed) call = tells_as call (λ told. refl) (λ told. refl)
        by (Err incoming.Memory) call = tells_not call memory_is_no_failure node_is_no_loss
        by (Err (incoming.Unread fault)) call = tells_not call unread_is_no_failure node_is_no_loss

    -- what is told once the node has settled
    pub loss_of_same : {T : Type 0} (r q : Result T ReceiveFault) → q ≡ r → TellsLoss failed can_fail old new (IsErrOf r ReadFailed) (ends_in_fault r ≡ true) → TellsLoss failed can_fail old new (IsErrOf q ReadFailed) (ends_in_fault q ≡ true)
    loss_of_same {T = T} r q is call = subst (λ (t : Result T ReceiveFault). TellsLoss failed can_fail old new (IsErrOf t ReadFailed) (ends_in_fault t ≡ true)) (sym is) call
