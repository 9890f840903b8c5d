-- Bytes that come to a clone: those that are a message, and those that could not be read.
use Rattle.std.proofs.Common.{◌≡◌, ℕ, List, Result, Ok, Err, true≢false, refl, sym, ap, subst}
use Rattle.std.specs.Prelude.{IfErr, IsErrAnd}
use Rattle.vc_files.specs.FileMap.{FileMap}
use Rattle.vc_files.specs.declared.faults.Fault.TheVariants.{Memory}
use Rattle.vc_message.proofs.Readings.{one_refusal}
use Rattle.vc_message.specs.AnyMessage.{MessageText, SpellsMessage, any_step, beginning}
use Rattle.vc_message.specs.AnyView.{message_text}
use Rattle.vc_message.specs.Machine.{IsUnread, Reads, pkt_number}
use Rattle.vc_model.specs.CloneCall.{CloneCall}
use Rattle.vc_model.specs.CloneCall.CloneCall.{Asks, Open, Receive}
use Rattle.vc_model.specs.Message.{Message}
use Rattle.vc_model.specs.Question.Question.{Unread as AsksUnread}
use Rattle.vc_pkt.specs.Message.{FirstFault, IsSpelledBy, Refuses}
use Rattle.vc_pkt.specs.StepView.{Gives}
use Rattle.vc_pkt.specs.declared.fault.PktError.{PktError}
use Rattle.vc_pkt.specs.declared.fault.PktError.TheVariants as pkt
use Rattle.vc_pkt.specs.declared.fault.PktFault.{PktFault}
use Rattle.vc_node.proofs.CloneCallLemmas.{fault_leads}
use Rattle.vc_node.proofs.ReceivingClone.{answers_as, unread_leads, up_answers}
use Rattle.vc_node.specs.Awaited.{AwaitedText}
use Rattle.vc_node.specs.CloneCalls.{AnswersUp, ReceivedAs}
use Rattle.vc_node.specs.CloneFaults.{IsOfDevice, TellsDevice, of_device, of_pkt}
use Rattle.vc_node.specs.Receipts.{IsRefusedBytes, IsRefusedMessage}
use Rattle.vc_node.specs.declared.clone_fault.CloneFault.{CloneFault}
use Rattle.vc_node.specs.declared.clone_fault.CloneFault.TheVariants.{Unread}
use Rattle.vc_node.specs.declared.exchanging.Received.{Received}

same_number : (bytes : List ℕ) (fault : PktFault) (n : ℕ) → FirstFault any_step beginning bytes fault → IsUnread bytes n → pkt_number fault ≡ n
same_number bytes fault n first unread = one_refusal bytes (pkt_number fault) n (record { fault = fault; first = first; number = refl }) unread

module _ (content : FileMap) (waits : AwaitedText) where
  -- nothing was done, for want of memory
  memory_answers : (call : CloneCall) → (call ≡ Open → ⊥) → AnswersUp call (Err (of_device Memory)) content content waits waits
  memory_answers call other =
      up_answers call (Err (of_device Memory)) content content waits waits (λ awaited n waiting held. fault_leads call content waits awaited n waiting held other Memory)

  unread_answers : (n : ℕ) (fault : PktFault) → pkt_number fault ≡ n → AnswersUp (Asks (AsksUnread n)) (Err (Unread fault)) content content waits waits
  unread_answers n fault is =
      subst (λ (k : ℕ). AnswersUp (Asks (AsksUnread k)) (Err (Unread fault)) content content waits waits) is
      (up_answers (Asks (AsksUnread (pkt_number fault))) (Err (Unread fault)) content content waits waits (λ awaited m waiting held.
      unread_leads content waits awaited m waiting held (pkt_number fault) (ReceivedAs (Err (Unread fault))) (record { answer = refl; sent = refl })))

  -- what is told is the fault by which the bytes are refused, or want of memory
  module _ (bytes : List ℕ) where
    pub failed_answers : (e : PktError) (result : Result Received CloneFault) → IsErrAnd result (λ x. x ≡ of_pkt e) → (m : Message) → Reads bytes m
        → ((text : MessageText) → IsSpelledBy SpellsMessage text bytes → Gives message_text (Err e) (Ok text)) → AnswersUp (Receive m) result content content waits waits
    failed_answers e (Ok x) is m reads given = absurd is
    failed_answers pkt.Memory (Err x) is m reads given = answers_as (Receive m) content content waits waits (Err x) (Err (of_device Memory)) (ap Err is) (memory_answers (Receive m) (λ never. cc never))
    failed_answers (pkt.Refused fault) (Err x) is m reads given = absurd (let both : ◌≡◌ {A = Result MessageText PktFault} (Ok reads.text) (Err fault) = given reads.text reads.spelled in cc both)

    pub failed_unread : (e : PktError) (result : Result Received CloneFault) → IsErrAnd result (λ x. x ≡ of_pkt e) → (n : ℕ) → IsUnread bytes n → Refuses any_step beginning bytes e
        → AnswersUp (Asks (AsksUnread n)) result content content waits waits
    failed_unread e (Ok x) is n unread why = absurd is
    failed_unread pkt.Memory (Err x) is n unread why =
        answers_as (Asks (AsksUnread n)) content content waits waits (Err x) (Err (of_device Memory)) (ap Err is) (memory_answers (Asks (AsksUnread n)) (λ never. cc never))
    failed_unread (pkt.Refused fault) (Err x) is n unread why =
        answers_as (Asks (AsksUnread n)) content content waits waits (Err x) (Err (Unread fault)) (ap Err is) (unread_answers n fault (same_number bytes fault n why unread))

    pub failed_refused : (e : PktError) (result : Result Received CloneFault) → IsErrAnd result (λ x. x ≡ of_pkt e) → Refuses any_step beginning bytes e → IfErr result (IsRefusedBytes content waits bytes)
    failed_refused e (Ok x) is why = tt
    failed_refused pkt.Memory (Err x) is why = IsRefusedBytes.no_memory is
    failed_refused (pkt.Refused fault) (Err x) is why = IsRefusedBytes.unread fault why is

    -- ---- bytes that were read
    pub message_refused : (text : MessageText) (result : Result Received CloneFault) → IsSpelledBy SpellsMessage text bytes → IfErr result (IsRefusedMessage content waits text) → IfErr result (IsRefusedBytes content waits bytes)
    message_refused text (Ok x) spelled why = tt
    message_refused text (Err x) spelled why = IsRefusedBytes.refused text spelled why

pub no_device : (e : PktError) (result : Result Received CloneFault) → IsErrAnd result (λ x. x ≡ of_pkt e) → TellsDevice result → ⊥
no_device e (Ok x) is told = told
no_device pkt.Memory (Err x) is told = let device : IsOfDevice (of_device Memory) = subst IsOfDevice is told in true≢false (sym device)
no_device (pkt.Refused fault) (Err x) is told = subst IsOfDevice is told
