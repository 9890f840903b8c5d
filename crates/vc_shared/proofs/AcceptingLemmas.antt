-- A message that comes to the shared node, once its kind is known.
use Rattle.std.proofs.Common.{◌≡◌, ◌≢◌, ℕ, Bool, true, List, Vec, Option, Result, Ok, Err, true≢false, refl, sym, ap, ◌∙◌, subst}
use Rattle.std.specs.Global.{Global}
use Rattle.std.specs.Prelude.{IfErr, IfOk, IsErrAnd, OnErr}
use Rattle.vc_fetch.specs.Want.{WantText}
use Rattle.vc_files.specs.Failures.{Wears}
use Rattle.vc_files.specs.FileMap.{FileMap}
use Rattle.vc_files.specs.declared.faults.Fault.{Fault as FilesFault}
use Rattle.vc_files.specs.declared.faults.Fault.TheVariants.{Memory}
use Rattle.vc_message.proofs.Readings.{one_refusal}
use Rattle.vc_message.specs.AnyMessage.{MessageText, SpellsMessage, a_list, a_pack, a_push, a_report, a_want, an_advert, an_error, any_step, beginning}
use Rattle.vc_message.specs.AnyView.{message_text}
use Rattle.vc_message.specs.Machine.{IsUnread, Reads, TextOf, pkt_number}
use Rattle.vc_message.specs.Read.{WasRead}
use Rattle.vc_rules.specs.Told.{Quietly}
use Rattle.vc_model.specs.Message.{Message}
use Rattle.vc_model.specs.Node.Answer.{Declined, Fault}
use Rattle.vc_model.specs.Question.Question.{Unread as AsksUnread}
use Rattle.vc_model.specs.Shared.{ServesNot, SharedNode}
use Rattle.vc_model.specs.SharedCall.{SharedCall}
use Rattle.vc_model.specs.SharedCall.SharedCall.{Accept, Asks, Open}
use Rattle.vc_local.specs.Machine.{failure_of}
use Rattle.vc_pkt.specs.Message.{FirstFault, IsSpelledBy, Refuses}
use Rattle.vc_pkt.specs.StepView.{Gives}
use Rattle.vc_pkt.specs.declared.fault.PktError.{PktError}
use Rattle.vc_pkt.specs.declared.fault.PktError.TheVariants as pkt
use Rattle.vc_pkt.specs.declared.fault.PktFault.{PktFault}
use Rattle.vc_rules.specs.Git.{git}
use Rattle.vc_push_rules.specs.Session.{SessionText}
use Rattle.vc_push.specs.Push.{PushText}
use Rattle.vc_quarantine.specs.Clean.{MakesNoneBad}
use Rattle.vc_shared.proofs.CallLemmas.{Leads, asked_leads, fault_leads, refused_leads}
use Rattle.vc_shared.proofs.PushingLemmas.{push_answers}
use Rattle.vc_shared.proofs.ServingLaws.{list_answers, want_answers}
use Rattle.vc_shared.proofs.SteppingLaws.{held_still, pushes_of}
use Rattle.vc_shared.specs.Accepting.{AnswersUp, IsAnsweredBytes, IsAnsweredMessage, IsRefusedBytes, IsRefusedMessage}
use Rattle.vc_shared.specs.Faults.{IsOfDevice, TellsDevice, of_device, of_pkt, up_after}
use Rattle.vc_shared.specs.Holding.{HoldsShared}
use Rattle.vc_shared.specs.Pushing.{ChangesFree, IsRefusedPush, OpensSlot, slot_reply}
use Rattle.vc_shared.specs.Serving.{IsAnswered, IsListed, RefusesList, RefusesWant, reply_of}
use Rattle.vc_shared.specs.declared.accepting.Accepted.{Accepted}
use Rattle.vc_shared.specs.declared.accepting.Accepted.TheVariants.{Reply, Slot}
use Rattle.vc_shared.specs.declared.fault.SharedFault.{SharedFault}
use Rattle.vc_shared.specs.declared.fault.SharedFault.TheVariants.{Unexpected, Unread}

-- ---- the answers told in one type
pub up_of_reply : (r : Result (Vec ℕ Global) SharedFault) → up_after (reply_of r) ≡ up_after r
up_of_reply (Ok bytes) = refl
up_of_reply (Err e) = refl

-- what is replied, or which slot is taken, is what is told of the message
pub reply_answered : (P : Vec ℕ Global → Type 0) (Q : Accepted → Type 0) (r : Result (Vec ℕ Global) SharedFault) (q : Result Accepted SharedFault) → q ≡ reply_of r → ((bytes : Vec ℕ Global) → P bytes → Q (Reply bytes)) → IfOk r P → IfOk q Q
reply_answered P Q r q is tells so = subst (λ (x : Result Accepted SharedFault). IfOk x Q) (sym is) (by r so)
  where
    by : (r : Result (Vec ℕ Global) SharedFault) → IfOk r P → IfOk (reply_of r) Q
    by (Ok bytes) so = tells bytes so
    by (Err e) so = tt

pub slot_answered : (P : ℕ → Type 0) (Q : Accepted → Type 0) (r : Result ℕ SharedFault) (q : Result Accepted SharedFault) → q ≡ slot_reply r → ((k : ℕ) → P k → Q (Slot k)) → IfOk r P → IfOk q Q
slot_answered P Q r q is tells so = subst (λ (x : Result Accepted SharedFault). IfOk x Q) (sym is) (by r so)
  where
    by : (r : Result ℕ SharedFault) → IfOk r P → IfOk (slot_reply r) Q
    by (Ok k) so = tells k so
    by (Err e) so = tt

-- a message that was read is the one that its bytes spell
pub message_answered : (old new : FileMap) (slots after : List (Option SessionText)) (bytes : List ℕ) (text : MessageText) (r : Result Accepted SharedFault) → IsSpelledBy SpellsMessage text bytes
    → IfOk r (IsAnsweredMessage old new slots after text) → IfOk r (IsAnsweredBytes old new slots after bytes)
message_answered old new slots after bytes text (Ok accepted) spelled so = (text, spelled, so)
message_answered old new slots after bytes text (Err e) spelled so = tt

pub up_of_slot : (r : Result ℕ SharedFault) → up_after (slot_reply r) ≡ up_after r
up_of_slot (Ok k) = refl
up_of_slot (Err e) = refl

-- a result that is another one, told in other words
module _ (call : SharedCall) (old new : FileMap) (slots after : List (Option SessionText)) (result told : Result Accepted SharedFault) where
  pub answers_as : result ≡ told → AnswersUp call told old new slots after → AnswersUp call result old new slots after
  answers_as is answers = subst (λ (r : Result Accepted SharedFault). AnswersUp call r old new slots after) (sym is) answers

-- ---- at a node that is up
module _ (content : FileMap) (slots : List (Option SessionText)) where
  -- nothing was done, for want of memory or by a device that failed
  pub faulted_answers : (call : SharedCall) (f : FilesFault) → call ≢ Open → AnswersUp call (Err (of_device f)) content content slots slots
  faulted_answers call f never was_up is_up was up = record { each = λ n held. by n (subst (λ (b : Bool). HoldsShared content slots b n) was held) }
    where
      by : (n : SharedNode) → HoldsShared content slots true n → Leads n call content slots is_up (Quietly (Fault (failure_of f)))
      by n held =
          let live = pushes_of content slots n.live held.live in
          subst (λ (b : Bool). Leads n call content slots b (Quietly (Fault (failure_of f)))) (sym up) (fault_leads call n live.0 live.1 content slots never held.spells held.clean (failure_of f))

  -- bytes that are no message
  pub unread_answers : (n : ℕ) (fault : PktFault) → pkt_number fault ≡ n → AnswersUp (Asks (AsksUnread n)) (Err (Unread fault)) content content slots slots
  unread_answers number fault is was_up is_up was up = record { each = λ n held. by n held }
    where
      by : (n : SharedNode) → HoldsShared content slots was_up n → Leads n (Asks (AsksUnread number)) content slots is_up (Quietly (Declined (pkt_number fault)))
      by n held =
          let live = pushes_of content slots n.live (subst (λ (b : Bool). HoldsShared content slots b n) was held).live in
          asked_leads (Asks (AsksUnread number)) n live.0 live.1 content slots is_up (held_still content content slots slots was_up is_up n refl refl (up ∙ sym was) held) (AsksUnread number) refl (Declined (pkt_number fault)) (ap Declined is)

  -- a message that is not for the shared node
  abbrev IsOther : MessageText → Type 0
  IsOther a_list = ⊥
  IsOther (a_want want) = ⊥
  IsOther (a_push push) = ⊥
  IsOther _ = Unit {0}

  declines : (m : Message) → ((n : SharedNode) (w : _) → ServesNot git n.repository w m 91) → AnswersUp (Accept m) (Err Unexpected) content content slots slots
  declines m refuses was_up is_up was up = record { each = λ n held. by n held }
    where
      by : (n : SharedNode) → HoldsShared content slots was_up n → Leads n (Accept m) content slots is_up (Quietly (Declined 91))
      by n held =
          let live = pushes_of content slots n.live (subst (λ (b : Bool). HoldsShared content slots b n) was held).live in
          refused_leads (Accept m) n live.0 live.1 content slots is_up (held_still content content slots slots was_up is_up n refl refl (up ∙ sym was) held) 91 (λ sound bare. refuses n live.0)

  pub advert_declined : (m : Message) (t : _) → TextOf m (an_advert t) → AnswersUp (Accept m) (Err Unexpected) content content slots slots
  advert_declined m t is = declines m (λ n w. subst (λ (s : Message). ServesNot git n.repository w s 91) (sym is.is) refl)

  pub pack_declined : (m : Message) (t : _) → TextOf m (a_pack t) → AnswersUp (Accept m) (Err Unexpected) content content slots slots
  pack_declined m t is = declines m (λ n w. subst (λ (s : Message). ServesNot git n.repository w s 91) (sym is.is) refl)

  pub report_declined : (m : Message) (t : _) → TextOf m (a_report t) → AnswersUp (Accept m) (Err Unexpected) content content slots slots
  report_declined m t is = declines m (λ n w. subst (λ (s : Message). ServesNot git n.repository w s 91) (sym is.is) refl)

  pub error_declined : (m : Message) (t : List ℕ) → TextOf m (an_error t) → AnswersUp (Accept m) (Err Unexpected) content content slots slots
  error_declined m t is = declines m (λ n w. subst (λ (s : Message). ServesNot git n.repository w s 91) (sym is) refl)

-- ---- bytes that are not read
same_number : (bytes : List ℕ) (fault : PktFault) (n : ℕ) → FirstFault any_step beginning bytes fault → IsUnread bytes n → pkt_number fault ≡ n
same_number bytes fault n first unread = one_refusal bytes (pkt_number fault) n (record { fault = fault; first = first; number = refl }) unread

-- ---- kind by kind
module _ (m : Message) (old new : FileMap) (slots after : List (Option SessionText)) (result : Result Accepted SharedFault) where
  pub list_told : (r : Result (Vec ℕ Global) SharedFault) → result ≡ reply_of r → TextOf m a_list → IfOk r (λ bytes. IsListed old bytes.items) → IfErr r (RefusesList old) → new ≡ old → after ≡ slots
      → AnswersUp (Accept m) result old new slots after
  list_told r told is listed refused files same =
      answers_as (Accept m) old new slots after result (reply_of r) told
      (λ was_up is_up was up. list_answers m old new slots after was_up is_up r is listed refused files same was (up ∙ up_of_reply r))

  pub want_told : (want : WantText) (r : Result (Vec ℕ Global) SharedFault) → result ≡ reply_of r → WasRead (a_want want) → TextOf m (a_want want) → IfOk r (λ bytes. IsAnswered old want bytes.items)
      → IfErr r (RefusesWant old want) → new ≡ old → after ≡ slots → AnswersUp (Accept m) result old new slots after
  want_told want r told (read, spelled) is answered refused files same =
      answers_as (Accept m) old new slots after result (reply_of r) told
      (λ was_up is_up was up. want_answers m want read old new slots after was_up is_up r is spelled answered refused files same was (up ∙ up_of_reply r))

  pub push_told : (push : PushText) (r : Result ℕ SharedFault) → result ≡ slot_reply r → TextOf m (a_push push) → IfOk r (OpensSlot new slots after push) → OnErr r (after ≡ slots) → IfErr r (IsRefusedPush slots)
      → ChangesFree old new slots → MakesNoneBad old new → AnswersUp (Accept m) result old new slots after
  push_told push r told is opened unchanged refused outside bad =
      answers_as (Accept m) old new slots after result (slot_reply r) told
      (λ was_up is_up was up. push_answers old new slots after push m was_up is_up r is opened unchanged refused outside bad was (up ∙ up_of_slot r))

-- ---- why it is refused, and what the device did, told in other words
module _ (P : SharedFault → Type 0) where
  pub slot_refused : (r : Result ℕ SharedFault) (result : Result Accepted SharedFault) → result ≡ slot_reply r → IfErr r P → IfErr result P
  slot_refused (Ok k) result is h = subst (λ (q : Result Accepted SharedFault). IfErr q P) (sym is) tt
  slot_refused (Err e) result is h = subst (λ (q : Result Accepted SharedFault). IfErr q P) (sym is) h

  pub reply_refused : (r : Result (Vec ℕ Global) SharedFault) (result : Result Accepted SharedFault) → result ≡ reply_of r → IfErr r P → IfErr result P
  reply_refused (Ok k) result is h = subst (λ (q : Result Accepted SharedFault). IfErr q P) (sym is) tt
  reply_refused (Err e) result is h = subst (λ (q : Result Accepted SharedFault). IfErr q P) (sym is) h

reply_device : (r : Result (Vec ℕ Global) SharedFault) → TellsDevice (reply_of r) ≡ TellsDevice r
reply_device (Ok bytes) = refl
reply_device (Err e) = refl

module _ {D : Type 0} {failed : D → ℕ} {can_fail : D → Type 0} {left : D → Option ℕ} {old new : D} where
  pub reply_wears : (r : Result (Vec ℕ Global) SharedFault) (result : Result Accepted SharedFault) → result ≡ reply_of r → Wears failed can_fail left old new (TellsDevice r) → Wears failed can_fail left old new (TellsDevice result)
  reply_wears r result is w =
      subst (λ (q : Result Accepted SharedFault). Wears failed can_fail left old new (TellsDevice q)) (sym is) (subst (λ (P : Type 0). Wears failed can_fail left old new P) (sym (reply_device r)) w)

-- ---- bytes that could not be read
-- what is told is the fault by which they are refused, or want of memory
module _ (content : FileMap) (slots : List (Option SessionText)) (bytes : List ℕ) where
  pub failed_answers : (e : PktError) (result : Result Accepted SharedFault) → IsErrAnd result (λ x. x ≡ of_pkt e) → (m : Message) → Reads bytes m
      → ((text : MessageText) → IsSpelledBy SpellsMessage text bytes → Gives message_text (Err e) (Ok text)) → AnswersUp (Accept m) result content content slots slots
  failed_answers e (Ok x) is m reads given = absurd is
  failed_answers pkt.Memory (Err x) is m reads given =
      answers_as (Accept m) content content slots slots (Err x) (Err (of_device Memory)) (ap Err is) (faulted_answers content slots (Accept m) Memory (λ never. cc never))
  failed_answers (pkt.Refused fault) (Err x) is m reads given = absurd (let both : ◌≡◌ {A = Result MessageText PktFault} (Ok reads.text) (Err fault) = given reads.text reads.spelled in cc both)

  pub failed_unread : (e : PktError) (result : Result Accepted SharedFault) → IsErrAnd result (λ x. x ≡ of_pkt e) → (n : ℕ) → IsUnread bytes n → Refuses any_step beginning bytes e
      → AnswersUp (Asks (AsksUnread n)) result content content slots slots
  failed_unread e (Ok x) is n unread why = absurd is
  failed_unread pkt.Memory (Err x) is n unread why =
      answers_as (Asks (AsksUnread n)) content content slots slots (Err x) (Err (of_device Memory)) (ap Err is) (faulted_answers content slots (Asks (AsksUnread n)) Memory (λ never. cc never))
  failed_unread (pkt.Refused fault) (Err x) is n unread why =
      answers_as (Asks (AsksUnread n)) content content slots slots (Err x) (Err (Unread fault)) (ap Err is) (unread_answers content slots n fault (same_number bytes fault n why unread))

  pub failed_refused : (e : PktError) (result : Result Accepted SharedFault) → IsErrAnd result (λ x. x ≡ of_pkt e) → Refuses any_step beginning bytes e → IfErr result (IsRefusedBytes content slots bytes)
  failed_refused e (Ok x) is why = tt
  failed_refused pkt.Memory (Err x) is why = IsRefusedBytes.no_memory is
  failed_refused (pkt.Refused fault) (Err x) is why = IsRefusedBytes.unread fault why is

  -- ---- and bytes that were
  pub message_refused : (text : MessageText) (result : Result Accepted SharedFault) → IsSpelledBy SpellsMessage text bytes → IfErr result (IsRefusedMessage content slots text) → IfErr result (IsRefusedBytes content slots bytes)
  message_refused text (Ok x) spelled why = tt
  message_refused text (Err x) spelled why = IsRefusedBytes.refused text spelled why

pub no_device : (e : PktError) (result : Result Accepted SharedFault) → IsErrAnd result (λ x. x ≡ of_pkt e) → TellsDevice result → ⊥
no_device e (Ok x) is told = told
no_device pkt.Memory (Err x) is told = let device : IsOfDevice (of_device Memory) = subst IsOfDevice is told in true≢false (sym device)
no_device (pkt.Refused fault) (Err x) is told = subst IsOfDevice is told
