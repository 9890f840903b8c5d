-- Bytes that are read or refused, as the machine asks of what it takes from the layer of messages.
use Rattle.std.proofs.Common.{◌≡◌, ◌⊎◌, inl, inr, ℕ, List, Result, Ok, refl, ap, sym, ◌∙◌, subst, arith}
use Rattle.vc_pkt.specs.Message.{FirstFault, GivenBy, IsSpelledBy}
use Rattle.vc_pkt.specs.declared.fault.PktFault.{PktFault}
use Rattle.vc_pkt.specs.declared.fault.PktFault.TheVariants.{BadLength, BadRecord, CutMessage, SizeMismatch, TooLarge, TooMany}
use Rattle.vc_pkt.proofs.FaultLaws.{no_fault, one_first_fault, one_message}
use Rattle.vc_model.specs.Message.{IsNamedMessage, Message}
use Rattle.vc_model.specs.Wire.{IsUnreadable}
use Rattle.vc_rules.specs.Git.{git}
use Rattle.vc_message.specs.AnyMessage.{MessageText, SpellsMessage, any_step, any_step_own, beginning}
use Rattle.vc_message.specs.Machine.{IsUnread, Reads, TextOf, pkt_number}
use Rattle.vc_message.proofs.AnyLaws.{any_given, any_spelled}
use Rattle.vc_message.proofs.MachineTexts.{named_text, one_text, text_is}
use Rattle.vc_message.proofs.Totals.{read_or_unread}

pub one_reading : (bytes : List ℕ) (m n : Message) → Reads bytes m → Reads bytes n → m ≡ n
one_reading bytes m n a b =
    let (lines, each, s) = a.spelled in
    let (others, all, t) = b.spelled in
    let same = one_message any_step beginning bytes a.text lines each (any_given a.text lines s) b.text (others, all, any_given b.text others t) in
    one_text b.text m n (subst (λ text. TextOf m text) same a.is) b.is

pub read_named : (bytes : List ℕ) (m : Message) → Reads bytes m → IsNamedMessage git m
read_named bytes m a = named_text a.text m a.is

-- the text that they give is that of the message
pub text_read : (bytes : List ℕ) (m : Message) (text : MessageText) → Reads bytes m → ((t : MessageText) → IsSpelledBy SpellsMessage t bytes → ◌≡◌ {A = Result MessageText PktFault} (Ok t) (Ok text)) → TextOf m text
text_read bytes m text reads given =
    let both : ◌≡◌ {A = Result MessageText PktFault} (Ok reads.text) (Ok text) = given reads.text reads.spelled in
    let same : reads.text ≡ text = cc both in
    subst (λ (t : MessageText). TextOf m t) same reads.is

-- ---- what is refused
pub one_refusal : (bytes : List ℕ) (n k : ℕ) → IsUnread bytes n → IsUnread bytes k → n ≡ k
one_refusal bytes n k a b = a.number ∙ ap pkt_number (one_first_fault any_step beginning bytes a.fault b.fault a.first b.first) ∙ sym b.number

unreadable : (fault : PktFault) → IsUnreadable (pkt_number fault)
unreadable (BadLength place) = inl (omega arith, omega arith)
unreadable (BadRecord place) = inl (omega arith, omega arith)
unreadable SizeMismatch = inl (omega arith, omega arith)
unreadable CutMessage = inl (omega arith, omega arith)
unreadable TooMany = inl (omega arith, omega arith)
unreadable TooLarge = inr refl

pub refusal_number : (bytes : List ℕ) (n : ℕ) → IsUnread bytes n → IsUnreadable n
refusal_number bytes n a = subst (λ k. IsUnreadable k) (sym a.number) (unreadable a.fault)

-- bytes that are a message have no fault
pub never_unread : (bytes : List ℕ) (text : MessageText) (n : ℕ) → IsSpelledBy SpellsMessage text bytes → IsUnread bytes n → ⊥
never_unread bytes text n (lines, each, spells) unread = no_fault any_step beginning bytes text lines each (any_given text lines spells) unread.fault unread.first

pub never_both : (bytes : List ℕ) (m : Message) (n : ℕ) → Reads bytes m → IsUnread bytes n → ⊥
never_both bytes m n a b = never_unread bytes a.text n a.spelled b

-- ---- one or the other
abbrev pub ReadOr : List ℕ → Type 0
ReadOr bytes = ((m : Message) × Reads bytes m) ⊎ ((n : ℕ) × IsUnread bytes n)

by_lines : (bytes : List ℕ) → ((message : MessageText) × IsSpelledBy (GivenBy any_step beginning) message bytes) ⊎ ((fault : PktFault) × FirstFault any_step beginning bytes fault) → ReadOr bytes
by_lines bytes (inl (text, (lines, each, e))) =
    let s = any_spelled text lines e in
    let m = text_is text lines s in
    inl (m.0, record { text = text; is = m.1; spelled = (lines, each, s) })
by_lines bytes (inr (fault, first)) = inr (pkt_number fault, record { fault = fault; first = first; number = refl })

pub every_reading : (bytes : List ℕ) → ReadOr bytes
every_reading bytes = by_lines bytes (read_or_unread any_step beginning any_step_own bytes)
