-- The line of an answer.
use Rattle.std.specs.List.{flat_map}
use Rattle.std.specs.Prelude.{◌≡◌, ◌++◌, ℕ, List, [], ◌∷◌, codes, decimal, length, take, Option, Some, None, Ok, Err, slice_get}
use Rattle.vc_events.specs.declared.answers.Answer.{Answer}
use Rattle.vc_events.specs.declared.answers.Answer.TheVariants as answer
use Rattle.vc_events.specs.declared.answers.Deed.{Deed}
use Rattle.vc_events.specs.declared.answers.Deed.TheVariants as deed
use Rattle.vc_events.specs.declared.letters.Letter.{Letter}
use Rattle.vc_events.specs.declared.letters.Letter.TheVariants as letter
use Rattle.vc_files.specs.declared.faults.Fault.{Fault}
use Rattle.vc_files.specs.declared.faults.Fault.TheVariants as fault
use Rattle.vc_message.specs.AnyMessage.{MessageText, SpellsMessage, a_pack, a_push}
use Rattle.vc_pkt.specs.Message.{IsSpelledBy}
use Rattle.vc_push.specs.Push.{Carried}
use Rattle.vc_push.specs.Reason.{reason_text}
use Rattle.vc_push.specs.declared.reason.Reason.{Reason}

-- ---- a message that was sent

abbrev pub letter_bytes : Letter → List ℕ
letter_bytes (letter.ToShared clone bytes) = bytes.items
letter_bytes (letter.ToClone clone bytes) = bytes.items

abbrev pub count_words : ℕ → List ℕ
count_words n = codes " objects " ++ decimal n

-- a push with a body at fault carries nothing
abbrev pub carried_words : Carried → List ℕ
carried_words (Ok objects) = count_words (length objects)
carried_words (Err bad) = count_words 0

-- how many objects a pack or a push brings
abbrev pub objects_words : MessageText → List ℕ
objects_words (a_pack pack) = count_words (length pack.objects)
objects_words (a_push push) = carried_words push.carried
objects_words _ = []

-- ---- answers

-- ` ng ` and its number, for each command that was refused
abbrev pub refused_words : List ℕ → List ℕ
refused_words numbers = flat_map (λ number. codes " ng " ++ decimal number) numbers

abbrev pub moved_words : ℕ → List ℕ
moved_words n = codes "moved " ++ decimal n

-- a space, and why a ref was not set
abbrev pub reason_words : Reason → List ℕ
reason_words reason = codes " " ++ reason_text reason

abbrev pub updated_words : List ℕ → Option Reason → List ℕ
updated_words name None = codes "ok " ++ name
updated_words name (Some reason) = (codes "ng " ++ name) ++ reason_words reason

-- no ref of an atomic push was set: why the first was not that has a cause of its own
abbrev pub atomic_words : List ℕ → Reason → List ℕ
atomic_words name reason = codes "atomic " ++ updated_words name (Some reason)

abbrev pub deed_words : Deed → List ℕ
deed_words deed.Stored = codes "done"
deed_words (deed.Made id) = codes "done"
deed_words deed.Same = codes "same"
deed_words deed.Differs = codes "differ"
deed_words (deed.Opened slot) = codes "slot " ++ decimal slot
deed_words (deed.Passed n) = codes "checked " ++ decimal n
deed_words deed.Migrated = codes "migrated"
deed_words (deed.Updated name found) = updated_words name.items found
deed_words (deed.Atomic n) = codes "atomic ok " ++ decimal n
deed_words (deed.AtomicRefused name reason) = atomic_words name.items reason
deed_words (deed.Moved moved left) = moved_words moved
deed_words (deed.Reported moved refused) = moved_words moved ++ refused_words refused.items
deed_words (deed.Removed n) = codes "pruned " ++ decimal n

abbrev pub fault_words : Fault → List ℕ
fault_words fault.Memory = codes "fault memory"
fault_words fault.Device = codes "fault device"

abbrev pub sent_words : ℕ → MessageText → List ℕ
sent_words k message = (codes "sent " ++ decimal k) ++ objects_words message

-- the words of an answer, where these messages were sent
abbrev pub AreWords : List Letter → Answer → List ℕ → Type 0
AreWords letters (answer.Did done) words = words ≡ deed_words done
AreWords letters (answer.Sent k) words = (l : Letter) (message : MessageText) → slice_get letters k ≡ Some l → IsSpelledBy SpellsMessage message (letter_bytes l) → words ≡ sent_words k message
AreWords letters (answer.Refused number) words = words ≡ codes "refused " ++ decimal number
AreWords letters (answer.Fault f) words = words ≡ fault_words f

-- each answer has a line, which ends in a line feed (10)
abbrev pub AreLines : List Letter → List Answer → List ℕ → Type 0
AreLines letters [] text = text ≡ []
AreLines letters (a ∷ answers) text = (words others : List ℕ) × AreWords letters a words × AreLines letters answers others × (text ≡ words ++ 10 ∷ others)

-- ---- a text that grows

-- the line of an answer stands after the old text
abbrev pub AddsLine : List Letter → Answer → List ℕ → List ℕ → Type 0
AddsLine letters a old new = (words : List ℕ) × AreWords letters a words × (new ≡ old ++ (words ++ 10 ∷ []))

-- the lines of the answers do
abbrev pub AddsLines : List Letter → List Answer → List ℕ → List ℕ → Type 0
AddsLines letters answers old new = (added : List ℕ) × AreLines letters answers added × (new ≡ old ++ added)

-- the lines of the first answers do
abbrev pub AddsFirst : List Letter → List Answer → List ℕ → List ℕ → Type 0
AddsFirst letters answers old new = (j : ℕ) × AddsLines letters (take j answers) old new
