-- An event and an answer are known by their parts.
use Rattle.std.proofs.Common.{◌≡◌, ◌-◌, ℕ, List, [], ◌∷◌, Option, Some, None, get_or, refl, sym, ap, ◌∙◌}
use Rattle.std.specs.Prelude.{unwrap_or}
use Rattle.vc_files.specs.declared.faults.Fault.{Fault as FilesFault}
use Rattle.vc_files.specs.declared.faults.Fault.TheVariants as files
use Rattle.vc_object.specs.declared.id.ObjectId.{ObjectId}
use Rattle.vc_push.specs.Reason.{reason_number}
use Rattle.vc_push.specs.declared.reason.Reason.{Reason}
use Rattle.vc_push.specs.declared.reason.Reason.TheVariants.{BadName, OutsideRefs, DeletionProhibited, MissingObjects, NotACommit, NonFastForward, AlreadyExists, NameConflict, Stale, UnpackerError, AtomicFailure}
use Rattle.vc_desk.specs.Entry.{AnswerText, EntryText, EventText}
use Rattle.vc_desk.specs.Entry.AnswerText.{Replied, Opened, Checked, Migrated, Updated, Atomic, AtomicRefused, Finished, Failed}
use Rattle.vc_desk.specs.Entry.EventText.{Accepts, Steps}
use Rattle.vc_desk.specs.Parts.{Parts, answer_parts, event_parts, fault_number}
use Rattle.vc_desk.specs.declared.entry.Failure.TheVariants.{Fault, NotOurs, Refused}

-- ---- back from the parts

abbrev event_by : Parts → EventText
event_by p = get_or (Accepts p.bytes ∷ Steps p.number ∷ []) p.kind (Steps 0)

event_again : (e : EventText) → event_by (event_parts e) ≡ e
event_again (Accepts bytes) = refl
event_again (Steps slot) = refl

-- the reason of a number; none of 0
abbrev reason_by : ℕ → Option Reason
reason_by n =
    get_or (None ∷ Some BadName ∷ Some OutsideRefs ∷ Some DeletionProhibited ∷ Some MissingObjects ∷ Some NotACommit ∷ Some NonFastForward ∷ Some AlreadyExists ∷ Some NameConflict ∷ Some Stale
    ∷ Some UnpackerError ∷ None ∷ None ∷ None ∷ None ∷ None ∷ None ∷ None ∷ Some AtomicFailure ∷ []) (n - 99) None

reason_again : (r : Reason) → reason_by (reason_number r) ≡ Some r
reason_again BadName = refl
reason_again OutsideRefs = refl
reason_again DeletionProhibited = refl
reason_again MissingObjects = refl
reason_again NotACommit = refl
reason_again NonFastForward = refl
reason_again AlreadyExists = refl
reason_again NameConflict = refl
reason_again Stale = refl
reason_again UnpackerError = refl
reason_again AtomicFailure = refl

abbrev fault_by : ℕ → FilesFault
fault_by n = get_or (files.Memory ∷ files.Device ∷ []) n files.Memory

fault_again : (fault : FilesFault) → fault_by (fault_number fault) ≡ fault
fault_again files.Memory = refl
fault_again files.Device = refl

abbrev id_by : List ℕ → ObjectId
id_by bytes = record { 0 = bytes }

abbrev answer_by : Parts → AnswerText
answer_by p =
    get_or (Replied p.bytes ∷ Opened p.number ∷ Checked p.number ∷ Migrated ∷ Updated p.bytes (reason_by p.number) ∷ Atomic p.number ∷ AtomicRefused p.bytes (unwrap_or (reason_by p.number) BadName)
    ∷ Finished p.bytes ∷ Failed (NotOurs (id_by p.bytes)) ∷ Failed (Refused p.number) ∷ Failed (Fault (fault_by p.number)) ∷ []) p.kind Migrated

answer_again : (a : AnswerText) → answer_by (answer_parts a) ≡ a
answer_again (Replied bytes) = refl
answer_again (Opened slot) = refl
answer_again (Checked passed) = refl
answer_again Migrated = refl
answer_again (Updated name None) = refl
answer_again (Updated name (Some reason)) = ap (λ (found : Option Reason). Updated name found) (reason_again reason)
answer_again (Atomic refs) = refl
answer_again (AtomicRefused name reason) = ap (λ (found : Option Reason). AtomicRefused name (unwrap_or found BadName)) (reason_again reason)
answer_again (Finished report) = refl
answer_again (Failed (NotOurs id)) = refl
answer_again (Failed (Refused number)) = refl
answer_again (Failed (Fault fault)) = ap (λ (f : FilesFault). Failed (Fault f)) (fault_again fault)

-- ---- by their parts

pub same_event : (a b : EventText) → event_parts a ≡ event_parts b → a ≡ b
same_event a b is = sym (event_again a) ∙ ap event_by is ∙ event_again b

pub same_answer : (a b : AnswerText) → answer_parts a ≡ answer_parts b → a ≡ b
same_answer a b is = sym (answer_again a) ∙ ap answer_by is ∙ answer_again b

pub same_entry : (a b : EntryText) → a.connection ≡ b.connection → event_parts a.event ≡ event_parts b.event → answer_parts a.answer ≡ answer_parts b.answer → a ≡ b
same_entry a b c e p =
    ap (λ (connection : ℕ). record { connection = connection; event = a.event; answer = a.answer }) c
    ∙ (ap (λ (event : EventText). record { connection = b.connection; event = event; answer = a.answer }) (same_event a.event b.event e)
    ∙ ap (λ (answer : AnswerText). record { connection = b.connection; event = b.event; answer = answer }) (same_answer a.answer b.answer p))
