-- The machine's answers.
use Rattle.std.specs.Prelude.{◌≡◌, ◌<◌, Option, Result, Ok, Err, option_map, length}
use Rattle.vc_files.specs.declared.faults.Fault.{Fault as FilesFault}
use Rattle.vc_files.specs.declared.faults.Fault.TheVariants as files
use Rattle.vc_message.specs.Told.{SendsBytes}
use Rattle.vc_rules.specs.Told.{Quietly}
use Rattle.vc_model.specs.ExactWorld.{FusedWorld}
use Rattle.vc_model.specs.Message.{Message}
use Rattle.vc_model.specs.Node.{Answer, Failure, Reply}
use Rattle.vc_model.specs.Node.Answer.{Declined, Did, Fault}
use Rattle.vc_model.specs.Node.Failure.{Device, Memory}
use Rattle.vc_model.specs.Node.Reply.{Differs, Made, MigratedAll, Moved, Opened, Passed, RefusedAll, Removed, Reported, Same, Sends, Stored, Updated, UpdatedAll}
use Rattle.vc_model.specs.Shared.{slot_count}
use Rattle.vc_rules.specs.Verdicts.{machine_reason}
use Rattle.vc_events.specs.declared.answers.Answer.{Answer as WorldAnswer}
use Rattle.vc_events.specs.declared.answers.Answer.TheVariants as answer
use Rattle.vc_events.specs.declared.answers.Deed.{Deed}
use Rattle.vc_events.specs.declared.answers.Deed.TheVariants as deed
use Rattle.vc_events.specs.declared.answers.Ended.{Ended}
use Rattle.vc_events.specs.declared.answers.Ended.TheVariants as ended
use Rattle.vc_events.specs.declared.answers.Told.{Told}
use Rattle.vc_events.specs.declared.answers.Told.TheVariants as told

abbrev pub reply_of : Deed → Reply
reply_of deed.Stored = Stored
reply_of (deed.Made id) = Made id.0
reply_of deed.Same = Same
reply_of deed.Differs = Differs
reply_of (deed.Opened k) = Opened k
reply_of (deed.Passed n) = Passed n
reply_of deed.Migrated = MigratedAll
reply_of (deed.Updated name found) = Updated name.items (option_map machine_reason found)
reply_of (deed.Atomic n) = UpdatedAll n
reply_of (deed.AtomicRefused name reason) = RefusedAll name.items (machine_reason reason)
reply_of (deed.Moved moved left) = Moved moved left
reply_of (deed.Reported moved refused) = Reported moved refused.items
reply_of (deed.Removed n) = Removed n

abbrev pub failure_of : FilesFault → Failure
failure_of files.Memory = Memory
failure_of files.Device = Device

abbrev pub answer_of : Ended → Answer
answer_of (ended.Refused n) = Declined n
answer_of (ended.Fault f) = Fault (failure_of f)

-- ---- what a node says

-- a slot is one that there is
abbrev pub IsOfSlots : Deed → Type 0
IsOfSlots (deed.Opened k) = k < slot_count
IsOfSlots _ = Unit {0}

-- What a node says is the machine's answer and what it sends.
abbrev pub Shows : Result Told Ended → Answer → Option Message → Type 0
Shows (Ok (told.Did d)) a sends = IsOfSlots d × Quietly (Did (reply_of d)) a sends
Shows (Ok (told.Sends bytes)) a sends = SendsBytes bytes.items a sends
Shows (Err e) a sends = Quietly (answer_of e) a sends

-- ---- what the world says

abbrev pub of_end : Ended → WorldAnswer
of_end (ended.Refused n) = answer.Refused n
of_end (ended.Fault f) = answer.Fault f

-- The machine's answer in this world. A message that is sent has the next number.
abbrev pub IsAnswer : FusedWorld → WorldAnswer → Answer → Type 0
IsAnswer w (answer.Did d) a = a ≡ Did (reply_of d)
IsAnswer w (answer.Sent k) a = (a ≡ Did Sends) × (k ≡ length w.world.sent)
IsAnswer w (answer.Refused n) a = a ≡ Declined n
IsAnswer w (answer.Fault f) a = a ≡ Fault (failure_of f)
