-- What a call of the shared node says: the machine's node that is held before it leads to one that is held after it, by the
-- machine's answer.
use Rattle.std.specs.Prelude.{◌<◌, Bool, List, Option, Result, Ok, Err, option_map}
use Rattle.vc_files.specs.FileMap.{FileMap}
use Rattle.vc_rules.specs.Told.{Quietly}
use Rattle.vc_message.specs.Told.{SendsBytes}
use Rattle.vc_model.specs.Message.{Message}
use Rattle.vc_model.specs.Node.{Answer}
use Rattle.vc_model.specs.Node.Answer.{Did}
use Rattle.vc_model.specs.Node.Reply.{MigratedAll, Opened, Passed, RefusedAll, Updated as UpdatedOne, UpdatedAll}
use Rattle.vc_model.specs.Repository.{IsBare, IsSound}
use Rattle.vc_model.specs.Shared.{SharedNode, slot_count}
use Rattle.vc_model.specs.SharedCall.{SharedAnswers, SharedCall}
use Rattle.vc_values.proofs.GitLaws.{git_rules}
use Rattle.vc_rules.specs.Git.{git}
use Rattle.vc_rules.specs.Verdicts.{machine_reason}
use Rattle.vc_push_rules.specs.Session.{SessionText}
use Rattle.vc_shared.specs.Faults.{fault_answer}
use Rattle.vc_shared.specs.Holding.{HoldsShared}
use Rattle.vc_shared.specs.declared.accepting.Accepted.{Accepted}
use Rattle.vc_shared.specs.declared.accepting.Accepted.TheVariants.{Reply, Slot}
use Rattle.vc_shared.specs.declared.fault.SharedFault.{SharedFault}
use Rattle.vc_shared.specs.declared.stepping.Stepped.{Stepped}
use Rattle.vc_shared.specs.declared.stepping.Stepped.TheVariants.{Checked, Migrated, Updated, Atomic, AtomicRefused, Finished}

-- the machine's answer to a step, as it is told
abbrev pub SteppedAs : Result Stepped SharedFault → Answer → Option Message → Type 0
SteppedAs (Ok (Checked n)) a sends = Quietly (Did (Passed n)) a sends
SteppedAs (Ok Migrated) a sends = Quietly (Did MigratedAll) a sends
SteppedAs (Ok (Updated name found)) a sends = Quietly (Did (UpdatedOne name.items (option_map machine_reason found))) a sends
SteppedAs (Ok (Atomic n)) a sends = Quietly (Did (UpdatedAll n)) a sends
SteppedAs (Ok (AtomicRefused name reason)) a sends = Quietly (Did (RefusedAll name.items (machine_reason reason))) a sends
SteppedAs (Ok (Finished bytes)) a sends = SendsBytes bytes.items a sends
SteppedAs (Err e) a sends = Quietly (fault_answer e) a sends

-- the machine's answer to a message, as it is told
abbrev pub AcceptedAs : Result Accepted SharedFault → Answer → Option Message → Type 0
AcceptedAs (Ok (Reply bytes)) a sends = SendsBytes bytes.items a sends
AcceptedAs (Ok (Slot k)) a sends = (k < slot_count) × Quietly (Did (Opened k)) a sends
AcceptedAs (Err e) a sends = Quietly (fault_answer e) a sends

-- Whatever node was held, some node is held after the call; and where the node was sound and bare, the answer and that node are the
-- machine's.
pub record AnswersShared (call : SharedCall) (shows : Answer → Option Message → Type 0) (old new : FileMap) (slots after : List (Option SessionText)) (was_up is_up : Bool) : Type 0 where
  pub each : (n : SharedNode) → HoldsShared old slots was_up n → (m : SharedNode) × (a : Answer) × (sends : Option Message) × HoldsShared new after is_up m × shows a sends
      × (IsSound git n.repository → IsBare git n.repository → SharedAnswers git git_rules n call a m sends)
