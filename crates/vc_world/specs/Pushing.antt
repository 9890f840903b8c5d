-- What a clone does with the answer to a push.
use Rattle.std.specs.Prelude.{Option, Some, Result, Ok, Err}
use Rattle.vc_files.specs.FileMap.{FileMap}
use Rattle.vc_message.specs.declared.message.Message.{Message as AnyMessage}
use Rattle.vc_message.specs.declared.message.Message.TheVariants as of
use Rattle.vc_model.specs.CloneCall.CloneCall.{Receive}
use Rattle.vc_model.specs.Message.{Message}
use Rattle.vc_model.specs.Node.{Answer}
use Rattle.vc_node.specs.CloneCalls.{AnswersClone, ReceivedAs}
use Rattle.vc_node.specs.Held.{Held}
use Rattle.vc_node.specs.declared.clone_fault.CloneFault.{CloneFault}
use Rattle.vc_node.specs.declared.exchanging.Received.{Received}
use Rattle.vc_node.specs.declared.exchanging.Received.TheVariants.{Moved, Reported, Send}
use Rattle.vc_push.specs.declared.report.Report.{Report}
use Rattle.vc_world.specs.Exchanging.{IsNoReport, PushedAs}
use Rattle.vc_world.specs.declared.ending.ExchangeEnd.{ExchangeEnd}
use Rattle.vc_world.specs.declared.ending.ExchangeEnd.TheVariants.{Clone, Memory, Stray}

-- it takes a report, and no other message
abbrev pub taken : {R : Type 0} → Result Received CloneFault → Result (Unit {0}) (ExchangeEnd R)
taken (Ok (Reported moved refused)) = Ok tt
taken (Ok (Send bytes)) = Err Stray
taken (Ok (Moved moved left)) = Err Stray
taken (Err fault) = Err (Clone fault)

-- a report, and no other message
abbrev pub report_in : {R : Type 0} → AnyMessage → Result Report (ExchangeEnd R)
report_in (of.Report report) = Ok report
report_in _ = Err Stray

-- there was no memory to read the report, or the message is none
abbrev pub IsUnreadReport : {R : Type 0} → Message → ExchangeEnd R → Type 0
IsUnreadReport m Memory = Unit {0}
IsUnreadReport m Stray = IsNoReport m
IsUnreadReport m _ = ⊥

-- The clone takes the message that came to its push, and what the push answers is what that comes to, whoever sent it.
pub record TakesAnswer {F R : Type 0} (content : F → FileMap) (m : Message) (result : Result Report (ExchangeEnd R)) (was is : Held F) : Type 0 where
  pub received : Result Received CloneFault
  pub receives : AnswersClone (Receive m) (ReceivedAs received) (content was.files) (content is.files) was.awaited is.awaited was.is_up is.is_up
  pub tells : (told : R → Answer) (a : Answer) (sends : Option Message) → ReceivedAs received a sends → PushedAs told result a (Some m)
