-- The machine's answer to a call of a node, as the call tells it.
use Rattle.std.specs.Prelude.{Option, Result, Ok, Err}
use Rattle.vc_format.specs.Git.{bytes_of_id}
use Rattle.vc_rules.specs.Told.{Quietly}
use Rattle.vc_model.specs.Message.{Message}
use Rattle.vc_model.specs.Node.{Answer}
use Rattle.vc_model.specs.Node.Answer.{Did}
use Rattle.vc_model.specs.Node.Reply.{Found, Stored}
use Rattle.vc_object.specs.declared.id.ObjectId.{ObjectId}
use Rattle.vc_local.specs.Machine.{fault_answer}
use Rattle.vc_local.specs.declared.fault.NodeFault.{NodeFault}

-- to the question for a value, where a fault has this answer
abbrev pub FoundAs : {E : Type 0} → (E → Answer) → Result ObjectId E → Answer → Option Message → Type 0
FoundAs answer (Ok id) a sends = Quietly (Did (Found (bytes_of_id id))) a sends
FoundAs answer (Err e) a sends = Quietly (answer e) a sends

-- to its restart
abbrev pub RestartedAs : Result (Unit {0}) NodeFault → Answer → Option Message → Type 0
RestartedAs (Ok u) a sends = Quietly (Did Stored) a sends
RestartedAs (Err e) a sends = Quietly (fault_answer e) a sends
