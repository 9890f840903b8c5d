use Rattle.vc_pkt.proofs.FaultLaws.{spelled_all, read_all}
use Rattle.vc_fetch.specs.ErrorMessage.{SpellsError, error_step}
use Rattle.vc_fetch.specs.declared.error.Error as declared
use Rattle.vc_fetch.proofs.Messages.{error_spelled, error_given}
use Rattle.vc_fetch.proofs.error.Error.read.Goals as goal

pub returns-clause-spelled : goal.returns-clause-spelled
returns-clause-spelled c = spelled_all error_step tt SpellsError error_spelled error_given (λ (error : declared.Error). error.text.items) _ c.read_message.result c.read_message.ensures

pub returns-clause-read : goal.returns-clause-read
returns-clause-read c = read_all error_step tt SpellsError error_spelled error_given (λ (error : declared.Error). error.text.items) _ c.read_message.result c.read_message.ensures
