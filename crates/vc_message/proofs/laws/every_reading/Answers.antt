use Rattle.vc_message.proofs.Readings.{every_reading, never_both}
use Rattle.vc_message.proofs.laws.every_reading.Goals as goal

pub returns-clause-each : goal.returns-clause-each
returns-clause-each c = λ bytes. every_reading bytes

pub returns-clause-apart : goal.returns-clause-apart
returns-clause-apart c = λ bytes m n a b. never_both bytes m n a b
