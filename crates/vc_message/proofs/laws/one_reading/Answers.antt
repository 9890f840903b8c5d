use Rattle.vc_message.proofs.Readings.{one_reading}
use Rattle.vc_message.proofs.laws.one_reading.Goals as goal

pub returns : goal.returns
returns c = λ bytes m n a b. one_reading bytes m n a b
