use Rattle.vc_message.proofs.Readings.{read_named}
use Rattle.vc_message.proofs.laws.what_is_read_is_named.Goals as goal

pub returns : goal.returns
returns c = λ bytes m a. read_named bytes m a
