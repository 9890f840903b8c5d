use Rattle.vc_message.proofs.KeepingLaws.{kept_is_taken}
use Rattle.vc_message.proofs.keeping.kept_bytes_are_the_message.Goals as goal

pub returns : goal.returns
returns c = λ limit before bytes new kept. kept_is_taken limit before new bytes kept
