use Rattle.vc_message.proofs.SourceLaws.{kept_consumes}
use Rattle.vc_message.proofs.source.read_uninterrupted.Goals as goal

pub returns-in-Ok-clause-bytes : goal.returns-in-Ok-clause-bytes
returns-in-Ok-clause-bytes g c = (kept_consumes _ _ _ _ c.tries.invariant c.in-Ok.ensures.bytes.0, c.in-Ok.ensures.bytes.1)
