use Rattle.vc_pkt.proofs.WrittenStreams.{written_objects}
use Rattle.vc_pkt.proofs.laws.written_objects_are_read.Goals as goal

pub returns : goal.returns
returns c = λ objects w. written_objects objects w
