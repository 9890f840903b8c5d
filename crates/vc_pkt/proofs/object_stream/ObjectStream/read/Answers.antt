use Rattle.vc_pkt.specs.ObjectStream.{SpellsObjects, is_any, set_step, no_objects}
use Rattle.vc_pkt.specs.ObjectStreamView.{carried}
use Rattle.vc_pkt.proofs.FaultLaws.{spelled_all, read_all}
use Rattle.vc_pkt.proofs.StreamLaws.{set_spelled, set_given}
use Rattle.vc_pkt.proofs.object_stream.ObjectStream.read.Goals as goal

pub returns-clause-spelled : goal.returns-clause-spelled
returns-clause-spelled c = spelled_all (set_step is_any) no_objects SpellsObjects (set_spelled is_any) (set_given is_any) carried _ c.read_message.result c.read_message.ensures

pub returns-clause-read : goal.returns-clause-read
returns-clause-read c = read_all (set_step is_any) no_objects SpellsObjects (set_spelled is_any) (set_given is_any) carried _ c.read_message.result c.read_message.ensures
