use Rattle.vc_pkt.proofs.FaultLaws.{spelled_all, read_all}
use Rattle.vc_fetch.specs.Pack.{SpellsPack, starting, pack_step}
use Rattle.vc_fetch.specs.PackView.{pack_text}
use Rattle.vc_fetch.proofs.Packs.{pack_spelled, pack_given}
use Rattle.vc_fetch.proofs.pack.Pack.read.Goals as goal

pub returns-clause-spelled : goal.returns-clause-spelled
returns-clause-spelled c = spelled_all pack_step starting SpellsPack pack_spelled pack_given pack_text _ c.read_message.result c.read_message.ensures

pub returns-clause-read : goal.returns-clause-read
returns-clause-read c = read_all pack_step starting SpellsPack pack_spelled pack_given pack_text _ c.read_message.result c.read_message.ensures
