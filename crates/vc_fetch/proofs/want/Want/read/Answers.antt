use Rattle.vc_pkt.proofs.FaultLaws.{spelled_all, read_all}
use Rattle.std.proofs.Common.{[]}
use Rattle.vc_fetch.specs.Want.{SpellsWant, wanting, want_step}
use Rattle.vc_fetch.specs.WantView.{want_text}
use Rattle.vc_fetch.proofs.Wants.{want_spelled, want_given}
use Rattle.vc_fetch.proofs.want.Want.read.Goals as goal

pub returns-clause-spelled : goal.returns-clause-spelled
returns-clause-spelled c = spelled_all want_step (wanting []) SpellsWant want_spelled want_given want_text _ c.read_message.result c.read_message.ensures

pub returns-clause-read : goal.returns-clause-read
returns-clause-read c = read_all want_step (wanting []) SpellsWant want_spelled want_given want_text _ c.read_message.result c.read_message.ensures
