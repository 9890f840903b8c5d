use Rattle.vc_pkt.proofs.FaultLaws.{spelled_all, read_all}
use Rattle.std.specs.FinMap.{empty}
use Rattle.vc_fetch.specs.Advert.{SpellsAdvert, advert_step}
use Rattle.vc_fetch.specs.AdvertView.{advert_text}
use Rattle.vc_fetch.proofs.Adverts.{advert_spelled, advert_given}
use Rattle.vc_fetch.proofs.advert.Advert.read.Goals as goal

pub returns-clause-spelled : goal.returns-clause-spelled
returns-clause-spelled c = spelled_all advert_step empty SpellsAdvert advert_spelled advert_given advert_text _ c.read_message.result c.read_message.ensures

pub returns-clause-read : goal.returns-clause-read
returns-clause-read c = read_all advert_step empty SpellsAdvert advert_spelled advert_given advert_text _ c.read_message.result c.read_message.ensures
