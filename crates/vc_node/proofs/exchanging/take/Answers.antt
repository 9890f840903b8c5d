use Rattle.std.proofs.Common.{refl, subst}
use Rattle.vc_message.specs.AnyView.{message_text}
use Rattle.vc_message.specs.Machine.{TextOf}
use Rattle.vc_message.specs.declared.message.Message.{Message}
use Rattle.vc_node.proofs.ExchangingLemmas.{other_told}
use Rattle.vc_node.proofs.LearningLemmas.{learns_none}
use Rattle.vc_node.proofs.KeepingLemmas.{good_same}
use Rattle.vc_node.proofs.ReceivingClone.{nothing_beside}
use Rattle.vc_node.specs.Awaited.{awaited_text}
use Rattle.vc_node.proofs.exchanging.take.Goals as goal

pub returns-in-Advert-clause-looks : goal.returns-in-Advert-clause-looks
returns-in-Advert-clause-looks g c = λ honest m is. c.take_advert.ensures.looks honest m (subst (λ (x : Message). TextOf m (message_text x)) c.in-Advert.is is)

pub returns-in-Pack-clause-looks : goal.returns-in-Pack-clause-looks
returns-in-Pack-clause-looks g c = λ honest m is. c.take_pack.ensures.looks honest m (subst (λ (x : Message). TextOf m (message_text x)) c.in-Pack.is is)

pub returns-in-Report-clause-looks : goal.returns-in-Report-clause-looks
returns-in-Report-clause-looks g c = λ honest m is. c.take_report.ensures.looks honest m (subst (λ (x : Message). TextOf m (message_text x)) c.in-Report.is is)

pub returns-in-List-clause-answers : goal.returns-in-List-clause-answers
returns-in-List-clause-answers g c = λ honest m is. other_told (g.F.Files.content c.args.files.now) (awaited_text c.args.awaited.now) m _ _ c.in-List.is tt is

pub returns-in-Want-clause-answers : goal.returns-in-Want-clause-answers
returns-in-Want-clause-answers g c = λ honest m is. other_told (g.F.Files.content c.args.files.now) (awaited_text c.args.awaited.now) m _ _ c.in-Want.is tt is

pub returns-in-Push-clause-answers : goal.returns-in-Push-clause-answers
returns-in-Push-clause-answers g c = λ honest m is. other_told (g.F.Files.content c.args.files.now) (awaited_text c.args.awaited.now) m _ _ c.in-Push.is tt is

pub returns-clause-answers : goal.returns-clause-answers
returns-clause-answers g c = λ honest m is. other_told (g.F.Files.content c.args.files.now) (awaited_text c.args.awaited.now) m _ _ c.in-Error.is tt is

pub returns-in-List-clause-good : goal.returns-in-List-clause-good
returns-in-List-clause-good g c = λ honest. good_same _ _ refl

pub returns-in-Want-clause-good : goal.returns-in-Want-clause-good
returns-in-Want-clause-good g c = λ honest. good_same _ _ refl

pub returns-in-Push-clause-good : goal.returns-in-Push-clause-good
returns-in-Push-clause-good g c = λ honest. good_same _ _ refl

pub returns-clause-good : goal.returns-clause-good
returns-clause-good g c = λ honest. good_same _ _ refl

pub returns-in-List-clause-beside : goal.returns-in-List-clause-beside
returns-in-List-clause-beside g c = λ honest. nothing_beside _

pub returns-in-Want-clause-beside : goal.returns-in-Want-clause-beside
returns-in-Want-clause-beside g c = λ honest. nothing_beside _

pub returns-in-Push-clause-beside : goal.returns-in-Push-clause-beside
returns-in-Push-clause-beside g c = λ honest. nothing_beside _

pub returns-clause-beside : goal.returns-clause-beside
returns-clause-beside g c = λ honest. nothing_beside _

pub returns-in-List-clause-leaves : goal.returns-in-List-clause-leaves
returns-in-List-clause-leaves g c = record { awaits = refl; learnt = λ honest. learns_none _ _ _ _ refl (c.requires.agrees honest) }

pub returns-in-Want-clause-leaves : goal.returns-in-Want-clause-leaves
returns-in-Want-clause-leaves g c = record { awaits = refl; learnt = λ honest. learns_none _ _ _ _ refl (c.requires.agrees honest) }

pub returns-in-Push-clause-leaves : goal.returns-in-Push-clause-leaves
returns-in-Push-clause-leaves g c = record { awaits = refl; learnt = λ honest. learns_none _ _ _ _ refl (c.requires.agrees honest) }

pub returns-clause-leaves : goal.returns-clause-leaves
returns-clause-leaves g c = record { awaits = refl; learnt = λ honest. learns_none _ _ _ _ refl (c.requires.agrees honest) }
