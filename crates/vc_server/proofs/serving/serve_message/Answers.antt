use Rattle.vc_files.proofs.WearLemmas.{writes_told}
use Rattle.vc_server.proofs.TurnLemmas.{answer_fails, answer_leaves, answer_up, device_from, device_to, lost_from, lost_to}
use Rattle.vc_server.specs.Coming.{ServesAs}
use Rattle.vc_message.proofs.SourceLaws.{loss_as}
use Rattle.vc_server.proofs.serving.serve_message.Goals as goal

pub returns-clause-turn : goal.returns-clause-turn
returns-clause-turn g c = record {
  answered = c.answer_from-answered.result;
  serves = c.answer_from-answered.ensures.serves;
  none = c.answer_from-answered.ensures.none;
  lost = c.answer_from-answered.ensures.lost.kept;
  told = c.tell.ensures;
  up = c.answer_from-answered.ensures.up;
}

pub returns-clause-known : goal.returns-clause-known
returns-clause-known g c = λ m bytes rest is reads.
    let content = g.F.Files.content in
    let was = c.args.shared.now in
    let now = c.answer_from-answered.new.shared in
    answer_leaves g.W.Write.contents _ _ g.F.Files.honest was.is_up m (λ call. ServesAs call c.answer_from-answered.result (content was.files) (content now.files) was.slots now.slots was.is_up now.is_up) rest
    (g.R.Source.remaining c.answer_from-answered.new.reader) c.answer_from-answered.result c.tell.result c.tell.ensures (c.answer_from-answered.ensures.known m bytes rest is reads)

pub returns-clause-up : goal.returns-clause-up
returns-clause-up g c = λ up. answer_up g.W.Write.contents _ _ c.answer_from-answered.result c.tell.result _ c.tell.ensures (c.answer_from-answered.ensures.up up)

pub returns-clause-wear : goal.returns-clause-wear
returns-clause-wear g c =
    writes_told c.answer_from-answered.ensures.wear (device_to g.W.Write.contents _ _ c.answer_from-answered.result c.tell.result c.tell.ensures)
    (device_from g.W.Write.contents _ _ c.answer_from-answered.result c.tell.result c.tell.ensures)

pub returns-clause-lost : goal.returns-clause-lost
returns-clause-lost g c =
    loss_as c.answer_from-answered.ensures.lost.failures (lost_to g.W.Write.contents _ _ c.answer_from-answered.result c.tell.result c.tell.ensures) (lost_from g.W.Write.contents _ _ c.answer_from-answered.result c.tell.result c.tell.ensures)
    (answer_fails g.W.Write.contents _ _ c.answer_from-answered.result c.tell.result c.tell.ensures)
