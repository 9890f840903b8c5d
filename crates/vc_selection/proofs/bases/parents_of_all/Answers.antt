use Rattle.std.proofs.Common.{◌≡◌, [], take, ap, ◌∙◌, refl, arith, get_or, length}
use Rattle.std.proofs.Math.Seq.{take-length}
use Rattle.vc_object.proofs.IdLemmas.{id_eq_equiv, id_eq-same}
use Rattle.vc_object.specs.ObjectId.{id_eq}
use Rattle.vc_object.specs.declared.id.ObjectId.{ObjectId}
use Rattle.vc_selection.proofs.PassedLemmas.{IsPassed-more, LinksTo-graph_read}
use Rattle.vc_history.specs.Walk.{graph_read, read_by}
use Rattle.vc_selection.proofs.bases.parents_of_all.Goals as goal

pub loop-id-preserved : goal.loop-id-preserved
loop-id-preserved c =
    let none : ObjectId = record { 0 = [] } in
    let id : ObjectId = get_or c.args.ids.now c.loop-id.id-index none in
    let met = c.args.walk.now.met.keys in
    let read = read_by c.args.walk.now in
    let items = c.parents_of.result.now in
    IsPassed-more (graph_read met read) id_eq id_eq_equiv id_eq-same c.args.ids.now c.loop-id.passed.keys c.add_others.new.passed.keys items
    c.loop-id.id-index id none (omega arith) refl c.loop-id.invariant
    (λ p. LinksTo-graph_read met read id p items c.parents_of.ensures) c.in_ok-add_others.ensures

pub returns : goal.returns
returns c =
    let all : take c.loop-id.id-index c.args.ids.now ≡ c.args.ids.now = ap (λ i. take i c.args.ids.now) (let last : c.loop-id.id-index ≡ length c.args.ids.now = omega arith in last) ∙ take-length c.args.ids.now in
    rw all at c.loop-id.invariant
