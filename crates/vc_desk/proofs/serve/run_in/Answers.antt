use Rattle.std.proofs.Common.{◌≡◌, length, rules, subst, sym}
use Rattle.std.specs.Vec.Iter.{into_iter_items}
use Rattle.vc_desk.specs.Served.{AllBegun}
use Rattle.vc_desk.proofs.Serving.{begun_all, ended_all, ended_none, joins_more}
use Rattle.vc_desk.proofs.serve.run_in.Goals as goal

pub joins-init : goal.joins-init
joins-init g c =
    let none : length (into_iter_items c.starts.connection-iterator) ≡ 0 = search rules in (
      0,
      c.args.connections.items,
      search rules,
      search rules,
      subst (λ l. AllBegun c.args.limit g.R.Source.can_fail g.R.Source.remaining g.W.Write.contents 0 c.args.connections.items l) (sym c.into_iter-worker-iterator.ensures.into_iter_gives.0)
          (begun_all c.args.limit g.R.Source.can_fail g.R.Source.remaining g.W.Write.contents c.starts.name _ c.args.connections.items c.starts.started.items none c.starts.invariant.3),
      ended_none c.args.limit g.R.Source.can_fail g.R.Source.remaining g.W.Write.contents c.args.connections.items c.args.ends.items c.requires.ends.0,
    )

pub joins-preserved : goal.joins-preserved
joins-preserved g c =
    let i = c.joins.invariant in
    let m = joins_more c.args.limit g.R.Source.can_fail g.R.Source.remaining g.W.Write.contents i.0 i.1 c.args.connections.items c.in-Some-worker.worker _ _ _ _ c.finish.result c.in-Some-worker.ensures.steps.0 c.push_reserved-in-joins.ensures.items
    i.4 (c.finish.ensures c.args.limit) i.5 in (
      m.0,
      m.1,
      search rules,
      search rules,
      m.2,
      m.3,
    )

pub returns : goal.returns
returns g c =
    let none : length (into_iter_items c.joins.worker-iterator) ≡ 0 = search rules in
    let i = c.joins.invariant in
    ended_all c.args.limit g.R.Source.can_fail g.R.Source.remaining g.W.Write.contents i.0 i.1 c.args.connections.items _ c.joins.ends.items none i.4 i.5
