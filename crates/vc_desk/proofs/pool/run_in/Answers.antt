use Rattle.std.proofs.Common.{◌≡◌, length, rules, subst, sym}
use Rattle.std.specs.List.{AllZip}
use Rattle.std.specs.Vec.Iter.{into_iter_items}
use Rattle.vc_desk.specs.Pool.{IsPortBegun, IsPortServed}
use Rattle.vc_desk.proofs.Pooling.{zip_begins, zip_done, zip_ended, zip_joins, zip_none}
use Rattle.vc_desk.proofs.pool.run_in.Goals as goal

pub joins-init : goal.joins-init
joins-init g c =
    let begun = IsPortBegun g.N.Desk.made c.args.limit g.R.Source.can_fail g.R.Source.remaining g.W.Write.contents g.P.Port.came g.P.Port.told g.P.Port.closed in
    let served = IsPortServed g.N.Desk.made c.args.limit g.R.Source.can_fail g.R.Source.remaining g.W.Write.contents g.P.Port.came g.P.Port.told g.P.Port.closed in
    let none : length (into_iter_items c.starts.port-iterator) ≡ 0 = search rules in (
      c.args.ports.items,
      search rules,
      search rules,
      subst (λ l. AllZip begun c.args.ports.items l) (sym c.into_iter-worker-iterator.ensures.into_iter_gives.0) (zip_done begun _ c.args.ports.items c.starts.begun.items none c.starts.invariant.2),
      zip_none served c.args.ports.items c.args.served.items c.requires.served.0,
    )

pub joins-preserved : goal.joins-preserved
joins-preserved g c =
    let begun = IsPortBegun g.N.Desk.made c.args.limit g.R.Source.can_fail g.R.Source.remaining g.W.Write.contents g.P.Port.came g.P.Port.told g.P.Port.closed in
    let served = IsPortServed g.N.Desk.made c.args.limit g.R.Source.can_fail g.R.Source.remaining g.W.Write.contents g.P.Port.came g.P.Port.told g.P.Port.closed in
    let i = c.joins.invariant in
    let m = zip_joins begun served i.0 c.args.ports.items c.in-Some-worker.worker _ _ _ _ c.finish.result c.in-Some-worker.ensures.steps.0 c.push_reserved-in-joins.ensures.items i.3 (c.finish.ensures c.args.limit) i.4 in (
      m.0,
      search rules,
      search rules,
      m.1,
      m.2,
    )

pub returns : goal.returns
returns g c =
    let begun = IsPortBegun g.N.Desk.made c.args.limit g.R.Source.can_fail g.R.Source.remaining g.W.Write.contents g.P.Port.came g.P.Port.told g.P.Port.closed in
    let served = IsPortServed g.N.Desk.made c.args.limit g.R.Source.can_fail g.R.Source.remaining g.W.Write.contents g.P.Port.came g.P.Port.told g.P.Port.closed in
    let none : length (into_iter_items c.joins.worker-iterator) ≡ 0 = search rules in
    let i = c.joins.invariant in zip_ended begun served i.0 c.args.ports.items _ c.joins.served.items none i.3 i.4
