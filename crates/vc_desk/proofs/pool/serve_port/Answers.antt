use Rattle.std.proofs.Common.{◌≡◌, None, subst}
use Rattle.std.specs.Prelude.{IfNone}
use Rattle.vc_desk.proofs.Pooling.{serving_more, serving_none, serving_still}
use Rattle.vc_desk.proofs.pool.serve_port.Goals as goal

pub connections-init : goal.connections-init
connections-init g c = serving_none g.N.Desk.made c.args.limit g.R.Source.can_fail g.R.Source.remaining g.W.Write.contents g.P.Port.came g.P.Port.told c.args.port

pub connections-preserved : goal.connections-preserved
connections-preserved g c =
    serving_more g.N.Desk.made c.args.limit g.R.Source.can_fail g.R.Source.remaining g.W.Write.contents g.P.Port.came g.P.Port.told c.args.port _ _ _ _ c.in-Some-next.connection c.work-end.result
    c.connections.invariant c.in-Some-next.is c.next-in-connections.ensures.came c.next-in-connections.ensures.told (c.work-end.ensures.ends, c.work-end.ensures.made) c.ended.ensures.came c.ended.ensures.told

pub returns-in_default : goal.returns-in_default
returns-in_default g c =
    let none : c.next-in-connections.result ≡ None = c.in_default.is in (
      serving_still g.N.Desk.made c.args.limit g.R.Source.can_fail g.R.Source.remaining g.W.Write.contents g.P.Port.came g.P.Port.told c.args.port _ c.next-in-connections.new.self c.next-in-connections.result
          c.connections.invariant none c.next-in-connections.ensures.came c.next-in-connections.ensures.told,
      subst (λ o. IfNone o (g.P.Port.closed c.next-in-connections.new.self)) none c.next-in-connections.ensures.closed,
    )
