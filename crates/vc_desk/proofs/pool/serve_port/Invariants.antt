use Rattle.vc_desk.specs.Pool.{IsServing}
use Rattle.vc_desk.proofs.pool.serve_port.Given as goal

-- what came so far was served
abbrev pub invariant-connections : goal.invariant-connections
invariant-connections g l = IsServing g.N.Desk.made l.limit g.R.Source.can_fail g.R.Source.remaining g.W.Write.contents g.P.Port.came g.P.Port.told l.fn.port l.port
