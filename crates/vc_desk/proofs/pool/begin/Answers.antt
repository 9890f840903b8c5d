use Rattle.vc_desk.proofs.Pooling.{begun_port}
use Rattle.vc_desk.proofs.pool.begin.Goals as goal

pub returns : goal.returns
returns g c = begun_port g.N.Desk.made c.args.limit g.R.Source.can_fail g.R.Source.remaining g.W.Write.contents g.P.Port.came g.P.Port.told g.P.Port.closed _ c.start.result c.start.ensures
