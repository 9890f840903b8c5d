use Rattle.vc_desk.specs.Runs.{Held}
use Rattle.vc_desk.proofs.Making.{run_from}
use Rattle.vc_desk.proofs.pool.serve_ports.Goals as goal

pub returns-clause-run : goal.returns-clause-run
returns-clause-run g c h = let r = c.in_ok-served.ensures.run h in (r.0, run_from (Held g.F.Files.content) c.args.shared _ r.0 r.1)
