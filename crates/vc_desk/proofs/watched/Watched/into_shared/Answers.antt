use Rattle.vc_desk.proofs.watched.Watched.into_shared.Goals as goal

pub returns-clause-run : goal.returns-clause-run
returns-clause-run g c h = let i = c.self.invariant in (i.1.0, record { start = c.self.inside.start.value; held = i.0; run = i.1.2 h })
