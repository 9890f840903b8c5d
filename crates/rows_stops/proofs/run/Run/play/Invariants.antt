use Rattle.std.proofs.Common.{◌≡◌}
use Rattle.vc_events.specs.World.{clones_of}
use Rattle.rows_stops.proofs.run.Run.play.Given as goal

abbrev pub invariant-loop-line : goal.invariant-loop-line
invariant-loop-line l = clones_of l.self.world ≡ l.self.clones
