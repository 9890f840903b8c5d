-- The machine's law of exact runs, at Git's format and the layers' own rules, which are relations and no tests.
use Rattle.std.specs.Prelude.{ℕ}
use Rattle.vc_model.specs.Exact.{Shadows}
use Rattle.vc_model.specs.ExactWorld.{FusedWorld, ExactHistory, ExactRun, NoExactCollision, NothingForgedExactly}
use Rattle.vc_model.specs.Run.{History}
use Rattle.vc_model.specs.Safe.{IsSafe}
use Rattle.vc_model.specs.World.{IsNew}
use Rattle.vc_rules.specs.Git.{git}
use Rattle.vc_runs.specs.Wire.{Readings, git_wire}

-- However bytes are read, an exact run of a new world is a run of the machine, moment by moment, and safe. The premises are that no
-- two different objects that occur have one name, and that nothing is forged.
abbrev pub EveryExactGitRunIsSafe : Type 0
EveryExactGitRunIsSafe = (readings : Readings) (n : ℕ) (start : FusedWorld) (h : ExactHistory) →
    IsNew start.world n → ExactRun git (git_wire readings) start h → NoExactCollision git (git_wire readings) start h → NothingForgedExactly git (git_wire readings) h →
    (k : History) × Shadows git (git_wire readings) start h k × IsSafe git start.world k
