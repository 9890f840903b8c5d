-- Every exact run at Git's format is safe, by the machine's own proofs, which are of any rules.
use Rattle.vc_model.specs.Exact.{Shadows}
use Rattle.vc_model.specs.ExactWorld.{FusedWorld, ExactHistory, ExactRun, NoExactCollision, NothingForgedExactly}
use Rattle.vc_model.specs.Run.{History}
use Rattle.vc_model.specs.Safe.{IsSafe}
use Rattle.vc_model.specs.Wire.{Wire}
use Rattle.vc_model.specs.World.{IsNew}
use Rattle.vc_model.proofs.ExactRuns.{exact_run, honest_shadow}
use Rattle.vc_model.proofs.Safety.{every_run_safe}
use Rattle.vc_model.proofs.Kept.{new_is_sound}
use Rattle.vc_rules.specs.Git.{git}
use Rattle.vc_runs.specs.Safety.{EveryExactGitRunIsSafe}
use Rattle.vc_runs.specs.Wire.{git_wire}
use Rattle.std.specs.Prelude.{ℕ}

-- on any wire at all
pub safe_on : (wire : Wire git) (n : ℕ) (start : FusedWorld) (h : ExactHistory) → IsNew start.world n → ExactRun git wire start h → NoExactCollision git wire start h → NothingForgedExactly git wire h
    → (k : History) × Shadows git wire start h k × IsSafe git start.world k
safe_on wire n start h new r one honest =
    let k = exact_run git wire start h (new_is_sound git start.world n new) r one in
    (k.0, k.1, every_run_safe git n start.world k.0 new k.2 k.3 (honest_shadow git wire start h k.0 k.1 honest))

pub every_exact_git_run_is_safe : EveryExactGitRunIsSafe
every_exact_git_run_is_safe readings n start h new r one honest = safe_on (git_wire readings) n start h new r one honest
