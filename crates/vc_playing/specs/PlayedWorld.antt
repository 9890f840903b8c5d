-- What `world` prints, and why it may print nothing.
use Rattle.std.specs.Prelude.{⊤, ◌⊎◌, ℕ, List, []}
use Rattle.vc_script.specs.Script.{IsNoScript}
use Rattle.vc_simulation.specs.Playing.{Plays, PlaysFront}
use Rattle.vc_cli.specs.declared.failure.Failure.{Failure}
use Rattle.vc_cli.specs.declared.failure.Failure.TheVariants.{BadScript, Fault}

-- The script was played, and the lines of its answers are printed. `Told` says of them what became of them: all went out, or a front.
pub record PrintsPlayed (script : List ℕ) (Told : List ℕ → Type 0) : Type 0 where
  pub lines : List ℕ
  pub plays : Plays script [] lines
  pub text : Told lines

-- the same of the script, or of a front of its events and the first of their answers
pub record PrintsFirst (script : List ℕ) (Told : List ℕ → Type 0) : Type 0 where
  pub lines : List ℕ
  pub plays : Plays script [] lines ⊎ PlaysFront script [] lines
  pub text : Told lines

-- why not: the text is no script, or a fault
abbrev pub IsOfScript : List ℕ → Failure → Type 0
IsOfScript script BadScript = IsNoScript script
IsOfScript script (Fault fault) = ⊤
IsOfScript script _ = ⊥
