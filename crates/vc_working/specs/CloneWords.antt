-- What the words of a clone's subcommands stand for.
use Rattle.std.specs.Prelude.{◌≡◌, ℕ, ◌++◌, List, Some, codes}
use Rattle.vc_files.specs.declared.faults.Fault.TheVariants.{Memory}
use Rattle.vc_refname.specs.RefName.{first_broken_rule}
use Rattle.vc_cli.specs.declared.failure.Failure.{Failure}
use Rattle.vc_cli.specs.declared.failure.Failure.TheVariants.{Name, Fault}

-- the name of the ref that a branch is
abbrev pub branch_ref : List ℕ → List ℕ
branch_ref name = codes "refs/heads/" ++ name

-- why no branch has the name: the first rule that the name of its ref breaks, or memory runs out
abbrev pub IsOfBranch : List ℕ → Failure → Type 0
IsOfBranch name (Name rule) = first_broken_rule (branch_ref name) ≡ Some rule
IsOfBranch name (Fault fault) = fault ≡ Memory
IsOfBranch name _ = ⊥
