-- What a prune does to what is shown: the machine's objects that nothing needs go, or some of them (git-prune).
use Rattle.std.specs.Prelude.{◌≡◌, ◌+◌, ℕ, Option, Result, Ok, Err}
use Rattle.std.specs.FinMap.{len}
use Rattle.vc_files.specs.FileMap.{FileMap}
use Rattle.vc_local.specs.Machine.{Spells, fault_answer}
use Rattle.vc_local.specs.Shown.{shown}
use Rattle.vc_local.specs.declared.fault.NodeFault.{NodeFault}
use Rattle.vc_model.specs.Message.{Message}
use Rattle.vc_model.specs.Node.{Answer}
use Rattle.vc_model.specs.Node.Answer.{Did}
use Rattle.vc_model.specs.Node.Reply.{Removed}
use Rattle.vc_model.specs.Object.{Id, Objects}
use Rattle.vc_model.specs.Repository.{PartlyPruned, Pruned, Repository, with_objects}
use Rattle.vc_pruning.specs.Removing.{SparesFiles}
use Rattle.vc_rules.specs.Told.{Quietly}

-- Whatever repository was shown, some of its objects that are not needed are gone, and the rest is shown. No other file
-- differs, so none became bad.
pub record PrunesSome (needed : Repository → Id → Type 0) (old new : FileMap) : Type 0 where
  pub each : (r : Repository) → Spells (shown old) r → (s : Objects) × Spells (shown new) (with_objects r s) × PartlyPruned (needed r) r.objects s
  pub spares : SparesFiles old new

-- All of them are, no others, and they were so many.
pub record Prunes (needed : Repository → Id → Type 0) (old new : FileMap) (count : ℕ) : Type 0 where
  pub each : (r : Repository) → Spells (shown old) r → (s : Objects) × Spells (shown new) (with_objects r s) × Pruned (needed r) r.objects s × (count + len s ≡ len r.objects)
  pub spares : SparesFiles old new

-- the machine's answer to a prune: how many objects went
abbrev pub prune_answer : Result ℕ NodeFault → Answer
prune_answer (Ok count) = Did (Removed count)
prune_answer (Err e) = fault_answer e

-- a prune sends nothing
abbrev pub PrunedAs : Result ℕ NodeFault → Answer → Option Message → Type 0
PrunedAs result a sends = Quietly (prune_answer result) a sends
