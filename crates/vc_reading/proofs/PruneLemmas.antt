-- What a prune leaves that is not told as done: for `prune`.
use Rattle.std.proofs.Common.{◌≡◌, ◌⊎◌, ℕ, List, inl, inr, Ok, Err}
use Rattle.std.specs.Prelude.{Option, Result, IfErr, IfOk}
use Rattle.std.proofs.lemmas.Result.{IfErr-at_err, IfOk-at_ok}
use Rattle.std.specs.Io.KnownBytes.{Appends}
use Rattle.vc_cli.proofs.PrintLemmas.{front_whole}
use Rattle.vc_cli.specs.Failure.{IsFault}
use Rattle.vc_cli.specs.declared.failure.Failure.{Failure}
use Rattle.vc_files.specs.FileMap.{FileMap}
use Rattle.vc_model.specs.Clone.{IsReached}
use Rattle.vc_pruning.specs.Pruning.{Prunes}
use Rattle.vc_reading.specs.Pruned.{EndsPrune, EndsUntold, LeavesPruned, pruned_line}
use Rattle.vc_reading.specs.Pruned.LeavesPruned.{unpruned, untold}
use Rattle.vc_rules.specs.Git.{git}

ended : (old new : FileMap) (before after : Option (List ℕ)) (pruned : Result ℕ Failure) (e : Failure) → IfOk pruned (Prunes (IsReached git) old new) → IfErr pruned (λ f. EndsPrune f ⊎ (new ≡ old)) → EndsUntold pruned before after e
    → LeavesPruned old new before after e
ended old new before after pruned e gone ends (inl told) = unpruned (IfErr-at_err (λ f. EndsPrune f ⊎ (new ≡ old)) told.0 ends) told.1
ended old new before after pruned e gone ends (inr told) = untold told.0 told.2 (IfOk-at_ok (Prunes (IsReached git) old new) told.1 gone) told.3

-- what the files have after a prune, by what became of it, and what is told
pub left_untold : (old new : FileMap) (before after : Option (List ℕ)) (pruned : Result ℕ Failure) (told : Result (Unit {0}) Failure) → IfOk pruned (Prunes (IsReached git) old new) → IfErr pruned (λ f. EndsPrune f ⊎ (new ≡ old))
    → IfErr told (EndsUntold pruned before after) → IfErr told (LeavesPruned old new before after)
left_untold old new before after pruned (Ok x) gone ends told = tt
left_untold old new before after pruned (Err e) gone ends told = ended old new before after pruned e gone ends told

-- the number was printed, and then the terminal's first error is told
pub told_late : (count : ℕ) (pruned : Result ℕ Failure) (before after : Option (List ℕ)) (told : Result (Unit {0}) Failure) → pruned ≡ Ok count → IfErr told IsFault → Appends before after (pruned_line count)
    → IfErr told (EndsUntold pruned before after)
told_late count pruned before after (Ok x) is fault line = tt
told_late count pruned before after (Err e) is fault line = inr (count, is, fault, front_whole before after (pruned_line count) line)
