use Rattle.std.proofs.Common.{◌≡◌, ◌+◌, length}
use Rattle.std.specs.FinMap.{empty}
use Rattle.std.specs.List.{AllByRecursion}
use Rattle.vc_simulation.proofs.memory_world.empty_files.Given as goal

abbrev pub invariant-loop : goal.invariant-loop
invariant-loop l = record {
  empty : AllByRecursion (λ files. files ≡ empty) l.files.items;
  count : length l.files.items ≡ l.counter + 1;
}
