use Rattle.std.proofs.Common.{List, [], ◌≡◌, ◌++◌, map}
use Rattle.std.specs.FinMap.{entries}
use Rattle.vc_index.specs.Building.{Joins}
use Rattle.vc_index.specs.HeldFiles.{Pair}
use Rattle.vc_index.specs.IndexMap.{index_of}
use Rattle.vc_index.proofs.trees.check_sizes.Given as goal

abbrev pub invariant-loop-path : goal.invariant-loop-path
invariant-loop-path l = record {
  can : goal.iterator-loop-path.can_next l.path-iterator;
  finite : goal.iterator-loop-path.is_finite l.path-iterator;
  walked : (front : List Pair) × (entries (index_of l.map) ≡ front ++ map (λ e. (e.0.items, e.1)) l.path-iterator);
  joins : Joins (index_of l.map) (map (λ e. (e.0.items, e.1)) l.path-iterator) [] l.parts.items;
}
