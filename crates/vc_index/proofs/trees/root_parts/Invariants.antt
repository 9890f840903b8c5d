use Rattle.std.proofs.Common.{List, [], ◌≡◌, ◌++◌, map}
use Rattle.std.specs.Prelude.{codes}
use Rattle.std.specs.FinMap.{entries}
use Rattle.vc_files.specs.Failures.{Writes}
use Rattle.vc_files.specs.FileMap.{SameOutside}
use Rattle.vc_object_map.specs.Store.{objects}
use Rattle.vc_index.specs.Damage.{KeepsDamage}
use Rattle.vc_index.specs.Building.{Closes}
use Rattle.vc_index.specs.HeldFiles.{Pair}
use Rattle.vc_index.specs.IndexMap.{index_of}
use Rattle.vc_index.proofs.trees.root_parts.Given as goal

abbrev pub invariant-loop-path : goal.invariant-loop-path
invariant-loop-path g l =
    let content = g.F.Files.content in
    record {
      can : (goal.iterator-loop-path g).can_next l.path-iterator;
      finite : (goal.iterator-loop-path g).is_finite l.path-iterator;
      walked : (front : List Pair) × (entries (index_of l.map) ≡ front ++ map (λ e. (e.0.items, e.1)) l.path-iterator);
      closes : Closes g.F.Files.honest (index_of l.map) (map (λ e. (e.0.items, e.1)) l.path-iterator) [] l.parts.items (objects (content l.fn.files)) (objects (content l.files));
      outside : g.F.Files.honest → SameOutside (codes "objects/") (content l.fn.files) (content l.files);
      undamaged : g.F.Files.honest → KeepsDamage (content l.fn.files) (content l.files);
      wear : Writes g.F.Files.honest content g.F.Files.failed g.F.Files.can_fail g.F.Files.left l.fn.files l.files ⊥;
    }
