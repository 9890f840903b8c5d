use Rattle.std.proofs.Common.{List}
use Rattle.std.specs.Prelude.{codes}
use Rattle.vc_files.specs.Failures.{Writes}
use Rattle.vc_files.specs.FileMap.{SameOutside}
use Rattle.vc_object.specs.Tree.{Entry}
use Rattle.vc_object_map.specs.Store.{objects}
use Rattle.vc_index.specs.Damage.{KeepsDamage}
use Rattle.vc_index.specs.Building.{Building, Closes, IsNext, open_length}
use Rattle.vc_index.specs.HeldFiles.{Pair}
use Rattle.vc_index.specs.IndexMap.{IndexMap}
use Rattle.vc_index.proofs.trees.close_folders.Given as goal

abbrev pub invariant-loop-last : goal.invariant-loop-last
invariant-loop-last g l =
    let content = g.F.Files.content in
    record {
      closes : (m : IndexMap) (trees : List (List Entry)) (rest : List Pair) → IsNext l.next rest → Building m trees l.fn.parts.items rest
          → Closes g.F.Files.honest m rest trees l.parts.items (objects (content l.fn.files)) (objects (content l.files));
      outside : g.F.Files.honest → SameOutside (codes "objects/") (content l.fn.files) (content l.files);
      undamaged : g.F.Files.honest → KeepsDamage (content l.fn.files) (content l.files);
      wear : Writes g.F.Files.honest content g.F.Files.failed g.F.Files.can_fail g.F.Files.left l.fn.files l.files ⊥;
    }

abbrev pub decreases-loop-last : goal.decreases-loop-last
decreases-loop-last g l = open_length l.parts.items
