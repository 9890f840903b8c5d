use Rattle.std.proofs.Common.{◌≡◌, List, map}
use Rattle.vc_object.specs.Tree.{Entry}
use Rattle.vc_index.specs.Building.{Building, IsNext, Joins, open_length}
use Rattle.vc_index.specs.HeldFiles.{Pair}
use Rattle.vc_index.specs.IndexMap.{IndexMap}
use Rattle.vc_index.specs.Part.{without_id}
use Rattle.vc_index.specs.declared.trees.Part.{Part}
use Rattle.vc_index.proofs.trees.join_folders.Given as goal

abbrev pub invariant-loop-last : goal.invariant-loop-last
invariant-loop-last l =
    (m : IndexMap) (trees : List (List Entry)) (rest : List Pair) (named : List Part) → IsNext l.next rest → l.fn.parts.items ≡ map without_id named → Building m trees named rest → Joins m rest trees l.parts.items

abbrev pub decreases-loop-last : goal.decreases-loop-last
decreases-loop-last l = open_length l.parts.items
