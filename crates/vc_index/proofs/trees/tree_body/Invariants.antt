use Rattle.std.proofs.Common.{◌≡◌, map, take}
use Rattle.vc_object.specs.Tree.{spelling}
use Rattle.vc_index.specs.Part.{part_entry}
use Rattle.vc_index.proofs.trees.tree_body.Given as goal

abbrev pub invariant-loop-part : goal.invariant-loop-part
invariant-loop-part l = l.body.items ≡ spelling (map part_entry (take l.part-index l.parts))
