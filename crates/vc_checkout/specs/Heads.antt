-- The files of a tree as an index, and of no tree.
use Rattle.std.specs.Prelude.{◌≡◌, Option, Some, None}
use Rattle.std.specs.FinMap.{empty}
use Rattle.vc_object.specs.ObjectMap.{ObjectMap}
use Rattle.vc_object.specs.declared.id.ObjectId.{ObjectId}
use Rattle.vc_index.specs.IndexMap.{IndexMap}
use Rattle.vc_index.specs.TreeReading.{IsIndexOfTree}

-- the index has the files of the tree, if there is one
abbrev pub IsIndexOfHead : ObjectMap → Option ObjectId → IndexMap → Type 0
IsIndexOfHead objects None index = index ≡ empty
IsIndexOfHead objects (Some root) index = IsIndexOfTree objects root index
