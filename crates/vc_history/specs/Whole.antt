-- Histories of which every commit is there.
use Rattle.std.specs.Prelude.{List}
use Rattle.vc_object_map.specs.Graph.{IsClosed, IsClosedUnder}
use Rattle.vc_object.specs.ObjectMap.{ObjectMap, parents_in}
use Rattle.vc_object.specs.declared.id.ObjectId.{ObjectId}

-- the name and all that parent links lead to from it are commits that are there
abbrev pub IsWhole : ObjectMap → ObjectId → Type 0
IsWhole objects id = IsClosed (parents_in objects) id

abbrev pub AreWhole : ObjectMap → List ObjectId → Type 0
AreWhole objects ids = IsClosedUnder (parents_in objects) ids

-- the same where it is so of the names that are known
abbrev pub AreWholeBeyond : ObjectMap → List ObjectId → List ObjectId → Type 0
AreWholeBeyond objects known ids = AreWhole objects known → AreWhole objects ids
