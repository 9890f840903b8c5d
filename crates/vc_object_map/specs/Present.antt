-- What is there of all that objects reach.
use Rattle.std.specs.Prelude.{List, IsSome}
use Rattle.vc_object.specs.ObjectMap.{ObjectMap, links_in}
use Rattle.vc_object.specs.declared.id.ObjectId.{ObjectId}
use Rattle.vc_object_map.specs.Graph.{ReachedFrom}

-- a root reaches the name, and it is there
abbrev pub IsPresentFrom : ObjectMap → List ObjectId → ObjectId → Type 0
IsPresentFrom objects roots id = ReachedFrom (links_in objects) roots id × IsSome (objects id)
