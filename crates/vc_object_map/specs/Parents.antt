-- What `parents` answers of a name, among objects.
use Rattle.std.specs.Prelude.{◌≡◌, Option, Some, None, IsSome}
use Rattle.vc_object.specs.ObjectMap.{ObjectMap, parents_in}
use Rattle.vc_object.specs.declared.id.ObjectId.{ObjectId}
use Rattle.vc_object_map.specs.declared.source.Parents.{Parents}
use Rattle.vc_object_map.specs.declared.source.Parents.TheVariants.{Of, NotCommit}

-- the object of that name is there, and is no commit
abbrev pub IsOther : ObjectMap → ObjectId → Type 0
IsOther objects id = IsSome (objects id) × (parents_in objects id ≡ None)

abbrev pub AreParents : ObjectMap → ObjectId → Option Parents → Type 0
AreParents objects id None = objects id ≡ None
AreParents objects id (Some NotCommit) = IsOther objects id
AreParents objects id (Some (Of parents)) = parents_in objects id ≡ Some parents.items
