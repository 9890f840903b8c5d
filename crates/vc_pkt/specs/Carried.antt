-- Objects that come one after another, as a set by name.
use Rattle.std.specs.Prelude.{Bool, List, [], ◌∷◌, if◌then◌else◌, Option, find}
use Rattle.std.specs.List.{list_any}
use Rattle.std.specs.Ordering.{is_eq, match_ordering}
use Rattle.vc_object.specs.Object.{object_name}
use Rattle.vc_object.specs.ObjectId.{id_cmp}
use Rattle.vc_object.specs.Decoding.{StoredObject}
use Rattle.vc_object.specs.declared.id.ObjectId.{ObjectId}

-- the name of an object, of its kind and body
abbrev pub stored_name : StoredObject → ObjectId
stored_name object = object_name object.kind object.body

-- whether one of the objects has the name
abbrev pub has_name : ObjectId → List StoredObject → Bool
has_name id objects = list_any (λ o. is_eq (id_cmp id (stored_name o))) objects

-- the first of the objects that has the name
abbrev pub object_named : ObjectId → List StoredObject → Option StoredObject
object_named id objects = find (λ o. is_eq (id_cmp id (stored_name o))) objects

-- one more object, before the first that has a greater name
abbrev pub put_by_name : StoredObject → List StoredObject → List StoredObject
put_by_name object [] = object ∷ []
put_by_name object (o ∷ os) = match_ordering (id_cmp (stored_name object) (stored_name o)) (object ∷ o ∷ os) (o ∷ os) (o ∷ put_by_name object os)

-- one more object, which counts once
unfoldable pub with_object : StoredObject → List StoredObject → List StoredObject
with_object object objects = if has_name (stored_name object) objects then objects else put_by_name object objects

-- the objects and those that come behind them, each name once, in order of name
abbrev pub with_objects : List StoredObject → List StoredObject → List StoredObject
with_objects objects [] = objects
with_objects objects (o ∷ os) = with_objects (with_object o objects) os
