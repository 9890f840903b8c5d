-- What the quarantine of a slot holds, as the push that stands there carries it.
use Rattle.std.specs.Prelude.{List, Some, None, IsSome, Contains, Ok, Err, ℕ, ◌≡◌, option_and_then, if◌then◌else◌}
use Rattle.vc_fetch.specs.Pack.{is_object}
use Rattle.vc_files.specs.FileMap.{FileMap}
use Rattle.vc_object.specs.Decoding.{StoredObject}
use Rattle.vc_object.specs.ObjectMap.{ObjectMap}
use Rattle.vc_object.specs.declared.id.ObjectId.{ObjectId}
use Rattle.vc_pkt.specs.Carried.{object_named}
use Rattle.vc_push.specs.Push.{Carried}
use Rattle.vc_push_rules.specs.Quarantine.{quarantined}

-- it holds an object of each of these names, and of no other
pub record HoldsNames (content : FileMap) (slot : ℕ) (names : List ObjectId) : Type 0 where
  pub each : (id : ObjectId) → Contains names id → IsSome (quarantined content slot id)
  pub only : (id : ObjectId) → IsSome (quarantined content slot id) → Contains names id

-- objects that came, by name: what is in the grammar of its kind is an object, and nothing else is
unfoldable pub objects_in : List StoredObject → ObjectMap
objects_in objects id = option_and_then (λ o. if is_object o then Some o else None) (object_named id objects)

-- what a push brings: nothing where a body was at fault
abbrev pub objects_of_push : Carried → ObjectMap
objects_of_push (Ok objects) = objects_in objects
objects_of_push (Err bad) = λ id. None

-- it holds what the push brings, under these names
pub record Carries (content : FileMap) (slot : ℕ) (names : List ObjectId) (objects : ObjectMap) : Type 0 where
  pub same : (id : ObjectId) → quarantined content slot id ≡ objects id
  pub holds : HoldsNames content slot names
