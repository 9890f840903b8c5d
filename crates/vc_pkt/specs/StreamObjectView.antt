-- A carried object without where it lies in memory.
use Rattle.std.specs.Prelude.{◌≡◌, List, map}
use Rattle.std.specs.Map.{keys_of, values_of}
use Rattle.vc_object.specs.Decoding.{StoredObject}
use Rattle.vc_object.specs.declared.id.ObjectId.{ObjectId}
use Rattle.vc_pkt.specs.Carried.{stored_name}
use Rattle.vc_pkt.specs.declared.carried.StreamObject.{StreamObject}

abbrev pub stored : StreamObject → StoredObject
stored object = record { kind = object.kind; body = object.body.items }

-- the objects of a map, in order of name
abbrev pub objects_of : List (ObjectId × StreamObject) → List StoredObject
objects_of entries = map stored (values_of entries)

-- each object has its own name in the map
abbrev pub AreNamed : List (ObjectId × StreamObject) → Type 0
AreNamed entries = keys_of entries ≡ map stored_name (objects_of entries)
