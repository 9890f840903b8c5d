-- The objects of a pack, by name.
use Rattle.std.specs.Prelude.{List, Some, None, if◌then◌else◌, option_and_then}
use Rattle.vc_fetch.specs.Pack.{is_object}
use Rattle.vc_object.specs.Decoding.{StoredObject}
use Rattle.vc_object.specs.ObjectMap.{ObjectMap}
use Rattle.vc_pkt.specs.Carried.{object_named}

-- what is in the grammar of its kind is an object, and nothing else
unfoldable pub objects_in : List StoredObject → ObjectMap
objects_in objects id = option_and_then (λ o. if is_object o then Some o else None) (object_named id objects)
