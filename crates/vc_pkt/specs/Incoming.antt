-- Objects as a stream brings them, without where they lie in memory.
use Rattle.std.specs.Prelude.{◌≡◌, List}
use Rattle.std.specs.List.{AllByRecursion}
use Rattle.std.specs.Map.{keys_of}
use Rattle.std.specs.declared.cmp.Ordering.TheVariants.{Less}
use Rattle.vc_object.specs.ObjectId.{id_cmp}
use Rattle.vc_object.specs.Decoding.{StoredObject}
use Rattle.vc_object.specs.declared.id.ObjectId.{ObjectId}
use Rattle.vc_pkt.specs.StreamObjectView.{objects_of}
use Rattle.vc_pkt.specs.declared.carried.StreamObject.{StreamObject}
use Rattle.vc_pkt.specs.declared.incoming.IncomingObjects.{IncomingObjects}
use Rattle.vc_pkt.specs.declared.incoming.IncomingObjects.TheVariants.{Ascending, Mixed}

-- the name is greater than each that is there
abbrev pub IsAbove : ObjectId → List (ObjectId × StreamObject) → Type 0
IsAbove id entries = AllByRecursion (λ k. id_cmp k id ≡ Less) (keys_of entries)

-- the objects, in order of name
abbrev pub incoming : IncomingObjects → List StoredObject
incoming (Ascending row) = objects_of row.items.items
incoming (Mixed objects) = objects_of objects.by_name.entries
