-- Packed refs, without where they lie in memory.
use Rattle.std.specs.Prelude.{ℕ, List}
use Rattle.std.specs.BTreeMap.{BTreeMap}
use Rattle.std.specs.FinMap.{from_entries}
use Rattle.vc_object.specs.declared.id.ObjectId.{ObjectId}
use Rattle.vc_refs.specs.Packed.{PackedMap}

abbrev pub packed_of : BTreeMap (List ℕ) ObjectId → PackedMap
packed_of by_name = from_entries by_name.entries
