use Rattle.std.proofs.Common.{◌≡◌, take, map}
use Rattle.std.specs.Prelude.{filter_map, string_bytes}
use Rattle.vc_object_map.specs.Store.{name_in}
use Rattle.vc_store.proofs.listing.names_under.Given as goal

abbrev pub invariant-loop-path : goal.invariant-loop-path
invariant-loop-path g l = l.names.items ≡ filter_map name_in (map string_bytes (take l.path-index l.path-items))
