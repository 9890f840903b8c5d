-- Objects of which one is taken away.
use Rattle.std.specs.Prelude.{None, bytes_eq, if◌then◌else◌}
use Rattle.vc_object.specs.ObjectMap.{ObjectMap}
use Rattle.vc_object.specs.declared.id.ObjectId.{ObjectId}

-- the objects but the one of this name
unfoldable pub without_object : ObjectMap → ObjectId → ObjectMap
without_object objects id q = if bytes_eq q.0 id.0 then None else objects q
