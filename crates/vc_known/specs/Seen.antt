-- What a look at one name shows.
use Rattle.std.specs.Prelude.{◌≡◌, Option, Some, None}
use Rattle.vc_object.specs.Decoding.{StoredObject}
use Rattle.vc_object.specs.Links.{links_of}
use Rattle.vc_object.specs.ObjectMap.{ObjectMap}
use Rattle.vc_object.specs.declared.id.ObjectId.{ObjectId}
use Rattle.vc_known.specs.declared.seen.Seen.{Seen}

-- the object of that name is there, and it has this kind and these links
pub record Shows (objects : ObjectMap) (id : ObjectId) (seen : Seen) : Type 0 where
  pub object : StoredObject
  pub there : objects id ≡ Some object
  pub kind : seen.kind ≡ object.kind
  pub links : seen.links.items ≡ links_of object.kind object.body

abbrev pub IsSeen : ObjectMap → ObjectId → Option Seen → Type 0
IsSeen objects id None = objects id ≡ None
IsSeen objects id (Some seen) = Shows objects id seen
