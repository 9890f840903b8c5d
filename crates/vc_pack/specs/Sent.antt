-- The objects that are sent.
use Rattle.std.specs.Prelude.{◌≡◌, ◌⊎◌, ◌↔◌, Bool, List, [], Option, Some, IsTrue, IsFalse, if◌then◌else◌}
use Rattle.vc_files.specs.FileMap.{FileMap}
use Rattle.vc_object_map.specs.Graph.{IsReachedBeyond}
use Rattle.vc_object.specs.Decoding.{StoredObject}
use Rattle.vc_object.specs.ObjectMap.{links_in}
use Rattle.vc_object.specs.declared.id.ObjectId.{ObjectId}
use Rattle.vc_pkt.specs.Carried.{object_named, with_object}
use Rattle.vc_object_map.specs.Store.{objects}

-- the list has exactly the stored objects of whose names this is so
abbrev pub ListsStored : FileMap → (ObjectId → Type 0) → List StoredObject → Type 0
ListsStored content IsSo listed = (id : ObjectId) (o : StoredObject) → object_named id listed ≡ Some o ↔ (IsSo id × (objects content id ≡ Some o))

-- they are those that the wants reach and the roots do not
abbrev pub AreSentBeyond : FileMap → List ObjectId → List ObjectId → List StoredObject → Type 0
AreSentBeyond content roots wants sent = ListsStored content (IsReachedBeyond (links_in (objects content)) roots wants) sent

-- what a name links to, and nothing if it is reached already; `has` tells that
unfoldable pub links_beyond : (ObjectId → Option (List ObjectId)) → (ObjectId → Bool) → ObjectId → Option (List ObjectId)
links_beyond links has id = if has id then Some [] else links id

-- the stored object with this name was added to those that are sent, unless the name is reached already
abbrev pub IsSentUnlessReached : FileMap → (ObjectId → Bool) → ObjectId → List StoredObject → List StoredObject → Type 0
IsSentUnlessReached content has id old new =
    (IsTrue (has id) × (new ≡ old)) ⊎ (IsFalse (has id) × ((o : StoredObject) × (objects content id ≡ Some o) × (new ≡ with_object o old)))
