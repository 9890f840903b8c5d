-- What `hash-object` prints of a body, and why it may print nothing.
use Rattle.std.specs.Prelude.{◌≡◌, ℕ, ⊤, List, Option}
use Rattle.std.specs.Io.KnownBytes.{Keeps}
use Rattle.vc_files.specs.FileMap.{FileMap}
use Rattle.vc_object.specs.Decoding.{stored_object}
use Rattle.vc_object.specs.Object.{object_name, IsObject}
use Rattle.vc_object.specs.ObjectFault.{BodyFault}
use Rattle.vc_object.specs.declared.kind.Kind.{Kind}
use Rattle.vc_cli.specs.Failure.{IsFault}
use Rattle.vc_cli.specs.Printed.{AppendsFront, id_line}
use Rattle.vc_cli.specs.Stores.{OrUnopened}
use Rattle.vc_cli.specs.declared.failure.Failure.{Failure}
use Rattle.vc_object_map.specs.Store.{objects, with_object}
use Rattle.vc_object_map.specs.StoreFault.{IsOfPut}
use Rattle.vc_cli.specs.declared.failure.Failure.TheVariants.{Object, Store, Fault}

-- why the name of a body isn't printed: the body's own first fault, or a fault of memory or a device
abbrev pub IsOfBody : Kind → List ℕ → Failure → Type 0
IsOfBody kind body (Object fault) = BodyFault kind body fault
IsOfBody kind body (Fault fault) = ⊤
IsOfBody kind body _ = ⊥

-- why a body isn't stored: what a store says of such an object, or a fault of memory or a device
abbrev pub IsOfStored : Kind → List ℕ → Failure → Type 0
IsOfStored kind body (Store fault) = IsOfPut kind body fault
IsOfStored kind body (Fault fault) = ⊤
IsOfStored kind body _ = ⊥

-- the object of this body is stored under its name
abbrev pub StoresBody : FileMap → Kind → List ℕ → FileMap → Type 0
StoresBody old kind body new = objects new ≡ with_object (objects old) (object_name kind body) (stored_object kind body)

-- what is left of the files if a storing is told as failed: they are as they were; or the object is stored, and a fault kept it from
-- being seen to last
pub data LeavesStored (old : FileMap) (kind : Kind) (body : List ℕ) (new : FileMap) (e : Failure) : Type 0 where
  unstored : IsOfStored kind body e → new ≡ old → LeavesStored old kind body new e
  unsettled : IsFault e → IsObject kind body → StoresBody old kind body new → LeavesStored old kind body new e

-- what a storing leaves that ends with an error: the store is not opened, or the object not stored, and nothing is printed; or the
-- object is stored, and a fault kept its name from being printed to its end
pub data LeavesHashed (old : FileMap) (kind : Kind) (body : List ℕ) (new : FileMap) (before after : Option (List ℕ)) (e : Failure) : Type 0 where
  unstored : OrUnopened (IsOfStored kind body) e → new ≡ old → Keeps before after → LeavesHashed old kind body new before after e
  untold : IsFault e → IsObject kind body → StoresBody old kind body new → AppendsFront before after (id_line (object_name kind body)) → LeavesHashed old kind body new before after e
