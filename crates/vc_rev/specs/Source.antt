-- What expressions are over: refs, HEAD, an index and objects.
use Rattle.std.specs.Prelude.{ℕ, List, Option}
use Rattle.vc_object.specs.ObjectMap.{ObjectMap}
use Rattle.vc_object.specs.declared.id.ObjectId.{ObjectId}

-- a ref is looked up by its whole name, HEAD by its value, an index by the whole path
pub record Names : Type 0 where
  pub ref : List ℕ → Option ObjectId
  pub head : Option ObjectId
  pub index : List ℕ → Option ObjectId

-- the objects by name, and the names in whose places something is stored, whole or damaged
pub record Source : Type 1 where
  pub names : Names
  pub objects : ObjectMap
  pub IsStored : ObjectId → Type 0

abbrev pub source : Names → ObjectMap → (ObjectId → Type 0) → Source
source names objects stored = record { names = names; objects = objects; IsStored = stored }
