-- What is left of a store from which all objects are taken away but those of some names.
use Rattle.std.specs.Prelude.{◌≡◌, ◌⊎◌, ◌+◌, ℕ, List, None, Contains, IsSome, cond, is_some, option_map}
use Rattle.std.specs.FinMap.{get, len}
use Rattle.vc_files.specs.FileMap.{FileMap}
use Rattle.vc_format.specs.Git.{id_of_bytes}
use Rattle.vc_model.specs.Object.{Id, Objects}
use Rattle.vc_model.specs.Repository.{PartlyPruned}
use Rattle.vc_object.specs.declared.id.ObjectId.{ObjectId}
use Rattle.vc_object_map.specs.Removal.{without_object}
use Rattle.vc_object_map.specs.Store.{HasFile, object_path, objects}
use Rattle.vc_rules.specs.Git.{stored_of}

-- the files show these objects of the machine
abbrev pub ShowsObjects : FileMap → Objects → Type 0
ShowsObjects content s = (x : Id) → objects content (id_of_bytes x) ≡ option_map stored_of (get s x)

-- Each file is as it was, or it was an object's and is gone.
pub record SparesFiles (old new : FileMap) : Type 0 where
  pub each : (path : List ℕ) → (get new path ≡ get old path) ⊎ ((id : ObjectId) × (path ≡ object_path id.0) × IsSome (objects old id) × (get new path ≡ None))

-- One object is taken away, or is kept; so many were there.
abbrev pub TakesOne : List ObjectId → ObjectId → FileMap → FileMap → ℕ → Type 0
TakesOne kept id old new n =
    (Contains kept id × (new ≡ old) × (n ≡ 0)) ⊎ ((¬ Contains kept id) × (objects new ≡ without_object (objects old) id) × (n ≡ cond (is_some (objects old id)) 1 0))

-- Whatever objects of the machine were shown: some with none of these names are gone, so many, and the rest is there.
abbrev pub Takes : List ObjectId → FileMap → FileMap → ℕ → Type 0
Takes kept old new n = (s : Objects) → ShowsObjects old s → (t : Objects) × ShowsObjects new t × PartlyPruned (λ x. Contains kept (id_of_bytes x)) s t × (n + len t ≡ len s)

-- Some objects with none of these names are gone, and nothing else has changed.
pub record TakesSome (kept : List ObjectId) (old new : FileMap) : Type 0 where
  pub spares : SparesFiles old new
  pub count : ℕ
  pub takes : Takes kept old new count

-- All of them are, and they were so many. Each file in an object's place was an object, or has one of these names.
pub record TakesAll (kept : List ObjectId) (old new : FileMap) (count : ℕ) : Type 0 where
  pub spares : SparesFiles old new
  pub takes : Takes kept old new count
  pub left : (id : ObjectId) → IsSome (objects new id) → Contains kept id
  pub whole : (id : ObjectId) → HasFile old id → IsSome (objects old id) ⊎ Contains kept id
