-- What a node answers to wants and haves (git-upload-pack; that wants and haves count only where a ref reaches them is
-- this project's own rule).
use Rattle.std.specs.Prelude.{◌≡◌, ◌⊎◌, ◌↔◌, ℕ, List, Option, Some, None, Contains}
use Rattle.vc_fetch.specs.declared.want.Want.{Want}
use Rattle.vc_files.specs.FileMap.{FileMap}
use Rattle.vc_object_map.specs.Graph.{Reaches, ReachedFrom}
use Rattle.vc_object.specs.ObjectMap.{ObjectMap, links_in}
use Rattle.vc_object.specs.declared.id.ObjectId.{ObjectId}
use Rattle.vc_refs.specs.Head.{head_of}
use Rattle.vc_refs.specs.Refs.{refs}
use Rattle.vc_refs.specs.declared.heads.Head.TheVariants as head
use Rattle.vc_object_map.specs.Store.{objects}
use Rattle.vc_pack.specs.Picked.{IsFirst}

-- of the wants and the haves exactly those are among the ids that the roots reach
abbrev pub AreThoseReached : ObjectMap → List ObjectId → Want → List ObjectId → Type 0
AreThoseReached objects roots want ids = (id : ObjectId) → Contains want.wants.items id ⊎ Contains want.haves.items id → Contains ids id ↔ ReachedFrom (links_in objects) roots id

module _ (content : FileMap) where
  -- the value of a ref, or HEAD itself where it is an id
  abbrev pub IsRefValue : ObjectId → Type 0
  IsRefValue id = ((name : List ℕ) × (refs content name ≡ Some id)) ⊎ (head_of content ≡ Some (head.Id id))

  -- a ref of the node reaches the name
  pub record IsOurs (id : ObjectId) : Type 0 where
    pub value : ObjectId
    pub is_value : IsRefValue value
    pub reaches : Reaches (links_in (objects content)) value id

  abbrev pub IsNotOurs : ObjectId → Type 0
  IsNotOurs id = ¬ IsOurs id

  -- a have that counts
  pub record IsCounted (haves : List ObjectId) (id : ObjectId) : Type 0 where
    pub is_have : Contains haves id
    pub ours : IsOurs id

  -- a want reaches the name, and no counted have does
  pub record IsSent (wants haves : List ObjectId) (id : ObjectId) : Type 0 where
    pub wanted : ReachedFrom (links_in (objects content)) wants id
    pub lacked : (have : ObjectId) → IsCounted haves have → ¬ Reaches (links_in (objects content)) have id

  -- the first have that counts, or none where none does
  abbrev pub IsFirstCounted : List ObjectId → Option ObjectId → Type 0
  IsFirstCounted haves None = (have : ObjectId) → ¬ IsCounted haves have
  IsFirstCounted haves (Some have) = IsFirst IsOurs IsNotOurs haves have
