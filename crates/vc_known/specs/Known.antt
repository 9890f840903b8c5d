-- What is known of the objects of a store: in which layer each name is, of what kind its object is, and which generation a commit has.
use Rattle.std.specs.Prelude.{◌≡◌, ℕ, List, Option, Some, IsSome, map, length}
use Rattle.std.specs.Option.{option_map}
use Rattle.indexmap.specs.IndexMap.{get}
use Rattle.vc_history.specs.Numbering.{numbers}
use Rattle.vc_history.specs.Right.{AgreesWith}
use Rattle.vc_object.specs.Decoding.{StoredObject}
use Rattle.vc_object.specs.ObjectId.{id_eq}
use Rattle.vc_object.specs.ObjectMap.{ObjectMap, links_in}
use Rattle.vc_object.specs.declared.id.ObjectId.{ObjectId}
use Rattle.vc_object.specs.declared.kind.Kind.{Kind}
use Rattle.vc_known.specs.Layers.{AreLayers, ReachesLayers}
use Rattle.vc_known.specs.declared.known.Known.{Known}
use Rattle.vc_known.specs.declared.known.Place.{Place}

-- the roots of each moment
abbrev pub moments_in : Known → List (List ObjectId)
moments_in known = map (λ roots. roots.items) known.moments.items

-- how many moments there are
abbrev pub count_in : Known → ℕ
count_in known = length (moments_in known)

-- where a name stands, if it is known
abbrev pub place_in : Known → ObjectId → Option Place
place_in known id = get id_eq known.places id

abbrev pub layer_in : Known → ObjectId → Option ℕ
layer_in known id = option_map (λ place. place.layer) (place_in known id)

abbrev pub kind_in : Known → ObjectId → Option Kind
kind_in known id = option_map (λ place. place.kind) (place_in known id)

abbrev pub generation_in : Known → ObjectId → Option ℕ
generation_in known id = numbers known.generations id

-- the object of that name is there, and is of this kind
pub record IsOfKind (objects : ObjectMap) (id : ObjectId) (kind : Kind) : Type 0 where
  pub object : StoredObject
  pub there : objects id ≡ Some object
  pub kind_is : object.kind ≡ kind

-- all that is known is so among the objects, and only what is in a layer has a generation
pub record Agrees (objects : ObjectMap) (known : Known) : Type 0 where
  pub layers : AreLayers (links_in objects) (moments_in known) (layer_in known)
  pub kinds : (id : ObjectId) (kind : Kind) → kind_in known id ≡ Some kind → IsOfKind objects id kind
  pub generations : AgreesWith objects known.generations
  pub numbered : (id : ObjectId) → IsSome (generation_in known id) → IsSome (layer_in known id)

-- both know the same
pub record KnowsSame (old new : Known) : Type 0 where
  pub moments : moments_in new ≡ moments_in old
  pub places : (id : ObjectId) → place_in new id ≡ place_in old id
  pub generations : (id : ObjectId) → generation_in new id ≡ generation_in old id

-- the roots reach each root of the last moment, and those of no moment where there is none
abbrev pub ReachesLast : ObjectMap → Known → List ObjectId → Type 0
ReachesLast objects known roots = ReachesLayers (links_in objects) (moments_in known) (count_in known) roots
