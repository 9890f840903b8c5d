-- A walk down to layers, as the code keeps it: the names that it has met, and of what kind each of them is.
use Rattle.std.specs.Prelude.{◌≡◌, ◌⊎◌, ℕ, List, Option, Some, IsSome, Contains}
use Rattle.std.specs.Option.{option_map}
use Rattle.indexmap.specs.IndexMap.{get}
use Rattle.vc_object.specs.ObjectId.{id_eq}
use Rattle.vc_object.specs.ObjectMap.{ObjectMap, links_in}
use Rattle.vc_object.specs.declared.id.ObjectId.{ObjectId}
use Rattle.vc_object.specs.declared.kind.Kind.{Kind}
use Rattle.vc_object_map.specs.Graph.{IsFollowed}
use Rattle.vc_known.specs.Known.{IsOfKind, layer_in}
use Rattle.vc_known.specs.Layers.{links_above}
use Rattle.vc_known.specs.declared.known.Known.{Known}
use Rattle.vc_known.specs.declared.known.Place.{Place}
use Rattle.vc_known.specs.declared.walk.Walked.{Walked}

-- the kind of a name that was read
abbrev pub kind_met : Walked → ObjectId → Option Kind
kind_met walked id = get id_eq walked.kinds id

-- what a name links to above the first `count` layers
abbrev pub links_down_to : ObjectMap → Known → ℕ → ObjectId → Option (List ObjectId)
links_down_to objects known count = links_above (links_in objects) (layer_in known) count

-- each name that was met is there, its kind is kept, and what it links to above the first `count` layers was met too
pub record IsWhole (objects : ObjectMap) (known : Known) (count : ℕ) (walked : Walked) : Type 0 where
  pub followed : IsFollowed (links_down_to objects known count) walked.met.keys
  pub kinds : (id : ObjectId) (kind : Kind) → kind_met walked id ≡ Some kind → IsOfKind objects id kind
  pub read : (id : ObjectId) → Contains walked.met.keys id → IsSome (kind_met walked id)

-- a name's place in a new layer
abbrev pub place_at : ℕ → Kind → Place
place_at layer kind = record { layer = layer; kind = kind }

-- each of the names that had no place and whose kind is known has one in this layer, and each place that was there stays
pub record Places (layer : ℕ) (names : List ObjectId) (kinds : ObjectId → Option Kind) (old new : ObjectId → Option Place) : Type 0 where
  pub kept : (id : ObjectId) (place : Place) → old id ≡ Some place → new id ≡ Some place
  pub only : (id : ObjectId) (place : Place) → new id ≡ Some place → (old id ≡ Some place) ⊎ (Contains names id × (option_map (place_at layer) (kinds id) ≡ Some place))
  pub placed : (id : ObjectId) → Contains names id → IsSome (kinds id) → IsSome (new id)
