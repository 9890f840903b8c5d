-- What a place says of a name, and where the roots of a moment stand.
use Rattle.std.proofs.Common.{◌≡◌, ℕ, suc, ◌<◌, List, [], length, map, get_or, Option, Some, None, sym, ap, ◌∙◌, refl, Vec, Global}
use Rattle.std.specs.Prelude.{unwrap_or}
use Rattle.std.specs.Option.{option_map}
use Rattle.std.proofs.lemmas.List.{get_or-map}
use Rattle.vc_object.specs.declared.id.ObjectId.{ObjectId}
use Rattle.vc_object.specs.declared.kind.Kind.{Kind}
use Rattle.vc_known.specs.Layers.{last_roots}
use Rattle.vc_known.specs.Walked.{place_at}
use Rattle.vc_known.specs.declared.known.Place.{Place}

-- ---- a place, by what is asked of it
pub place-from_layer : (o : Option Place) (layer : ℕ) → option_map (λ (place : Place). place.layer) o ≡ Some layer → (place : Place) × (o ≡ Some place) × (place.layer ≡ layer)
place-from_layer None layer is = absurd (cc)
place-from_layer (Some place) layer is = (place, refl, ap (λ o. unwrap_or o layer) is)

pub no_place : (o : Option Place) → option_map (λ (place : Place). place.layer) o ≡ None → o ≡ None
no_place None is = refl
no_place (Some place) is = absurd (cc)

pub place-from_kind : (o : Option Place) (kind : Kind) → option_map (λ (place : Place). place.kind) o ≡ Some kind → (place : Place) × (o ≡ Some place) × (place.kind ≡ kind)
place-from_kind None kind is = absurd (cc)
place-from_kind (Some place) kind is = (place, refl, ap (λ o. unwrap_or o kind) is)

-- and the kind for which it was given
pub kind-from_place : (layer : ℕ) (o : Option Kind) (place : Place) → option_map (place_at layer) o ≡ Some place → (kind : Kind) × (o ≡ Some kind) × (place_at layer kind ≡ place)
kind-from_place layer None place is = absurd (cc)
kind-from_place layer (Some kind) place is = (kind, refl, ap (λ o. unwrap_or o place) is)

-- the roots of the last of some moments stand at the place before
pub last_roots-at : (lists : List (Vec ObjectId Global)) (none : Vec ObjectId Global) (count before : ℕ) → count ≡ suc before → before < length lists
    → (get_or lists before none).items ≡ last_roots (map (λ roots. roots.items) lists) count
last_roots-at lists none count before is here =
    sym (ap (last_roots (map (λ roots. roots.items) lists)) is ∙ get_or-map (λ roots. roots.items) lists before none [] here)
