-- Those of the wants and the haves that roots reach, by what is known and what lies above it.
use Rattle.std.proofs.Common.{◌↔◌, ◌⊎◌, inl, inr, ⊎_elim, ◌++◌, List, IsSome, Contains, is_some}
use Rattle.std.specs.Prelude.{filter}
use Rattle.std.proofs.lemmas.List.Elements.{Contains-append_cases, Contains-append_left, Contains-append_right}
use Rattle.vc_history.proofs.FilterLemmas.{Contains-filter, Contains-from_filter}
use Rattle.vc_known.proofs.StaysLemmas.{reached-both}
use Rattle.vc_known.specs.Known.{Agrees, ReachesLast, count_in, layer_in}
use Rattle.vc_known.specs.Layers.{IsReachedAbove}
use Rattle.vc_known.specs.declared.known.Known.{Known}
use Rattle.vc_object.specs.ObjectMap.{ObjectMap, links_in}
use Rattle.vc_object.specs.declared.id.ObjectId.{ObjectId}
use Rattle.vc_object_map.specs.Graph.{ReachedFrom}

-- those of the names that are known
abbrev pub known_of : Known → List ObjectId → List ObjectId
known_of known names = filter (λ id. is_some (layer_in known id)) names

module _ (objects : ObjectMap) (known : Known) (roots : List ObjectId) (agrees : Agrees objects known) (reach : ReachesLast objects known roots)
    (wants haves above names : List ObjectId)
    (are : (id : ObjectId) → Contains above id ↔ IsReachedAbove (links_in objects) (layer_in known) (count_in known) roots id)
    (all : (id : ObjectId) → Contains names id ↔ Contains ((above ++ known_of known wants) ++ known_of known haves) id) where
  cases : (id : ObjectId) → Contains names id → Contains above id ⊎ IsSome (layer_in known id)
  cases id h = ⊎_elim
      (λ first. ⊎_elim inl (λ at. inr (Contains-from_filter (λ x. is_some (layer_in known x)) wants id at).1) (Contains-append_cases above (known_of known wants) id first))
      (λ at. inr (Contains-from_filter (λ x. is_some (layer_in known x)) haves id at).1)
      (Contains-append_cases (above ++ known_of known wants) (known_of known haves) id ((all id).0 h))

  from_above : (id : ObjectId) → Contains above id → Contains names id
  from_above id h = (all id).1 (Contains-append_left (above ++ known_of known wants) (known_of known haves) id (Contains-append_left above (known_of known wants) id h))

  from_known : (id : ObjectId) → Contains wants id ⊎ Contains haves id → IsSome (layer_in known id) → Contains names id
  from_known id asked some = (all id).1 (⊎_elim
      (λ at. Contains-append_left (above ++ known_of known wants) (known_of known haves) id
      (Contains-append_right above (known_of known wants) id (Contains-filter (λ x. is_some (layer_in known x)) wants id at some)))
      (λ at. Contains-append_right (above ++ known_of known wants) (known_of known haves) id (Contains-filter (λ x. is_some (layer_in known x)) haves id at some))
      asked)

  pub names_reached : (id : ObjectId) → Contains wants id ⊎ Contains haves id → Contains names id ↔ ReachedFrom (links_in objects) roots id
  names_reached id asked =
      let both = reached-both objects known agrees roots reach id in (
        λ h. ⊎_elim (λ at. ((are id).0 at).0) (λ some. both.1 (inl some)) (cases id h),
        λ r. ⊎_elim (λ some. from_known id asked some) (λ at. from_above id ((are id).1 at)) (both.0 r),
      )
