-- Moments that some names have, and what a walk over commits meets from them.
use Rattle.std.proofs.Common.{◌≡◌, ◌↔◌, ℕ, ◌≤◌, inl, inr, ⊎_elim, List, [], Option, Contains, sym, subst, arith}
use Rattle.std.proofs.lemmas.Bool.{cases_lt}
use Rattle.indexmap.specs.IndexSet.{insert_all}
use Rattle.vc_object.proofs.IdLemmas.{id_eq-same}
use Rattle.vc_object.specs.ObjectId.{id_eq}
use Rattle.vc_object.specs.ObjectMap.{ObjectMap, links_in, parents_in}
use Rattle.vc_object.specs.declared.id.ObjectId.{ObjectId}
use Rattle.vc_object_map.proofs.WalkLemmas.{Contains-insert_all_cases, Contains-insert_all_new}
use Rattle.vc_object_map.specs.Graph.{LinksTo, ReachedFrom, itself, onward}
use Rattle.vc_history.proofs.LinkLemmas.{LinksTo-parent}
use Rattle.vc_known.specs.Common.{IsLastCommon}
use Rattle.vc_known.specs.Layers.{ReachesLayers}

-- a set into which names were put has these
pub names-both : (none roots names : List ObjectId) → none ≡ [] → names ≡ insert_all id_eq none roots → (x : ObjectId) → Contains names x ↔ Contains roots x
names-both none roots names empty added x = (
  λ h. ⊎_elim (λ (never : Contains none x). let no : Contains [] x = subst (λ l. Contains l x) empty never in absurd (omega (arith, no.1))) (λ at. at)
      (Contains-insert_all_cases id_eq none roots x (subst (λ l. Contains l x) added h)),
  λ h. subst (λ l. Contains l x) (sym added) (Contains-insert_all_new id_eq id_eq-same none roots x h),
)

module _ (moments : List (List ObjectId)) (names roots : List ObjectId) (both : (x : ObjectId) → Contains names x ↔ Contains roots x) (count : ℕ) (last : IsLastCommon moments names count) where
  -- no other count of moments is the last common one
  pub IsLastCommon-least : (common : ℕ) → IsLastCommon moments roots common → common ≤ count
  IsLastCommon-least common h = elim (cases_lt count common) [
    | inl more ↦ absurd (last.last common more h.moment (λ x at. (both x).1 (h.has x at)))
    | inr less ↦ less
  ]

  -- and the roots reach it
  pub ReachesLayers-common : (links : ObjectId → Option (List ObjectId)) → ReachesLayers links moments count roots
  ReachesLayers-common links = record { moment = last.moment; reached = λ x at. record { root = x; is_root = (both x).0 (last.has x at); reaches = itself } }

module _ (objects : ObjectMap) (roots : List ObjectId) where
  -- what was met is reached, and so are the parents of a commit that was met
  pub reached-start : (none met : List ObjectId) → none ≡ [] → met ≡ insert_all id_eq none roots → (x : ObjectId) → Contains met x → ReachedFrom (links_in objects) roots x
  reached-start none met empty added x at = record { root = x; is_root = (names-both none roots met empty added x).0 at; reaches = itself }

  pub reached-step : (met now parents : List ObjectId) (id : ObjectId) → Contains met id → now ≡ insert_all id_eq met parents → ((y : ObjectId) → Contains parents y → LinksTo (parents_in objects) id y)
      → ((x : ObjectId) → Contains met x → ReachedFrom (links_in objects) roots x) → (x : ObjectId) → Contains now x → ReachedFrom (links_in objects) roots x
  reached-step met now parents id here added linked reached x at = ⊎_elim (reached x)
      (λ parent. let r = reached id here in record { root = r.root; is_root = r.is_root; reaches = onward r.reaches (LinksTo-parent objects id x (linked x parent)) })
      (Contains-insert_all_cases id_eq met parents x (subst (λ l. Contains l x) added at))
