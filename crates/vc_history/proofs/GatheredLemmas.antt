-- What a walk that has gathered a history says of it.
use Rattle.std.proofs.Common.{ℕ, ◌⊎◌, ⊎_elim, inl, inr, List, Option, IsSome, Contains}
use Rattle.vc_object.specs.ObjectMap.{ObjectMap, parents_in}
use Rattle.vc_object.specs.declared.id.ObjectId.{ObjectId}
use Rattle.vc_object_map.specs.Graph.{IsClosedUnder, LinksTo, Reaches, ReachedFrom, itself, onward}
use Rattle.vc_history.specs.Generation.{Agrees}
use Rattle.vc_history.specs.Walk.{Gathers, parents_read}
use Rattle.vc_history.proofs.GenerationLemmas.{Contains-from_LinksTo}
use Rattle.vc_lemmas.proofs.Lists.{value_of, some_of}

-- where what was met leads to what was met or lies beyond, so does what the roots reach
pub met_or_beyond-linked : (parents : ObjectId → Option (List ObjectId)) (beyond : ObjectId → Option ℕ) → Agrees parents beyond → (roots met : List ObjectId) → ((x : ObjectId) → Contains roots x → Contains met x)
    → ((x y : ObjectId) → Contains met x → LinksTo parents x y → Contains met y ⊎ IsSome (beyond y)) → {y : ObjectId} → ReachedFrom parents roots y → Contains met y ⊎ IsSome (beyond y)
met_or_beyond-linked parents beyond agrees roots met rooted linked h = along h.reaches
  where
    along : {y : ObjectId} → Reaches parents h.root y → Contains met y ⊎ IsSome (beyond y)
    along itself = inl (rooted h.root h.is_root)
    along (onward {y} {z} way link) = ⊎_elim (λ at. linked y z at link) (λ some. inr (agrees.onward y z some link)) (along way)

module _ (objects : ObjectMap) (beyond : ObjectId → Option ℕ) (roots met : List ObjectId) (read : List (List ObjectId))
    (gathers : Gathers objects beyond roots met read) (agrees : Agrees (parents_in objects) beyond) where
  -- what the roots reach was met or lies beyond
  pub met_or_beyond : {y : ObjectId} → ReachedFrom (parents_in objects) roots y → Contains met y ⊎ IsSome (beyond y)
  met_or_beyond = met_or_beyond-linked (parents_in objects) beyond agrees roots met gathers.rooted
      (λ x y at link. gathers.onward x y at (Contains-from_LinksTo (parents_in objects) x y (parents_read met read x) (gathers.parents x at) link))

  -- all that the roots reach is there
  pub all_there : IsClosedUnder (parents_in objects) roots
  all_there y h = ⊎_elim (λ at. some_of (parents_in objects y) (parents_read met read y) (gathers.parents y at))
      (λ some. let n = value_of (beyond y) some in (agrees.generation y n.0 n.1).whole y itself)
      (met_or_beyond h)
