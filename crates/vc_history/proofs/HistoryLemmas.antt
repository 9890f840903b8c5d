-- The steps of a walk over a history. It follows each name to its parents, and an object that is no commit to nothing.
use Rattle.std.proofs.Common.{◌≡◌, ◌<◌, ℕ, Bool, true, false, ⊎_elim, List, [], ◌∷◌, length, position, Option, Some, None, IsSome, Contains, sym, ap, subst, ◌∙◌, refl, true≢false, arith}
use Rattle.std.specs.Option.{option_map, option_and_then, unwrap_or}
use Rattle.std.specs.List.{position_or_len}
use Rattle.std.proofs.lemmas.Grind.{common_steps}
use Rattle.std.proofs.lemmas.List.Elements.{Contains-append_cases, Contains-push_cases}
use Rattle.std.specs.Cmp.{IsEquivalence}
use Rattle.vc_object.specs.ObjectMap.{ObjectMap, parents_in}
use Rattle.vc_object.specs.Decoding.{StoredObject}
use Rattle.vc_object.specs.Links.{parents_of}
use Rattle.vc_object.specs.declared.id.ObjectId.{ObjectId}
use Rattle.vc_object_map.specs.Graph.{LinksTo, Reaches, ReachedFrom, itself, onward}
use Rattle.vc_object_map.proofs.FaultLemmas.{IsMet-more}
use Rattle.vc_history.specs.HistoryFault.{IsTold, IsOfNext}
use Rattle.vc_object_map.specs.Parents.{IsOther}
use Rattle.vc_history.specs.declared.fault.HistoryFault.{HistoryFault}
use Rattle.vc_history.specs.declared.fault.HistoryFault.TheVariants.{Missing, NotACommit, Store}

-- where the walk goes from a name: none where it is absent
unfoldable pub steps_in : ObjectMap → ObjectId → Option (List ObjectId)
steps_in objects id = option_map (λ (o : StoredObject). unwrap_or (parents_of o.kind o.body) []) (objects id)

module _ (objects : ObjectMap) where
  pub steps_in-commit : (id : ObjectId) (ys : List ObjectId) → parents_in objects id ≡ Some ys → steps_in objects id ≡ Some ys
  unfolding steps_in parents_in
  steps_in-commit id ys = by (objects id)
    where
      by : (o : Option StoredObject) → option_and_then (λ (o : StoredObject). parents_of o.kind o.body) o ≡ Some ys → option_map (λ (o : StoredObject). unwrap_or (parents_of o.kind o.body) []) o ≡ Some ys
      by None h = absurd (cc)
      by (Some o) h = ap (λ p. Some (unwrap_or p [])) h

  pub steps_in-other : (id : ObjectId) → IsOther objects id → steps_in objects id ≡ Some []
  unfolding steps_in parents_in
  steps_in-other id other = by (objects id) other.0 other.1
    where
      by : (o : Option StoredObject) → IsSome o → option_and_then (λ (o : StoredObject). parents_of o.kind o.body) o ≡ None → option_map (λ (o : StoredObject). unwrap_or (parents_of o.kind o.body) []) o ≡ Some []
      by None there h = absurd (cc)
      by (Some o) there h = ap (λ p. Some (unwrap_or p [])) h

  pub there-from_steps : (id : ObjectId) → IsSome (steps_in objects id) → IsSome (objects id)
  unfolding steps_in
  there-from_steps id = by (objects id)
    where
      by : (o : Option StoredObject) → IsSome (option_map (λ (o : StoredObject). unwrap_or (parents_of o.kind o.body) []) o) → IsSome o
      by None h = h
      by (Some o) h = refl

  pub LinksTo-steps : (x y : ObjectId) → LinksTo (steps_in objects) x y → LinksTo (parents_in objects) x y
  unfolding steps_in parents_in
  LinksTo-steps x y h = by (objects x) h.0 h.1 h.2
    where
      among : (p : Option (List ObjectId)) (zs : List ObjectId) → unwrap_or p [] ≡ zs → Contains zs y → (ys : List ObjectId) × (p ≡ Some ys) × Contains ys y
      among None zs e in' = absurd (omega (arith, in'.1, ap length e))
      among (Some ys) zs e in' = (ys, refl, subst (λ l. Contains l y) (sym e) in')

      by : (o : Option StoredObject) (zs : List ObjectId) → option_map (λ (o : StoredObject). unwrap_or (parents_of o.kind o.body) []) o ≡ Some zs → Contains zs y
          → (ys : List ObjectId) × (option_and_then (λ (o : StoredObject). parents_of o.kind o.body) o ≡ Some ys) × Contains ys y
      by None zs e in' = absurd (cc)
      by (Some o) zs e in' = let same : unwrap_or (parents_of o.kind o.body) [] ≡ zs = cc in among (parents_of o.kind o.body) zs same in'

  pub LinksTo-parents : (x y : ObjectId) → LinksTo (parents_in objects) x y → LinksTo (steps_in objects) x y
  LinksTo-parents x y h = (h.0, steps_in-commit x h.0 h.1, h.2)

-- two graphs with the same links reach the same names
pub Reaches-same : {Id : Type 0} (f g : Id → Option (List Id)) → ((x y : Id) → LinksTo f x y → LinksTo g x y) → {x y : Id} → Reaches f x y → Reaches g x y
Reaches-same f g same itself = itself
Reaches-same f g same (onward {y} {z} r l) = onward (Reaches-same f g same r) (same y z l)

-- a key of a list has a place in it
position_or_len-within : {Id : Type 0} {eq : Id → Id → Bool} → IsEquivalence eq → (xs : List Id) (id : Id) → Contains xs id → position_or_len (eq id) xs < length xs
position_or_len-within laws [] id at = absurd (omega (arith, at.1))
position_or_len-within {Id} {eq} laws (x ∷ xs) id at = by (eq id x) refl (λ later. position_or_len-within laws xs id later)
  where
    by : (b : Bool) → eq id x ≡ b → (Contains xs id → position_or_len (eq id) xs < length xs) → position_or_len (eq id) (x ∷ xs) < length (x ∷ xs)
    by true e below = grind (arith, common_steps)
    by false e below =
        let later : Contains xs id = ⊎_elim (λ (first : Contains (x ∷ []) id).
        let is : x ≡ id = ⊎_elim (λ none. absurd (omega (arith, none.1))) (λ i. i) (Contains-push_cases [] x id first) in
        absurd (true≢false (sym (laws.refl id) ∙ ap (eq id) (sym is) ∙ e)))
        (λ l. l) (Contains-append_cases (x ∷ []) xs id at) in
        let less : position_or_len (eq id) xs < length xs = below later in
        grind (arith, common_steps, less)

pub position-from_Contains : {Id : Type 0} {eq : Id → Id → Bool} → IsEquivalence eq → (xs : List Id) (id : Id) → Contains xs id → (k : ℕ) × (position (eq id) xs ≡ Some k)
position-from_Contains {Id} {eq} laws xs id at =
    let inside : position_or_len (eq id) xs < length xs = position_or_len-within laws xs id at in
    (position_or_len (eq id) xs, grind (arith, common_steps, inside))

module _ (objects : ObjectMap) (roots : List ObjectId) where
  -- what a step refuses, the walk refuses
  pub IsTold-from_next : (IsDamaged IsNext : ObjectId → Type 0) → ((id : ObjectId) → IsNext id → ReachedFrom (parents_in objects) roots id) → (e : HistoryFault) → IsOfNext objects IsDamaged IsNext e → IsTold objects IsDamaged roots e
  IsTold-from_next IsDamaged IsNext reached (Missing id) h = (reached id h.0, h.1)
  IsTold-from_next IsDamaged IsNext reached (NotACommit id) h = absurd h
  IsTold-from_next IsDamaged IsNext reached (Store fault) h = IsMet-more IsNext (ReachedFrom (parents_in objects) roots) IsDamaged reached fault h
