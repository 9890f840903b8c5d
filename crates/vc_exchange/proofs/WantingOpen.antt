-- Which told ids are open: those so far, and the next one.
use Rattle.std.proofs.Common.{◌≡◌, ◌⊎◌, inl, inr, ℕ, Bool, false, true≢false, cond, List, ◌∷◌, ◌++◌, map, refl, sym, ap, ◌∙◌, subst, []}
use Rattle.std.specs.Prelude.{Contains, IsTrue}
use Rattle.std.specs.List.{list_any}
use Rattle.std.proofs.lemmas.Map.Views.{list_any-from_Contains}
use Rattle.indexmap.specs.IndexSet.{insert_key}
use Rattle.vc_object.proofs.IdLemmas.{id_eq_equiv}
use Rattle.vc_object.specs.ObjectId.{id_eq}
use Rattle.vc_format.specs.Git.{bytes_of_id}
use Rattle.vc_model.specs.Clone.{AreOpen}
use Rattle.vc_model.specs.Object.{Format, Id, Lookup, stored}
use Rattle.vc_model.specs.Reach.{IsClosed}
use Rattle.vc_model.specs.Refs.{RefName}
use Rattle.vc_model.specs.Repository.{Repository}
use Rattle.vc_files.specs.FileMap.{FileMap}
use Rattle.vc_object.specs.declared.id.ObjectId.{ObjectId}
use Rattle.vc_rules.proofs.ReachLemmas.{closed_from, closed_to, bytes_among}
use Rattle.vc_rules.specs.Git.{git}
use Rattle.vc_rules.specs.OpenPushes.{HoldsContent}
use Rattle.vc_object_map.specs.Store.{objects}
use Rattle.vc_tracking.specs.Moving.{Told, machine_refs}
use Rattle.vc_exchange.specs.Wanting.{AddsOpen, AreOpenTold}
use Rattle.vc_tracking.proofs.MovingDecisions.{contained_cases, contained_first, contained_later, contained_none}
use Rattle.vc_tracking.proofs.MovingFronts.{machine_append}

module _ (fmt : Format) (at : Lookup) where
  -- what the next id adds, where these were met
  abbrev Adds : (Id → Type 0) → Id → List Id → Type 0
  Adds Met x added = ((IsClosed fmt at x ⊎ Met x) × (added ≡ [])) ⊎ ((¬ IsClosed fmt at x) × (¬ Met x) × (added ≡ x ∷ []))

  adds_same : (Met Seen : Id → Type 0) (x : Id) (added : List Id) → (Met x → Seen x) → (Seen x → Met x) → Adds Met x added → Adds Seen x added
  adds_same Met Seen x added to from (inl (inl closed, e)) = inl (inl closed, e)
  adds_same Met Seen x added to from (inl (inr met, e)) = inl (inr (to met), e)
  adds_same Met Seen x added to from (inr (unclosed, none, e)) = inr (unclosed, (λ seen. none (from seen)), e)

  next_open : (rs : List (RefName × Id)) (seen ids : List Id) (q : RefName × Id) (added : List Id) → AreOpen fmt at seen rs ids → Adds (λ x. Contains seen x ⊎ Contains ids x) q.1 added → AreOpen fmt at seen (rs ++ q ∷ []) (ids ++ added)
  next_open [] seen ids q added e adds = subst (λ (l : List Id). AreOpen fmt at seen (q ∷ []) (l ++ added)) (sym e) (by adds)
    where
      before : Contains seen q.1 ⊎ Contains ids q.1 → Contains seen q.1
      before (inl h) = h
      before (inr h) = contained_none q.1 (subst (λ (l : List Id). Contains l q.1) e h)

      by : Adds (λ x. Contains seen x ⊎ Contains ids x) q.1 added → AreOpen fmt at seen (q ∷ []) added
      by (inl (inl closed, none)) = inl (inl closed, none)
      by (inl (inr met, none)) = inl (inr (before met), none)
      by (inr (unclosed, not_met, one)) = inr (unclosed, (λ h. not_met (inl h)), [], one, refl)
  next_open (r ∷ rs) seen ids q added (inl (skips, rest)) adds = inl (skips, next_open rs seen ids q added rest adds)
  next_open (r ∷ rs) seen ids q added (inr (unclosed, none, more, e, rest)) adds =
      inr (unclosed, none, more ++ added, ap (λ (l : List Id). l ++ added) e, next_open rs (r.1 ∷ seen) more q added rest (adds_same (λ x. Contains seen x ⊎ Contains ids x) (λ x. Contains (r.1 ∷ seen) x ⊎ Contains more x) q.1 added to from adds))
    where
      to : Contains seen q.1 ⊎ Contains ids q.1 → Contains (r.1 ∷ seen) q.1 ⊎ Contains more q.1
      to (inl h) = inl (contained_later r.1 seen q.1 h)
      to (inr h) = elim (contained_cases r.1 more q.1 (subst (λ (l : List Id). Contains l q.1) e h)) as (λ _. Contains (r.1 ∷ seen) q.1 ⊎ Contains more q.1) [
        | inl same ↦ inl (subst (Contains (r.1 ∷ seen)) same (contained_first r.1 seen))
        | inr later ↦ inr later
      ]

      from : Contains (r.1 ∷ seen) q.1 ⊎ Contains more q.1 → Contains seen q.1 ⊎ Contains ids q.1
      from (inl h) = elim (contained_cases r.1 seen q.1 h) as (λ _. Contains seen q.1 ⊎ Contains ids q.1) [
        | inl same ↦ inr (subst (λ (l : List Id). Contains l q.1) (sym e) (subst (Contains (r.1 ∷ more)) same (contained_first r.1 more)))
        | inr later ↦ inl later
      ]
      from (inr h) = inr (subst (λ (l : List Id). Contains l q.1) (sym e) (contained_later r.1 more q.1 h))

-- ---- as bytes
from_bytes : (ids : List ObjectId) (x : ObjectId) → Contains (map bytes_of_id ids) x.0 → Contains ids x
from_bytes [] x h = contained_none x.0 h
from_bytes (y ∷ ys) x h = elim (contained_cases y.0 (map bytes_of_id ys) x.0 h) as (λ _. Contains (y ∷ ys) x) [
  | inl same ↦ let e : y ≡ x = ap (λ (b : List ℕ). record { 0 = b }) same in subst (Contains (y ∷ ys)) e (contained_first y ys)
  | inr later ↦ contained_later y ys x (from_bytes ys x later)
]

bytes_append : (a b : List ObjectId) → map bytes_of_id (a ++ b) ≡ map bytes_of_id a ++ map bytes_of_id b
bytes_append [] b = refl
bytes_append (x ∷ a) b = ap (λ l. x.0 ∷ l) (bytes_append a b)

at_end : (l : List ObjectId) → l ≡ l ++ []
at_end [] = refl
at_end (x ∷ l) = ap (λ (m : List ObjectId). x ∷ m) (at_end l)

-- ---- over files
pub none_open : (r : Repository) (ids : List ObjectId) → ids ≡ [] → AreOpenTold r [] ids
none_open r ids e = ap (map bytes_of_id) e

pub more_open : (content : FileMap) (r : Repository) → HoldsContent content r → (front : List Told) (next : Told) (old new : List ObjectId) → AddsOpen (objects content) old new next.1 → AreOpenTold r front old → AreOpenTold r (front ++ next ∷ []) new
more_open content r p front next old new adds before = by adds
  where
    whole : (added : List ObjectId) → new ≡ old ++ added → Adds git (stored r.objects) (λ x. Contains [] x ⊎ Contains (map bytes_of_id old) x) next.1.0 (map bytes_of_id added) → AreOpenTold r (front ++ next ∷ []) new
    whole added e step =
        subst (λ (l : List ObjectId). AreOpenTold r (front ++ next ∷ []) l) (sym e)
        (subst (λ (l : List (RefName × Id)). AreOpen git (stored r.objects) [] l (map bytes_of_id (old ++ added))) (sym (machine_append front (next ∷ [])))
        (subst (λ (l : List Id). AreOpen git (stored r.objects) [] (machine_refs front ++ (next.0, next.1.0) ∷ []) l) (sym (bytes_append old added))
        (next_open git (stored r.objects) (machine_refs front) [] (map bytes_of_id old) (next.0, next.1.0) (map bytes_of_id added) before step)))

    nothing : new ≡ old → new ≡ old ++ []
    nothing e = e ∙ at_end old

    was : Contains [] next.1.0 ⊎ Contains (map bytes_of_id old) next.1.0 → Contains old next.1
    was (inl h) = contained_none next.1.0 h
    was (inr h) = from_bytes old next.1 h

    by : AddsOpen (objects content) old new next.1 → AreOpenTold r (front ++ next ∷ []) new
    by (inl (inl closed, e)) = whole [] (nothing e) (inl (inl (closed_from (objects content) (stored r.objects) p.objects_are next.1.0 closed), refl))
    by (inl (inr met, e)) = whole [] (nothing e) (inl (inr (inr (bytes_among old next.1 met)), refl))
    by (inr (unclosed, none, e)) = whole (next.1 ∷ []) e (inr ((λ closed. unclosed (closed_to (objects content) (stored r.objects) p.objects_are next.1.0 closed)), (λ met. none (was met)), refl))

-- ---- one id
pub open_not : {b : Bool} → b ≡ false → ¬ IsTrue b
open_not e h = true≢false (sym h ∙ e)

pub adds_new : (old new : List ObjectId) (id : ObjectId) → list_any (id_eq id) old ≡ false → new ≡ insert_key id_eq old id → (¬ Contains old id) × (new ≡ old ++ id ∷ [])
adds_new old new id none e = (λ h. true≢false (sym (list_any-from_Contains id_eq_equiv id old h) ∙ none), e ∙ ap (λ b. cond b old (old ++ id ∷ [])) none)
