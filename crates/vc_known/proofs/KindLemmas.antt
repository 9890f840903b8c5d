-- What a walk keeps of the names that it has read.
use Rattle.std.proofs.Common.{◌≡◌, ℕ, ◌+◌, ◌<◌, ◌≤◌, Bool, true, false, cond, List, ◌++◌, length, get_or, Option, Some, IsSome, Contains, sym, ap, subst, ◌∙◌, refl, arith, slice_get, inl, inr}
use Rattle.std.specs.Prelude.{unwrap_or}
use Rattle.std.proofs.Math.ListN.{get_or-append}
use Rattle.std.proofs.lemmas.Bool.{cases_lt}
use Rattle.std.proofs.lemmas.List.{get_or_default}
use Rattle.std.proofs.lemmas.Option.{get_or_from_slice_get, slice_get_within}
use Rattle.vc_object.specs.ObjectId.{id_eq}
use Rattle.vc_object.specs.ObjectMap.{ObjectMap, links_in}
use Rattle.vc_object.specs.declared.id.ObjectId.{ObjectId}
use Rattle.vc_object.specs.declared.kind.Kind.{Kind}
use Rattle.vc_object.proofs.IdLemmas.{id_eq-same, id_eq_equiv}
use Rattle.vc_object.proofs.ObjectMaps.{links_in-some}
use Rattle.vc_known.specs.Known.{IsOfKind}
use Rattle.vc_known.specs.Seen.{Shows}
use Rattle.vc_known.specs.declared.seen.Seen.{Seen}

-- what a look shows, as links and as a kind
pub links-from_Shows : (objects : ObjectMap) (id : ObjectId) (seen : Seen) → Shows objects id seen → links_in objects id ≡ Some seen.links.items
links-from_Shows objects id seen shows = links_in-some objects id shows.object shows.there ∙ ap Some (sym shows.links)

pub IsOfKind-from_Shows : (objects : ObjectMap) (id : ObjectId) (seen : Seen) → Shows objects id seen → IsOfKind objects id seen.kind
IsOfKind-from_Shows objects id seen shows = record { object = shows.object; there = shows.there; kind_is = sym shows.kind }

pub links-from_IsOfKind : (objects : ObjectMap) (id : ObjectId) (kind : Kind) → IsOfKind objects id kind → IsSome (links_in objects id)
links-from_IsOfKind objects id kind h = subst (λ o. IsSome o) (sym (links_in-some objects id h.object h.there)) refl

-- one kind more
module _ (old new : ObjectId → Option Kind) (id : ObjectId) (kind : Kind) (updates : (q : ObjectId) → new q ≡ cond (id_eq id q) (Some kind) (old q)) where
  pub kinds-one_more : (objects : ObjectMap) → IsOfKind objects id kind → ((x : ObjectId) (k : Kind) → old x ≡ Some k → IsOfKind objects x k)
      → (x : ObjectId) (k : Kind) → new x ≡ Some k → IsOfKind objects x k
  kinds-one_more objects this others x k is = by (id_eq id x) refl
    where
      by : (b : Bool) → id_eq id x ≡ b → IsOfKind objects x k
      by true e =
          let put : Some kind ≡ Some k = ap (λ b. cond b (Some kind) (old x)) (sym e) ∙ sym (updates x) ∙ is in
          let same : kind ≡ k = ap (λ o. unwrap_or o k) put in
          subst (λ y. IsOfKind objects y k) (id_eq-same id x e) (subst (IsOfKind objects id) same this)
      by false e = others x k (ap (λ b. cond b (Some kind) (old x)) (sym e) ∙ sym (updates x) ∙ is)

  some-kept : (x : ObjectId) → IsSome (old x) → IsSome (new x)
  some-kept x some = by (id_eq id x) refl
    where
      by : (b : Bool) → id_eq id x ≡ b → IsSome (new x)
      by true e = subst (λ o. IsSome o) (sym (updates x ∙ ap (λ b. cond b (Some kind) (old x)) e)) refl
      by false e = subst (λ o. IsSome o) (sym (updates x ∙ ap (λ b. cond b (Some kind) (old x)) e)) some

  some-this : IsSome (new id)
  some-this = subst (λ o. IsSome o) (sym (updates id ∙ ap (λ b. cond b (Some kind) (old id)) (id_eq_equiv.refl id))) refl

  -- one name more was read
  pub read-one_more : (seen now more : List ObjectId) (next : ℕ) → now ≡ seen ++ more → slice_get seen next ≡ Some id → ((k : ℕ) (d : ObjectId) → k < next → IsSome (old (get_or seen k d)))
      → (k : ℕ) (d : ObjectId) → k < next + 1 → IsSome (new (get_or now k d))
  read-one_more seen now more next grown at before k d below =
      let here : next < length seen = slice_get_within seen next id at in
      let same_at : (i : ℕ) → i < length seen → get_or now i d ≡ get_or seen i d = λ i fits. ap (λ l. get_or l i d) grown ∙ get_or-append seen more d i fits in
      elim (cases_lt k next) [
        | inl less ↦ some-kept (get_or now k d) (subst (λ y. IsSome (old y)) (sym (same_at k (omega (arith, less, here)))) (before k d less))
        | inr last ↦
            let is : k ≡ next = omega (arith, below, last) in
            let name : get_or now k d ≡ id = ap (λ i. get_or now i d) is ∙ same_at next here ∙ get_or_from_slice_get seen next id d at in
            subst (λ y. IsSome (new y)) (sym name) some-this
      ]

-- at the start those are read that were met before, and at the end all
pub read-start : (kinds : ObjectId → Option Kind) (before seen more : List ObjectId) → seen ≡ before ++ more → ((x : ObjectId) → Contains before x → IsSome (kinds x))
    → (k : ℕ) (d : ObjectId) → k < length before → IsSome (kinds (get_or seen k d))
read-start kinds before seen more grown read k d below =
    let same : get_or seen k d ≡ get_or before k d = ap (λ l. get_or l k d) grown ∙ get_or-append before more d k below in
    subst (λ y. IsSome (kinds y)) (sym same) (read (get_or before k d) (k, below, get_or_default before k (get_or before k d) d below))

pub read-end : (kinds : ObjectId → Option Kind) (seen : List ObjectId) (next : ℕ) → length seen ≤ next → ((k : ℕ) (d : ObjectId) → k < next → IsSome (kinds (get_or seen k d)))
    → (x : ObjectId) → Contains seen x → IsSome (kinds x)
read-end kinds seen next end read x at = subst (λ y. IsSome (kinds y)) at.2 (read at.0 x (omega (arith, at.1, end)))
