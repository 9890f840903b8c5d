-- The step of the loop that gathers the parents of some commits.
use Rattle.std.proofs.Common.{◌≡◌, ℕ, ◌+◌, ◌<◌, Bool, true, false, not, ⊎_elim, List, [], ◌∷◌, ◌++◌, length, get_or, take, filter, Option, Some, Contains, ◌↔◌, sym, ap, subst, ◌∙◌, refl, true≢false}
use Rattle.std.proofs.lemmas.List.{take_more}
use Rattle.std.proofs.lemmas.List.Elements.{Contains-append_left, Contains-push, Contains-push_cases}
use Rattle.std.specs.Cmp.{IsEquivalence}
use Rattle.indexmap.specs.IndexSet.{insert_all}
use Rattle.vc_object_map.specs.Graph.{LinksTo}
use Rattle.vc_object_map.proofs.WalkLemmas.{Contains-insert_all_cases, Contains-insert_all_old, Contains-insert_all_new}
use Rattle.vc_selection.specs.Passed.{IsPassed}
use Rattle.vc_history.specs.Walk.{graph_read, parents_read}
use Rattle.vc_history.proofs.FilterLemmas.{Contains-filter, Contains-from_filter}
use Rattle.vc_object.specs.declared.id.ObjectId.{ObjectId}

module _ {Id : Type 0} (parents : Id → Option (List Id)) (eq : Id → Id → Bool) (laws : IsEquivalence eq) (same : (x y : Id) → eq x y ≡ true → x ≡ y) where
  -- the parents of one more name, other than itself, were added
  pub IsPassed-more : (ids passed now items : List Id) (i : ℕ) (id d : Id) → i < length ids → get_or ids i d ≡ id
      → ((p : Id) → Contains passed p ↔ IsPassed parents (take i ids) p)
      → ((p : Id) → Contains items p ↔ LinksTo parents id p)
      → now ≡ insert_all eq passed (filter (λ x. not (eq x id)) items)
      → (p : Id) → Contains now p ↔ IsPassed parents (take (i + 1) ids) p
  IsPassed-more ids passed now items i id d within at before links added p = (to, from)
    where
      others : List Id
      others = filter (λ x. not (eq x id)) items

      more : take (i + 1) ids ≡ take i ids ++ id ∷ []
      more = take_more ids i d within ∙ ap (λ x. take i ids ++ x ∷ []) at

      not_true : (b : Bool) → not b ≡ true → b ≡ false
      not_true true h = absurd (true≢false (sym h))
      not_true false h = refl

      to : Contains now p → IsPassed parents (take (i + 1) ids) p
      to h = subst (λ l. IsPassed parents l p) (sym more)
          (⊎_elim (λ old.
          let o = (before p).0 old in
          record { child = o.child; is_among = Contains-append_left (take i ids) (id ∷ []) o.child o.is_among; links = o.links; differs = o.differs })
          (λ new.
          let n = Contains-from_filter (λ x. not (eq x id)) items p new in
          record {
            child = id;
            is_among = Contains-push (take i ids) id;
            links = (links p).0 n.0;
            differs = λ is. true≢false (sym (laws.refl p) ∙ ap (eq p) (sym is) ∙ not_true (eq p id) n.1);
          })
          (Contains-insert_all_cases eq passed others p (subst (λ l. Contains l p) added h)))

      from : IsPassed parents (take (i + 1) ids) p → Contains now p
      from h = subst (λ l. Contains l p) (sym added)
          (⊎_elim (λ old. Contains-insert_all_old eq passed others p ((before p).1 (record { child = h.child; is_among = old; links = h.links; differs = h.differs })))
          (λ is.
          let linked : LinksTo parents id p = subst (λ c. LinksTo parents c p) (sym is) h.links in
          Contains-insert_all_new eq same passed others p
          (Contains-filter (λ x. not (eq x id)) items p ((links p).1 linked) (apart (eq p id) refl is)))
          (Contains-push_cases (take i ids) id h.child (subst (λ l. Contains l h.child) more h.is_among)))
        where
          apart : (b : Bool) → eq p id ≡ b → id ≡ h.child → not (eq p id) ≡ true
          apart true e is = absurd (h.differs (sym is ∙ sym (same p id e)))
          apart false e is = ap not e

-- the links of what was read are the parents that were read
pub LinksTo-graph_read : (met : List ObjectId) (read : List (List ObjectId)) (x y : ObjectId) (own : List ObjectId) → own ≡ parents_read met read x → Contains own y ↔ LinksTo (graph_read met read) x y
LinksTo-graph_read met read x y own is = (
  λ h. (own, ap Some (sym is), h),
  λ l. let same : l.0 ≡ own = let e : Some (parents_read met read x) ≡ Some l.0 = l.1 in cc in subst (λ ys. Contains ys y) same l.2,
)
