-- Whether a path leads from one name to another, where steps lead only from finitely many names: decided by taking these one by one
-- as names on the way. For the moves of refs, of which each happens or is passed over.
use Rattle.std.proofs.Common.{◌≡◌, ◌⊎◌, inl, inr, Bool, true, false, cond, List, [], ◌∷◌, ◌++◌, Option, Some, None, refl, sym, ap, ◌∙◌, subst, is_eq, Ordering, Less, Equal, Greater}
use Rattle.std.specs.Prelude.{Contains}
use Rattle.std.specs.FinMap.{get, entries, get-entries, find}
use Rattle.std.specs.Ordering.{nat_cmp, eq_by_cmp}
use Rattle.std.specs.Cmp.Lexicographic.{slice_cmp, nat_list_cmp_total}
use Rattle.std.proofs.lemmas.List.Elements.{Contains-append_left, Contains-append_right}
use Rattle.vc_model.proofs.Maps.{bytes_same, same_key}
use Rattle.vc_model.proofs.Reaching.{path-append}
use Rattle.vc_model.specs.Object.{Format, Id, Object, Objects, stored}
use Rattle.vc_model.specs.Object.Kind.{Blob, Tree, Commit, Tag}
use Rattle.vc_model.specs.Object.{Kind}
use Rattle.vc_model.specs.Reach.{HasHistory, HasParent, IsAncestor, IsClosed, Links, Path, Reaches}
use Rattle.vc_tracking.proofs.MovingDecisions.{Decided, contained_cases, contained_first, contained_later, contained_none, decided_all, decided_both, decided_contains, decided_either, decided_if, decided_iff}

pub same_id : (x y : Id) → Decided (x ≡ y)
same_id x y = same_key nat_list_cmp_total bytes_same x y

pub key_same : (x y : Id) → eq_by_cmp (slice_cmp nat_cmp) x y ≡ true → x ≡ y
key_same x y e = bytes_same x y (equal (slice_cmp nat_cmp x y) e)
  where
    equal : (r : Ordering) → is_eq r ≡ true → r ≡ Equal
    equal Less h = cc
    equal Equal h = refl
    equal Greater h = cc

module _ (step : Id → Id → Type 0) where
  -- a path of one step or more, whose names on the way are among these
  Through : List Id → Id → Id → Type 0
  Through [] x y = step x y
  Through (k ∷ ks) x y = Through ks x y ⊎ (Through ks x k × Through ks k y)

  through_one : (ks : List Id) (x y : Id) → step x y → Through ks x y
  unfolding Through
  through_one [] x y s = s
  through_one (k ∷ ks) x y s = inl (through_one ks x y s)

  begins : (ks : List Id) (x y : Id) → Through ks x y → (z : Id) × step x z
  unfolding Through
  begins [] x y s = (y, s)
  begins (k ∷ ks) x y (inl p) = begins ks x y p
  begins (k ∷ ks) x y (inr p) = begins ks x k p.0

  ends : (ks : List Id) (x y : Id) → Through ks x y → (z : Id) × step z y
  unfolding Through
  ends [] x y s = (x, s)
  ends (k ∷ ks) x y (inl p) = ends ks x y p
  ends (k ∷ ks) x y (inr p) = ends ks k y p.1

  to_path : (ks : List Id) (x y : Id) → Through ks x y → Reaches step x y
  unfolding Through
  to_path [] x y s = (y ∷ [], (s, refl))
  to_path (k ∷ ks) x y (inl p) = to_path ks x y p
  to_path (k ∷ ks) x y (inr p) = let a = to_path ks x k p.0 in let b = to_path ks k y p.1 in (a.0 ++ b.0, path-append step a.0 b.0 x k y a.1 b.1)

  -- the first part of a path to the name that was taken last, and the last part of one from it
  up_to : (k : Id) (ks : List Id) (x : Id) → Through ks x k ⊎ (Through ks x k × Through ks k k) → Through ks x k
  up_to k ks x (inl p) = p
  up_to k ks x (inr p) = p.0

  on_from : (k : Id) (ks : List Id) (y : Id) → Through ks k y ⊎ (Through ks k k × Through ks k y) → Through ks k y
  on_from k ks y (inl p) = p
  on_from k ks y (inr p) = p.1

  joined : (ks : List Id) (x z y : Id) → Contains ks z → Through ks x z → Through ks z y → Through ks x y
  unfolding Through
  joined [] x z y h p q = contained_none z h
  joined (k ∷ ks) x z y h p q = elim (contained_cases k ks z h) as (λ _. Through ks x y ⊎ (Through ks x k × Through ks k y)) [
    | inl same ↦ inr (up_to k ks x (subst (λ (w : Id). Through ks x w ⊎ (Through ks x k × Through ks k w)) (sym same) p), on_from k ks y (subst (λ (w : Id). Through ks w y ⊎ (Through ks w k × Through ks k y)) (sym same) q))
    | inr later ↦ by (λ a b. joined ks a z b later) p q
  ]
    where
      by : ((a b : Id) → Through ks a z → Through ks z b → Through ks a b) → Through ks x z ⊎ (Through ks x k × Through ks k z) → Through ks z y ⊎ (Through ks z k × Through ks k y) → Through ks x y ⊎ (Through ks x k × Through ks k y)
      by both (inl p) (inl q) = inl (both x y p q)
      by both (inl p) (inr q) = inr (both x k p q.0, q.1)
      by both (inr p) (inl q) = inr (p.0, both k y p.1 q)
      by both (inr p) (inr q) = inr (p.0, q.1)

  module _ (decide : (x y : Id) → Decided (step x y)) where
    decided_through : (ks : List Id) (x y : Id) → Decided (Through ks x y)
    unfolding Through
    decided_through [] x y = decide x y
    decided_through (k ∷ ks) x y = decided_either (decided_through ks x y) (decided_both (decided_through ks x k) (decided_through ks k y))

    -- where steps lead only from these names, and to those
    module _ (from to : List Id) (only_from : (x y : Id) → step x y → Contains from x) (only_to : (x y : Id) → step x y → Contains to y) where
      from_path : (zs : List Id) (x y : Id) → Path step zs x y → (x ≡ y) ⊎ Through from x y
      from_path [] x y p = inl p
      from_path (z ∷ zs) x y p = inr (elim (from_path zs z y p.1) as (λ _. Through from x y) [
        | inl same ↦ subst (λ (w : Id). Through from x w) same (through_one from x z p.0)
        | inr later ↦ let s = begins from z y later in joined from x z y (only_from z s.0 s.1) (through_one from x z p.0) later
      ])

      pub decided_reaches : (x y : Id) → Decided (Reaches step x y)
      decided_reaches x y = decided_iff way (λ r. from_path r.0 x y r.1) (decided_either (same_id x y) (decided_through from x y))
        where
          way : (x ≡ y) ⊎ Through from x y → Reaches step x y
          way (inl same) = ([], same)
          way (inr p) = to_path from x y p

      -- what holds of all that is reached
      module _ (P : Id → Type 0) (decide_one : (y : Id) → Decided (P y)) (x : Id) where
        at_all : P x × ((y : Id) → Contains to y → Reaches step x y → P y) → (y : Id) → Reaches step x y → P y
        at_all h y r = elim (from_path r.0 x y r.1) as (λ _. P y) [
          | inl same ↦ subst P same h.0
          | inr p ↦ let e = ends from x y p in h.1 y (only_to e.0 y e.1) r
        ]

        pub decided_reached : Decided ((y : Id) → Reaches step x y → P y)
        decided_reached = decided_iff at_all (λ all. (all x ([], refl), λ y among r. all y r))
            (decided_both (decide_one x) (decided_all (λ y. Reaches step x y → P y) (λ y. decided_if (decided_reaches x y) (decide_one y)) to))

-- ---- among the objects of a finite map
keys_in : List (Id × Object) → List Id
keys_in [] = []
keys_in (e ∷ es) = e.0 ∷ keys_in es

module _ (links : Object → List Id) where
  links_among : List (Id × Object) → List Id
  links_among [] = []
  links_among (e ∷ es) = links e.1 ++ links_among es

  linked : (es : List (Id × Object)) (x : Id) (o : Object) (y : Id) → find (slice_cmp nat_cmp) x es ≡ Some o → Contains (links o) y → Contains (links_among es) y
  unfolding links_among
  linked [] x o y h l = absurd (cc h)
  linked (e ∷ es) x o y h l = by (λ is. linked es x o y is l) (eq_by_cmp (slice_cmp nat_cmp) x e.0) h
    where
      by : (find (slice_cmp nat_cmp) x es ≡ Some o → Contains (links_among es) y) → (b : Bool) → cond b (Some e.1) (find (slice_cmp nat_cmp) x es) ≡ Some o → Contains (links e.1 ++ links_among es) y
      by more true is = let same : o ≡ e.1 = cc in Contains-append_left (links e.1) (links_among es) y (subst (λ (q : Object). Contains (links q) y) same l)
      by more false is = Contains-append_right (links e.1) (links_among es) y (more is)

keyed : (es : List (Id × Object)) (x : Id) (o : Object) → find (slice_cmp nat_cmp) x es ≡ Some o → Contains (keys_in es) x
unfolding keys_in
keyed [] x o h = absurd (cc h)
keyed (e ∷ es) x o h = elim (same_id e.0 x) as (λ _. Contains (e.0 ∷ keys_in es) x) [
  | inl same ↦ subst (Contains (e.0 ∷ keys_in es)) same (contained_first e.0 (keys_in es))
  | inr other ↦ contained_later e.0 (keys_in es) x (keyed es x o (by (eq_by_cmp (slice_cmp nat_cmp) x e.0) refl other h))
]
  where
    by : (b : Bool) → eq_by_cmp (slice_cmp nat_cmp) x e.0 ≡ b → (e.0 ≡ x → ⊥) → cond b (Some e.1) (find (slice_cmp nat_cmp) x es) ≡ Some o → find (slice_cmp nat_cmp) x es ≡ Some o
    by true eq other is = absurd (other (sym (key_same x e.0 eq)))
    by false eq other is = is

module _ (fmt : Format) (s : Objects) where
  is_commit : (k : Kind) → Decided (k ≡ Commit)
  is_commit Blob = inr (λ e. cc e)
  is_commit Tree = inr (λ e. cc e)
  is_commit Commit = inl refl
  is_commit Tag = inr (λ e. cc e)

  same_object : (x : Id) {o q : Object} → get s x ≡ Some o → get s x ≡ Some q → o ≡ q
  same_object x a b = let e = sym a ∙ b in cc e

  decided_link : (x y : Id) (found : Option Object) → get s x ≡ found → Decided (Links fmt (stored s) x y)
  decided_link x y None e = inr (λ l. let f = sym e ∙ l.found in absurd (cc f))
  decided_link x y (Some o) e = decided_iff (λ h. record { object = o; found = e; link = h }) (λ l. subst (λ (q : Object). Contains (fmt.links q) y) (same_object x l.found e) l.link) (decided_contains same_id (fmt.links o) y)

  decided_parent : (x y : Id) (found : Option Object) → get s x ≡ found → Decided (HasParent fmt (stored s) x y)
  decided_parent x y None e = inr (λ l. let f = sym e ∙ l.found in absurd (cc f))
  decided_parent x y (Some o) e = decided_iff (λ h. record { object = o; found = e; commit = h.0; parent = h.1 })
      (λ l. (ap (λ (q : Object). q.kind) (sym (same_object x l.found e)) ∙ l.commit, subst (λ (q : Object). Contains (fmt.parents q) y) (same_object x l.found e) l.parent))
      (decided_both (is_commit o.kind) (decided_contains same_id (fmt.parents o) y))

  here : (x : Id) (o : Object) → get s x ≡ Some o → find (slice_cmp nat_cmp) x (entries s) ≡ Some o
  here x o e = sym (get-entries s x) ∙ e

  decided_there : (x : Id) (found : Option Object) → get s x ≡ found → Decided ((o : Object) × (get s x ≡ Some o))
  decided_there x None e = inr (λ h. let f = sym e ∙ h.1 in absurd (cc f))
  decided_there x (Some o) e = inl (o, e)

  decided_commit : (x : Id) (found : Option Object) → get s x ≡ found → Decided ((o : Object) × (get s x ≡ Some o) × (o.kind ≡ Commit))
  decided_commit x None e = inr (λ h. let f = sym e ∙ h.1 in absurd (cc f))
  decided_commit x (Some o) e = decided_iff (λ k. (o, e, k)) (λ h. ap (λ (q : Object). q.kind) (sym (same_object x h.1 e)) ∙ h.2) (is_commit o.kind)

  pub decided_closed : (x : Id) → Decided (IsClosed fmt (stored s) x)
  decided_closed x = decided_iff (λ h. record { there = h }) (λ c. c.there)
      (decided_reached (Links fmt (stored s)) (λ a b. decided_link a b (get s a) refl) (keys_in (entries s)) (links_among fmt.links (entries s))
      (λ a b l. keyed (entries s) a l.object (here a l.object l.found)) (λ a b l. linked fmt.links (entries s) a l.object b (here a l.object l.found) l.link)
      (λ y. (o : Object) × (get s y ≡ Some o)) (λ y. decided_there y (get s y) refl) x)

  pub decided_history : (x : Id) → Decided (HasHistory fmt (stored s) x)
  decided_history x = decided_iff (λ h. record { commits = h }) (λ c. c.commits)
      (decided_reached (HasParent fmt (stored s)) (λ a b. decided_parent a b (get s a) refl) (keys_in (entries s)) (links_among fmt.parents (entries s))
      (λ a b l. keyed (entries s) a l.object (here a l.object l.found)) (λ a b l. linked fmt.parents (entries s) a l.object b (here a l.object l.found) l.parent)
      (λ y. (o : Object) × (get s y ≡ Some o) × (o.kind ≡ Commit)) (λ y. decided_commit y (get s y) refl) x)

  pub decided_ancestor : (a b : Id) → Decided (IsAncestor fmt (stored s) a b)
  decided_ancestor a b =
      decided_reaches (HasParent fmt (stored s)) (λ x y. decided_parent x y (get s x) refl) (keys_in (entries s)) (links_among fmt.parents (entries s))
      (λ x y l. keyed (entries s) x l.object (here x l.object l.found)) (λ x y l. linked fmt.parents (entries s) x l.object y (here x l.object l.found) l.parent) b a
