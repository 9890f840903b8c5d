-- The status, path by path.
use Rattle.std.proofs.Common.{◌≡◌, ℕ, zero, suc, true, false, ◌||◌, List, ◌∷◌, ◌++◌, map, Option, Some, None, sym, ap, refl, ◌∙◌, subst, ◌⊎◌, inl, inr, arith, []}
use Rattle.std.specs.Prelude.{IsSome, is_some, Contains}
use Rattle.std.specs.FinMap.{get}
use Rattle.std.specs.List.{AllByRecursion}
use Rattle.std.specs.List.Sorted.{IsStrictlySortedBy}
use Rattle.std.specs.Ordering.{nat_cmp}
use Rattle.std.specs.Cmp.Lexicographic.{slice_cmp}
use Rattle.std.specs.declared.cmp.Ordering.TheVariants.{Less}
use Rattle.std.specs.declared.cmp.Ordering.{Ordering}
use Rattle.std.proofs.lemmas.List.Elements.{Contains-append_left, Contains-append_right, Contains-append_cases}
use Rattle.vc_files.specs.FileMap.{FileMap}
use Rattle.vc_object.proofs.Order.{All-push}
use Rattle.vc_index.specs.IndexMap.{IndexMap}
use Rattle.vc_index.specs.declared.entry.IndexEntry.{IndexEntry}
use Rattle.vc_index.proofs.MapLemmas.{same_text}
use Rattle.vc_checkout.specs.Status.{IsIndexChange, IsWorkChange, Differs, IsStatus, Seen, seen}
use Rattle.vc_checkout.specs.declared.change.Change.{Change}
use Rattle.vc_checkout.specs.WorkTree.{IsUntracked}
use Rattle.vc_work_tree.specs.Paths.{is_same, is_listed}
use Rattle.vc_checkout.specs.declared.change.IndexChange.{IndexChange}
use Rattle.vc_checkout.specs.declared.change.IndexChange.TheVariants as of_index
use Rattle.vc_checkout.specs.declared.change.WorkChange.{WorkChange}
use Rattle.vc_checkout.specs.declared.change.WorkChange.TheVariants as of_work
use Rattle.vc_checkout.proofs.ClearLemmas.{sorted_rest}
use Rattle.vc_lemmas.proofs.Lists.{all_map}

-- ---- one path has one pair of changes
pub one_index_change : (t i : Option IndexEntry) (x y : IndexChange) → IsIndexChange t i x → IsIndexChange t i y → x ≡ y
one_index_change t i of_index.Same of_index.Same p q = refl
one_index_change t i of_index.Same of_index.Added p q = let a = q.0 in let b = q.1 in cc (p, a, b)
one_index_change t i of_index.Same of_index.Removed p q = let a = q.0 in let b = q.1 in cc (p, a, b)
one_index_change t i of_index.Same of_index.Changed p q = absurd (q.2 p)
one_index_change t i of_index.Added of_index.Same p q = let a = p.0 in let b = p.1 in cc (q, a, b)
one_index_change t i of_index.Added of_index.Added p q = refl
one_index_change t i of_index.Added of_index.Removed p q = let a = p.0 in let b = q.0 in cc (a, b)
one_index_change t i of_index.Added of_index.Changed p q = let a = p.0 in let b = q.0 in cc (a, b)
one_index_change t i of_index.Removed of_index.Same p q = let a = p.0 in let b = p.1 in cc (q, a, b)
one_index_change t i of_index.Removed of_index.Added p q = let a = p.0 in let b = q.0 in cc (a, b)
one_index_change t i of_index.Removed of_index.Removed p q = refl
one_index_change t i of_index.Removed of_index.Changed p q = let a = p.1 in let b = q.1 in cc (a, b)
one_index_change t i of_index.Changed of_index.Same p q = absurd (p.2 q)
one_index_change t i of_index.Changed of_index.Added p q = let a = q.0 in let b = p.0 in cc (a, b)
one_index_change t i of_index.Changed of_index.Removed p q = let a = q.1 in let b = p.1 in cc (a, b)
one_index_change t i of_index.Changed of_index.Changed p q = refl

some_not_none : (f : Option (List ℕ)) → IsSome f → f ≡ None → ⊥
some_not_none f s n = cc (s, n)

none_not_some : (f : Option (List ℕ)) (b : List ℕ) → f ≡ None → f ≡ Some b → ⊥
none_not_some f b n s = cc (s, n)

same_bytes : (f : Option (List ℕ)) (a b : List ℕ) → f ≡ Some a → f ≡ Some b → a ≡ b
same_bytes f a b p q = cc (p, q)

pub one_work_change : (e : Option IndexEntry) (f : Option (List ℕ)) (x y : WorkChange) → IsWorkChange e f x → IsWorkChange e f y → x ≡ y
one_work_change None f of_work.Same of_work.Same p q = refl
one_work_change None f of_work.Same of_work.Untracked p q = absurd (some_not_none f q p)
one_work_change None f of_work.Untracked of_work.Same p q = absurd (some_not_none f p q)
one_work_change None f of_work.Untracked of_work.Untracked p q = refl
one_work_change None f of_work.Same of_work.Gone p q = absurd q
one_work_change None f of_work.Same of_work.Changed p q = absurd q
one_work_change None f of_work.Untracked of_work.Gone p q = absurd q
one_work_change None f of_work.Untracked of_work.Changed p q = absurd q
one_work_change None f of_work.Gone y p q = absurd p
one_work_change None f of_work.Changed y p q = absurd p
one_work_change (Some e) f of_work.Same of_work.Same p q = refl
one_work_change (Some e) f of_work.Same of_work.Gone p q = elim p [ inl commit ↦ absurd (q.0 commit) | inr (b, is, _) ↦ absurd (none_not_some f b q.1 is) ]
one_work_change (Some e) f of_work.Same of_work.Changed p q = elim p [
  | inl commit ↦ absurd (q.0 commit)
  | inr (b, is, named) ↦ let (b', is', other) = q.1 in absurd (other (let s = same_bytes f b b' is is' in cc (s, named)))
]
one_work_change (Some e) f of_work.Gone of_work.Same p q = elim q [ inl commit ↦ absurd (p.0 commit) | inr (b, is, _) ↦ absurd (none_not_some f b p.1 is) ]
one_work_change (Some e) f of_work.Gone of_work.Gone p q = refl
one_work_change (Some e) f of_work.Gone of_work.Changed p q = absurd (none_not_some f q.1.0 p.1 q.1.1)
one_work_change (Some e) f of_work.Changed of_work.Same p q = elim q [
  | inl commit ↦ absurd (p.0 commit)
  | inr (b, is, named) ↦ let (b', is', other) = p.1 in absurd (other (let s = same_bytes f b b' is is' in cc (s, named)))
]
one_work_change (Some e) f of_work.Changed of_work.Gone p q = absurd (none_not_some f p.1.0 q.1 p.1.1)
one_work_change (Some e) f of_work.Changed of_work.Changed p q = refl
one_work_change (Some e) f of_work.Untracked y p q = absurd p
one_work_change (Some e) f of_work.Same of_work.Untracked p q = absurd q
one_work_change (Some e) f of_work.Gone of_work.Untracked p q = absurd q
one_work_change (Some e) f of_work.Changed of_work.Untracked p q = absurd q

-- ---- lists
contains_one : {X : Type 0} (x y : X) → Contains (y ∷ []) x → y ≡ x
contains_one x y (zero, inside, is) = is
contains_one x y (suc k, inside, is) = absurd (omega arith)

one_contains : {X : Type 0} (x : X) → Contains (x ∷ []) x
one_contains x = (0, omega arith, refl)

sorted_more : {X : Type 0} (order : X → X → Ordering) (xs : List X) (y : X) → IsStrictlySortedBy order xs → AllByRecursion (λ x. order x y ≡ Less) xs → IsStrictlySortedBy order (xs ++ y ∷ [])
unfolding IsStrictlySortedBy
sorted_more order [] y sorted below = (tt, tt)
sorted_more order (x ∷ xs) y sorted below = (All-push _ xs y sorted.0 below.0, sorted_more order xs y sorted.1 below.1)

sorted_none : {X : Type 0} (order : X → X → Ordering) → IsStrictlySortedBy order []
unfolding IsStrictlySortedBy
sorted_none order = tt

-- ---- the paths so far, and the rest
abbrev pub order : Seen → Seen → Ordering
order x y = slice_cmp nat_cmp x.0 y.0

module _ (tree index : IndexMap) (work : FileMap) where
  abbrev pub DiffersSo : Seen → Type 0
  DiffersSo x = Differs tree index work x.0 x.1 x.2

  -- the changes are those of the paths that are not in the rest, and come before the rest
  pub record SoFar (changes : List Seen) (rest : List (List ℕ)) : Type 0 where
    pub sorted : IsStrictlySortedBy order changes
    pub rest_sorted : IsStrictlySortedBy (slice_cmp nat_cmp) rest
    pub below : AllByRecursion (λ (x : Seen). AllByRecursion (λ k. slice_cmp nat_cmp x.0 k ≡ Less) rest) changes
    pub sound : (x : Seen) → Contains changes x → DiffersSo x
    pub complete : (x : Seen) → DiffersSo x → Contains changes x ⊎ (is_listed x.0 rest ≡ true)

  -- a path with a change is one of them
  pub status_start : (changes : List Seen) (rest : List (List ℕ)) → changes ≡ [] → IsStrictlySortedBy (slice_cmp nat_cmp) rest
      → ((q : List ℕ) → (is_some (get index q) || is_some (get tree q)) ≡ true ⊎ IsUntracked index work q → is_listed q rest ≡ true)
      → SoFar changes rest
  status_start changes rest none sorted all = record {
    sorted = subst (IsStrictlySortedBy order) (sym none) (sorted_none order);
    rest_sorted = sorted;
    below = subst (AllByRecursion (λ (x : Seen). AllByRecursion (λ k. slice_cmp nat_cmp x.0 k ≡ Less) rest)) (sym none) tt;
    sound = λ x has. absurd (nothing x (subst (λ xs. Contains xs x) none has));
    complete = λ x differs. inr (all x.0 (somewhere x.0 x.1 x.2 differs (get tree x.0) (get index x.0) (get work x.0) refl refl refl));
  }
    where
      nothing : (x : Seen) → Contains [] x → ⊥
      nothing x (k, inside, is) = omega (arith, inside)

      somewhere : (q : List ℕ) (s : IndexChange) (u : WorkChange) → Differs tree index work q s u → (t i : Option IndexEntry) (w : Option (List ℕ)) → get tree q ≡ t → get index q ≡ i → get work q ≡ w
          → ((is_some (get index q) || is_some (get tree q)) ≡ true) ⊎ IsUntracked index work q
      somewhere q s u d (Some t) (Some i) w et ei ew = inl (rw (et, ei) refl)
      somewhere q s u d (Some t) None w et ei ew = inl (rw (et, ei) refl)
      somewhere q s u d None (Some i) w et ei ew = inl (rw (et, ei) refl)
      somewhere q s u d None None (Some w) et ei ew = inr (rw ew refl, ei)
      somewhere q s u d None None None et ei ew = elim (d.some) [
        | inl other ↦ absurd (other (one_index_change None None s of_index.Same (subst (λ o. IsIndexChange o None s) et (subst (λ o. IsIndexChange (get tree q) o s) ei d.staged_so)) refl))
        | inr other ↦ absurd (other (one_work_change None None u of_work.Same (subst (λ o. IsWorkChange None o u) ew (subst (λ o. IsWorkChange o (get work q) u) ei d.unstaged_so)) refl))
      ]

  -- nothing differs at the next path
  pub status_same : (changes : List Seen) (rest before : List (List ℕ)) (k : List ℕ) → before ≡ k ∷ rest → ((s : IndexChange) (u : WorkChange) → Differs tree index work k s u → ⊥) → SoFar changes before → SoFar changes rest
  status_same changes rest before k first none so =
      let old = subst (SoFar changes) first so in
      record {
        sorted = old.sorted;
        rest_sorted = (sorted_rest k rest old.rest_sorted).1;
        below = all_map _ _ changes (λ x all. all.1) old.below;
        sound = old.sound;
        complete = λ x differs. elim (old.complete x differs) [
          | inl has ↦ inl has
          | inr listed ↦ elim (is_same x.0 k) as (λ b. is_same x.0 k ≡ b → (b || is_listed x.0 rest) ≡ true → Contains changes x ⊎ (is_listed x.0 rest ≡ true)) [
            | true ↦ λ same _. absurd (none x.1 x.2 (subst (λ q. Differs tree index work q x.1 x.2) (same_text x.0 k same) differs))
            | false ↦ λ _ later. inr later
          ] refl listed
        ];
      }

  -- the next path has a change
  pub status_more : (changes after : List Seen) (rest before : List (List ℕ)) (x : Seen) → before ≡ x.0 ∷ rest → after ≡ changes ++ x ∷ [] → DiffersSo x → SoFar changes before → SoFar after rest
  status_more changes after rest before x first more differs so =
      let old = subst (SoFar changes) first so in
      subst (λ l. SoFar l rest) (sym more) (record {
        sorted = sorted_more order changes x old.sorted (all_map _ _ changes (λ y all. all.0) old.below);
        rest_sorted = (sorted_rest x.0 rest old.rest_sorted).1;
        below = All-push _ changes x (all_map _ _ changes (λ y all. all.1) old.below) (sorted_rest x.0 rest old.rest_sorted).0;
        sound = λ y has. elim (Contains-append_cases changes (x ∷ []) y has) [
          | inl was ↦ old.sound y was
          | inr new ↦ subst DiffersSo (contains_one y x new) differs
        ];
        complete = λ y d. elim (old.complete y d) [
          | inl has ↦ inl (Contains-append_left changes (x ∷ []) y has)
          | inr listed ↦ elim (is_same y.0 x.0) as (λ b. is_same y.0 x.0 ≡ b → (b || is_listed y.0 rest) ≡ true → Contains (changes ++ x ∷ []) y ⊎ (is_listed y.0 rest ≡ true)) [
            | true ↦ λ same _. inl (Contains-append_right changes (x ∷ []) y (subst (Contains (x ∷ [])) (sym (one y d (same_text y.0 x.0 same))) (one_contains x)))
            | false ↦ λ _ later. inr later
          ] refl listed
        ];
      })
    where
      one : (y : Seen) → DiffersSo y → y.0 ≡ x.0 → y ≡ x
      one y d same =
          let d' = subst (λ q. Differs tree index work q y.1 y.2) same d in
          let s = one_index_change _ _ y.1 x.1 d'.staged_so differs.staged_so in
          let u = one_work_change _ _ y.2 x.2 d'.unstaged_so differs.unstaged_so in
          pair y x same s u
        where
          pair : (a b : Seen) → a.0 ≡ b.0 → a.1 ≡ b.1 → a.2 ≡ b.2 → a ≡ b
          pair (a, b, c) (d, e, f) p q r = cc (p, q, r)

  -- no path is left
  pub status_ends : (changes : List Seen) (rest : List (List ℕ)) → rest ≡ [] → SoFar changes rest → IsStatus tree index work changes
  status_ends changes rest none so = record {
    sorted = so.sorted;
    exact = λ q s u. (
      so.sound (q, s, u),
      λ d. elim (so.complete (q, s, u) d) [
        | inl has ↦ has
        | inr listed ↦ cc (none, listed)
      ],
    );
  }

-- one change more
pub seen_more : (changes after : List Change) (change : Change) → after ≡ changes ++ change ∷ [] → map seen after ≡ map seen changes ++ seen change ∷ []
seen_more changes after change is = ap (map seen) is ∙ at_end changes
  where
    at_end : (xs : List Change) → map seen (xs ++ change ∷ []) ≡ map seen xs ++ seen change ∷ []
    at_end [] = refl
    at_end (x ∷ xs) = ap (λ l. seen x ∷ l) (at_end xs)
