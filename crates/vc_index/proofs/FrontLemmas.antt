-- The files that the last path begins with, and which file the next path may lie in.
use Rattle.std.proofs.Common.{◌≡◌, ◌≢◌, ℕ, ◌<◌, ◌≤◌, Bool, true, false, ◌||◌, List, ◌∷◌, ◌++◌, Option, Some, None, suc, ◌+◌, sym, ap, refl, ◌∙◌, subst, length, take, get_or, arith, length-append, ◌⊎◌, inl, inr, []}
use Rattle.std.specs.Prelude.{IsSome, IsTrue, bytes_eq, map, nat_eq}
use Rattle.std.specs.List.{list_any, starts_with}
use Rattle.std.specs.FinMap.{get}
use Rattle.std.specs.Ordering.{nat_cmp, is_gt}
use Rattle.std.specs.declared.cmp.Ordering.TheVariants.{Less}
use Rattle.std.specs.Cmp.Lexicographic.{slice_cmp}
use Rattle.std.proofs.lemmas.Bool.{cases_lt}
use Rattle.std.proofs.lemmas.Bool.Decides.{Decides-eqb}
use Rattle.std.proofs.lemmas.List.{get_or-take, get_or_append_left, map-append, take_at}
use Rattle.std.proofs.lemmas.Slice.Eq.{bytes_eq-Decides, starts_is}
use Rattle.vc_index.specs.IndexMap.{HasFileAbove, IndexMap}
use Rattle.vc_index.specs.Path.{IsAbove}
use Rattle.vc_index.specs.declared.entry.IndexEntry.{IndexEntry}
use Rattle.vc_index.specs.Reading.{IsFront, IsReadTo, has_front}
use Rattle.vc_index.proofs.ConflictLemmas.{begins_between, above_cut, cut_above}
use Rattle.vc_index.proofs.EntriesLemmas.{get_all}
use denote.Ref.{Bor}
use Rattle.vc_lemmas.proofs.Texts.{bytes_eq_same}

bytes_same : (a b : List ℕ) → bytes_eq a b ≡ true → a ≡ b
bytes_same a b e = (bytes_eq-Decides a b).0 e

-- texts that are lent
pub lent_fronts : (fronts : List (Bor (List ℕ))) (path : List ℕ) → list_any (λ y. bytes_eq y.now path) fronts ≡ has_front (map (λ front. front.now) fronts) path
lent_fronts [] path = refl
lent_fronts (y ∷ fronts) path = ap (λ b. bytes_eq y.now path || b) (lent_fronts fronts path)

-- one front more
or_weaker : (a b c : Bool) → (IsTrue b → IsTrue c) → IsTrue (a || b) → IsTrue (a || c)
or_weaker true b c f h = refl
or_weaker false b c f h = f h

pub front_more : (fronts : List (List ℕ)) (x front : List ℕ) → IsTrue (has_front fronts front) → IsTrue (has_front (fronts ++ x ∷ []) front)
front_more [] x front h = absurd (cc h)
front_more (y ∷ fronts) x front h = or_weaker (bytes_eq y front) _ _ (front_more fronts x front) h

or_right : (a b : Bool) → IsTrue b → IsTrue (a || b)
or_right true b h = refl
or_right false b h = h

pub front_last : (fronts : List (List ℕ)) (x : List ℕ) → IsTrue (has_front (fronts ++ x ∷ []) x)
front_last [] x = ap (λ b. b || false) (bytes_eq_same x)
front_last (y ∷ fronts) x = or_right (bytes_eq y x) _ (front_last fronts x)

-- it is one of those before, or the last
last_alone : (x front : List ℕ) (b : Bool) → bytes_eq x front ≡ b → IsTrue (b || false) → IsTrue false ⊎ (x ≡ front)
last_alone x front true e h = inr (bytes_same x front e)
last_alone x front false e h = inl h

or_cases : (P : Type 0) (a b c : Bool) → (IsTrue b → IsTrue c ⊎ P) → IsTrue (a || b) → IsTrue (a || c) ⊎ P
or_cases P true b c f h = inl refl
or_cases P false b c f h = f h

pub front_cases : (fronts : List (List ℕ)) (x front : List ℕ) → IsTrue (has_front (fronts ++ x ∷ []) front) → IsTrue (has_front fronts front) ⊎ (x ≡ front)
front_cases [] x front h = last_alone x front (bytes_eq x front) refl h
front_cases (y ∷ fronts) x front h = or_cases (x ≡ front) (bytes_eq y front) _ _ (front_cases fronts x front) h

-- what the path doesn't begin with
pub no_front : (path front : List ℕ) (b : Bool) → b ≡ starts_with nat_eq path front → b ≡ false → IsFront front path → ⊥
no_front path front b test none (rest, is) = let yes : b ≡ true = (starts_is Decides-eqb path front b test).1 rest is in cc (yes, none)

-- fronts of which each is one of all, and that have each of all that the path begins with
abbrev pub Keeps : List (Bor (List ℕ)) → List ℕ → List (Bor (List ℕ)) → Type 0
Keeps all path fronts =
    ((front : List ℕ) → IsTrue (has_front (map (λ f. f.now) fronts) front) → IsTrue (has_front (map (λ f. f.now) all) front))
    × ((front : List ℕ) → IsFront front path → IsTrue (has_front (map (λ f. f.now) all) front) → IsTrue (has_front (map (λ f. f.now) fronts) front))

-- one less, with which the path doesn't begin
pub keeps_less : (all fronts rest : List (Bor (List ℕ))) (x : Bor (List ℕ)) (path : List ℕ) → fronts ≡ rest ++ x ∷ [] → (IsFront x.now path → ⊥) → Keeps all path fronts → Keeps all path rest
keeps_less all fronts rest x path is other so_far =
    let maps : map (λ (f : Bor (List ℕ)). f.now) fronts ≡ map (λ f. f.now) rest ++ x.now ∷ [] = ap (map (λ (f : Bor (List ℕ)). f.now)) is ∙ map-append (λ f. f.now) rest (x ∷ []) in (
      λ front h. so_far.0 front (subst (λ l. IsTrue (has_front l front)) (sym maps) (front_more (map (λ f. f.now) rest) x.now front h)),
      λ front begins h. elim (front_cases (map (λ f. f.now) rest) x.now front (subst (λ l. IsTrue (has_front l front)) maps (so_far.1 front begins h))) [
        | inl there ↦ there
        | inr same ↦ absurd (other (subst (λ (t : List ℕ). IsFront t path) (sym same) begins))
      ],
    )

-- ---- a file that the next path lies in
pub value_of : (o : Option IndexEntry) → IsSome o → (v : IndexEntry) × (o ≡ Some v)
value_of None s = absurd (cc s)
value_of (Some v) s = (v, refl)

module _ (m : IndexMap) (last path : List ℕ) (fronts : List (List ℕ)) (so_far : IsReadTo m last fronts) (less : slice_cmp nat_cmp last path ≡ Less) where
  -- a file that the path begins with begins the last path, too
  pub begins_last : (other : List ℕ) → IsSome (get m other) → IsFront other path → IsFront other last
  begins_last other some begins =
      let found = value_of (get m other) some in
      let before : is_gt (slice_cmp nat_cmp other last) ≡ false = get_all (λ e. is_gt (slice_cmp nat_cmp e.0 last) ≡ false) m other found.0 so_far.below found.1 in
      begins_between other last begins.0 before (subst (λ (p : List ℕ). is_gt (slice_cmp nat_cmp last p) ≡ false) begins.1 (ap is_gt less))

  -- no folder above the last path is a file
  none_above_last : (other : List ℕ) → IsSome (get m other) → IsAbove other last → ⊥
  none_above_last other some above = elim so_far.is_last [
    | inl first ↦ omega (arith, ap length (sym first ∙ above.1), length-append other (47 ∷ above.0))
    | inr there ↦ so_far.sound.apart other last some there above
  ]

  module _ (n : ℕ) (inside : (n ≤ length last) × (n ≤ length path)) (same : take n last ≡ take n path) (all : n < length last → n < length path → get_or last n 0 ≢ get_or path n 0) where
    -- the name of a file that the path lies in is all that both paths have in common
    shared_is : (other rest : List ℕ) → path ≡ other ++ 47 ∷ rest → IsSome (get m other) → n ≡ length other
    shared_is other rest is some =
        let begins = begins_last other some (47 ∷ rest, is) in
        let size : length path ≡ length other + suc (length rest) = ap length is ∙ length-append other (47 ∷ rest) in
        let size_last : length last ≡ length other + length begins.0 = ap length begins.1 ∙ length-append other begins.0 in
        elim (cases_lt n (length other)) [
          | inl shorter ↦
              let here : get_or last n 0 ≡ get_or path n 0 =
              ap (λ (l : List ℕ). get_or l n 0) begins.1 ∙ get_or_append_left other begins.0 0 n shorter
              ∙ sym (ap (λ (l : List ℕ). get_or l n 0) is ∙ get_or_append_left other (47 ∷ rest) 0 n shorter) in
              absurd (all (omega (arith, size_last, shorter)) (omega (arith, size, shorter)) here)
          | inr long ↦ elim (cases_lt (length other) n) [
            | inl longer ↦
                let slash : get_or last (length other) 0 ≡ 47 =
                sym (get_or-take n last (length other) 0 longer) ∙ ap (λ (l : List ℕ). get_or l (length other) 0) same ∙ get_or-take n path (length other) 0 longer ∙ (above_cut path other rest is).1 in
                let above = cut_above last (length other) (omega (arith, longer, inside.0)) slash in
                let front : take (length other) last ≡ other = ap (take (length other)) begins.1 ∙ take_at other begins.0 (length other) refl in
                absurd (none_above_last other some (subst (λ (f : List ℕ). IsAbove f last) front above))
            | inr short ↦ omega (arith, long, short)
          ]
        ]

    pub lies_from : (n < length path) × (get_or path n 0 ≡ 47) × IsTrue (has_front fronts (take n path)) → HasFileAbove m path
    lies_from found = (take n path, so_far.some (take n path) found.2, cut_above path n found.0 found.1)

    pub lies_to : HasFileAbove m path → (n < length path) × (get_or path n 0 ≡ 47) × IsTrue (has_front fronts (take n path))
    lies_to (other, some, (rest, is)) =
        let size : n ≡ length other = shared_is other rest is some in
        let cut = above_cut path other rest is in (
          omega (arith, size, cut.0),
          ap (λ k. get_or path k 0) size ∙ cut.1,
          subst (λ (f : List ℕ). IsTrue (has_front fronts f)) (sym (ap (λ k. take k path) size ∙ cut.2)) (so_far.all other some (begins_last other some (47 ∷ rest, is))),
        )
