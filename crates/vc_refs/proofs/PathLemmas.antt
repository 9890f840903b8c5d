-- The paths under a prefix: in order, each once, and all that are stored.
use Rattle.std.proofs.Common.{◌≡◌, ℕ, Bool, true, false, ◌&&◌, ◌||◌, nat_eq, List, [], ◌∷◌, sym, ap, refl, ◌∙◌, subst}
use Rattle.std.specs.Prelude.{◌≢◌, is_some}
use Rattle.std.specs.List.{starts_with, list_any, AllByRecursion}
use Rattle.std.specs.List.Sorted.{IsStrictlySortedBy}
use Rattle.std.specs.Ordering.{nat_cmp, is_eq, eq_by_cmp}
use Rattle.std.specs.declared.cmp.Ordering.{Ordering}
use Rattle.std.specs.declared.cmp.Ordering.TheVariants.{Less, Greater}
use Rattle.std.specs.Cmp.Lexicographic.{slice_cmp}
use Rattle.std.specs.FinMap as files
use Rattle.std.specs.FinMap.{entries, entries_sorted, keys, contains_key-keys}
use Rattle.std.proofs.lemmas.List.Kept.{IsStrictlySortedBy-filter}
use Rattle.std.proofs.lemmas.Map.Views.{any-filter_same}
use Rattle.std.proofs.lemmas.Map.Text.{is_eq-slice_cmp}
use Rattle.std.proofs.lemmas.Slice.Eq.{bytes_eq-Decides}
use Rattle.vc_files.proofs.KeyLemmas.{keys_rise}
use Rattle.vc_files.specs.FileMap.{FileMap, paths_under}

abbrev path_cmp : List ℕ → List ℕ → Ordering
path_cmp = slice_cmp nat_cmp

-- the paths under a prefix strictly rise
pub paths_rise : (content : FileMap) (prefix : List ℕ) → IsStrictlySortedBy (slice_cmp nat_cmp) (paths_under content prefix)
paths_rise content prefix = IsStrictlySortedBy-filter path_cmp (λ path. starts_with nat_eq path prefix) (keys content) (keys_rise (entries content) (entries_sorted content))

-- whether the path is among them
abbrev pub is_among : List ℕ → List (List ℕ) → Bool
is_among q paths = list_any (eq_by_cmp (slice_cmp nat_cmp) q) paths

pub same_path : (q k : List ℕ) → eq_by_cmp (slice_cmp nat_cmp) q k ≡ true → q ≡ k
same_path q k h = (bytes_eq-Decides q k).0 (sym (is_eq-slice_cmp q k) ∙ h)

-- they are the stored ones that begin so
pub is_among-paths_under : (content : FileMap) (prefix q : List ℕ) → is_among q (paths_under content prefix) ≡ (starts_with nat_eq q prefix && is_some (files.get content q))
is_among-paths_under content prefix q =
    any-filter_same (eq_by_cmp path_cmp q) (λ path. starts_with nat_eq path prefix) (starts_with nat_eq q prefix)
    (λ k same. ap (λ path. starts_with nat_eq path prefix) (sym (same_path q k same))) (keys content)
    ∙ ap (λ b. starts_with nat_eq q prefix && b) (sym (contains_key-keys content q))

pub found_above : (P : List ℕ → Type 0) (q : List ℕ) (paths : List (List ℕ)) → AllByRecursion P paths → is_among q paths ≡ true → P q
found_above P q [] all h = cc
found_above P q (k ∷ ks) all h =
    elim (eq_by_cmp path_cmp q k) as (λ b. eq_by_cmp path_cmp q k ≡ b → (b || is_among q ks) ≡ true → P q) [
      | true ↦ λ same _. subst P (sym (same_path q k same)) all.0
      | false ↦ λ _ rest. found_above P q ks all.1 rest
    ] refl h

not_greater : (o : Ordering) → o ≡ Less → o ≢ Greater
not_greater o less greater = cc

pub not_above_itself : (x : List ℕ) → path_cmp x x ≢ Greater
not_above_itself x greater =
    let equal : is_eq (path_cmp x x) ≡ true = is_eq-slice_cmp x x ∙ (bytes_eq-Decides x x).1 refl in
    let other : is_eq (path_cmp x x) ≡ false = ap is_eq greater in
    cc

-- the first of rising paths is above none of them
pub first_among : (p : List ℕ) (ps : List (List ℕ)) → IsStrictlySortedBy (slice_cmp nat_cmp) (p ∷ ps) → (q : List ℕ) → is_among q (p ∷ ps) ≡ true → slice_cmp nat_cmp p q ≢ Greater
unfolding IsStrictlySortedBy
first_among p ps sorted q h =
    elim (eq_by_cmp path_cmp q p) as (λ b. eq_by_cmp path_cmp q p ≡ b → (b || is_among q ps) ≡ true → path_cmp p q ≢ Greater) [
      | true ↦ λ same _. subst (λ k. path_cmp p k ≢ Greater) (sym (same_path q p same)) (not_above_itself p)
      | false ↦ λ _ rest. not_greater (path_cmp p q) (found_above (λ k. path_cmp p k ≡ Less) q ps sorted.0 rest)
    ] refl h

pub head_among : (p : List ℕ) (ps : List (List ℕ)) → is_among p (p ∷ ps) ≡ true
head_among p ps =
    let equal : is_eq (path_cmp p p) ≡ true = is_eq-slice_cmp p p ∙ (bytes_eq-Decides p p).1 refl in
    ap (λ b. b || is_among p ps) equal
