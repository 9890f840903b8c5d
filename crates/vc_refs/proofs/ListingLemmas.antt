-- A listing of paths, read one after the other, gives the list of the refs.
use Rattle.std.proofs.Common.{◌≡◌, ℕ, zero, suc, ◌+◌, ◌<◌, ◌≤◌, true, ◌||◌, inl, inr, List, [], ◌∷◌, ◌++◌, map, take, drop, length, get_or, None, sym, ap, refl, ◌∙◌, subst, arith, drop-cons}
use Rattle.std.specs.Prelude.{◌≢◌, codes, String, string_bytes}
use Rattle.std.specs.Global.{Global}
use Rattle.std.specs.List.{AllByRecursion}
use Rattle.std.specs.List.Sorted.{IsStrictlySortedBy}
use Rattle.std.specs.Ordering.{nat_cmp, eq_by_cmp}
use Rattle.std.specs.declared.cmp.Ordering.{Ordering}
use Rattle.std.specs.declared.cmp.Ordering.TheVariants.{Greater}
use Rattle.std.specs.Cmp.Lexicographic.{slice_cmp}
use Rattle.std.proofs.lemmas.List.{map_more, map-append, take-append-drop}
use Rattle.std.proofs.lemmas.List.Folds.{list_any-append}
use Rattle.std.proofs.lemmas.Bool.{or_cases, or_right}
use Rattle.vc_files.specs.FileMap.{FileMap, paths_under}
use Rattle.vc_object.proofs.Order.{All-push}
use Rattle.vc_refs.specs.LooseFault.{BlamesList, BlamesPath, IsFirstBadLoose}
use Rattle.vc_refs.specs.Refs.{is_taken, loose_refs, IsBadLoose, SpellsLoose}
use Rattle.vc_refs.specs.declared.faults.RefFault.{RefFault}
use Rattle.vc_refs.specs.declared.faults.RefFault.TheVariants.{Stale, Conflict, BadRefFile, HeadLoop, Fault}
use Rattle.vc_refs.proofs.PathLemmas.{paths_rise, is_among, is_among-paths_under, found_above, first_among, head_among}

abbrev path_cmp : List ℕ → List ℕ → Ordering
path_cmp = slice_cmp nat_cmp

-- none of the paths is bad
pub record AllGood (content : FileMap) (paths : List (List ℕ)) : Type 0 where
  pub each : AllByRecursion (λ p. IsBadLoose content p → ⊥) paths

pub none_good_yet : (content : FileMap) → AllGood content []
none_good_yet content = record { each = tt }

pub one_more_good : (content : FileMap) (paths : List (List ℕ)) (p : List ℕ) → AllGood content paths → (IsBadLoose content p → ⊥) → AllGood content (paths ++ p ∷ [])
one_more_good content paths p good here = record { each = All-push (λ p. IsBadLoose content p → ⊥) paths p good.each here }

-- so nothing in `refs/` is
pub spells_refs : (content : FileMap) → AllGood content (paths_under content (codes "refs/")) → SpellsLoose content
spells_refs content good q bad = found_above (λ p. IsBadLoose content p → ⊥) q (paths_under content (codes "refs/")) good.each (is_among-paths_under content (codes "refs/") q ∙ bad.taken) bad

sorted_back : (front ys : List (List ℕ)) → IsStrictlySortedBy path_cmp (front ++ ys) → IsStrictlySortedBy path_cmp ys
unfolding IsStrictlySortedBy
sorted_back [] ys sorted = sorted
sorted_back (x ∷ front) ys sorted = sorted_back front ys sorted.1

-- a path that stands for no ref, after good ones, is the first bad one
pub first_bad : (content : FileMap) (front : List (List ℕ)) (p : List ℕ) (rest : List (List ℕ)) → paths_under content (codes "refs/") ≡ front ++ p ∷ rest → AllGood content front → loose_refs content p ≡ None → IsFirstBadLoose content p
first_bad content front p rest listed good none = record { bad = record { taken = taken; none = none }; first = first }
  where
    member : (q : List ℕ) → (is_among q front || is_among q (p ∷ rest)) ≡ is_taken content q
    member q = sym (list_any-append (eq_by_cmp path_cmp q) front (p ∷ rest)) ∙ ap (is_among q) (sym listed) ∙ is_among-paths_under content (codes "refs/") q

    taken : is_taken content p ≡ true
    taken = sym (member p) ∙ or_right (is_among p front) (is_among p (p ∷ rest)) (head_among p rest)

    sorted : IsStrictlySortedBy path_cmp (p ∷ rest)
    sorted = sorted_back front (p ∷ rest) (subst (IsStrictlySortedBy path_cmp) listed (paths_rise content (codes "refs/")))

    first : (q : List ℕ) → IsBadLoose content q → path_cmp p q ≢ Greater
    first q bad = elim (or_cases (is_among q front) (is_among q (p ∷ rest)) (member q ∙ bad.taken)) [
      | inl before ↦ absurd (found_above (λ p. IsBadLoose content p → ⊥) q front good.each before bad)
      | inr after ↦ first_among p rest sorted q after
    ]

-- one path more in the loop
pub paths_more : (all : List (String Global)) (i : ℕ) (path : String Global) → i < length all → path ≡ get_or all i path → map string_bytes (take (i + 1) all) ≡ map string_bytes (take i all) ++ string_bytes path ∷ []
paths_more all i path inside is = map_more string_bytes all i path inside ∙ ap (λ s. map string_bytes (take i all) ++ string_bytes s ∷ []) (sym is)

-- the paths before, this one, and those after
pub paths_split : (all : List (String Global)) (i : ℕ) (path : String Global) → i < length all → path ≡ get_or all i path → map string_bytes all ≡ map string_bytes (take i all) ++ string_bytes path ∷ map string_bytes (drop (suc i) all)
paths_split all i path inside is =
    ap (map string_bytes) (sym (take-append-drop i all) ∙ ap (λ r. take i all ++ r) (drop-cons all i path inside ∙ ap (λ s. s ∷ drop (suc i) all) (sym is)))
    ∙ map-append string_bytes (take i all) (path ∷ drop (suc i) all)

take_whole : {A : Type 0} (n : ℕ) (xs : List A) → length xs ≤ n → take n xs ≡ xs
take_whole zero [] past = refl
take_whole (suc n) [] past = refl
take_whole zero (x ∷ xs) past = absurd (omega arith)
take_whole (suc n) (x ∷ xs) past = ap (λ r. x ∷ r) (take_whole n xs (omega arith))

-- at the end all paths were read
pub paths_all : (all : List (String Global)) (i : ℕ) (listed : List (List ℕ)) → length all ≤ i → map string_bytes all ≡ listed → map string_bytes (take i all) ≡ listed
paths_all all i listed past is = ap (map string_bytes) (take_whole i all past) ∙ is

-- a refusal of one path is one of the listing
pub of_list : (content : FileMap) (front : List (List ℕ)) (p : List ℕ) (rest : List (List ℕ)) → paths_under content (codes "refs/") ≡ front ++ p ∷ rest → AllGood content front
    → (e : RefFault) → BlamesPath content p e → BlamesList content e
of_list content front p rest listed good (Stale current) h = h
of_list content front p rest listed good (Conflict other) h = h
of_list content front p rest listed good (BadRefFile path) h = subst (IsFirstBadLoose content) (sym h.0) (first_bad content front p rest listed good h.1)
of_list content front p rest listed good HeadLoop h = h
of_list content front p rest listed good (Fault fault) h = tt
