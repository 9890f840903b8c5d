-- What stands in the way of a ref: the folders of its name, and the paths in its own folder.
use Rattle.std.proofs.Common.{◌≡◌, ℕ, suc, ◌+◌, ◌-◌, true≢false, ◌<◌, ◌≤◌, true, false, ◌&&◌, ◌||◌, ◌⊎◌, inl, inr, nat_eq, List, ◌∷◌, ◌++◌, take, drop, length, get_or, Option, Some, None, sym, ap, refl, ◌∙◌, subst, arith, append_assoc, length-append, drop-cons, []}
use Rattle.std.specs.List.Sorted.{IsStrictlySortedBy}
use Rattle.std.specs.Prelude.{◌≢◌, codes, is_some, option_map, MatchOption, map}
use Rattle.std.specs.Option.{option_to_list}
use Rattle.std.specs.List.{starts_with}
use Rattle.std.specs.Ordering.{nat_cmp, ordering_then}
use Rattle.std.specs.declared.cmp.Ordering.TheVariants.{Equal, Greater}
use Rattle.std.specs.Cmp.{nat_cmp_is}
use Rattle.std.specs.Cmp.Lexicographic.{slice_cmp}
use Rattle.std.specs.FinMap as files
use Rattle.std.proofs.Math.Seq.{take-append_seam, take-append-add, get_or-append_seam}
use Rattle.std.proofs.lemmas.List.{take-append-drop, take-append-le}
use Rattle.std.proofs.lemmas.Bool.{and_parts, and_from, false_from_ne_true, cases_lt, or_cases, or_left, or_right}
use Rattle.vc_files.specs.FileMap.{FileMap, paths_under}
use Rattle.vc_files.specs.Path.{is_above}
use Rattle.vc_files.proofs.PathLemmas.{is_above-append, is_above-parts}
use Rattle.vc_lemmas.proofs.Texts.{starts_with-append, split_from_starts}
use Rattle.vc_refs.specs.RefMap.{IsInRefs, conflicts}
use Rattle.vc_refs.specs.LooseObstacle.{IsFirstInTheWay, IsFree, IsFreeAbove, IsInTheWay}
use Rattle.vc_refs.specs.Refs.{is_taken}
use Rattle.vc_refs.proofs.PathLemmas.{paths_rise, is_among, is_among-paths_under, first_among, head_among}

same_byte : (x : ℕ) → nat_cmp x x ≡ Equal
same_byte x = sym (nat_cmp_is x x Equal refl)

-- a front is above no text that it begins
pub front_not_above : (p r : List ℕ) → slice_cmp nat_cmp p (p ++ r) ≢ Greater
front_not_above [] [] h = cc
front_not_above [] (x ∷ r) h = cc
front_not_above (x ∷ p) r h = front_not_above p r (ap (λ o. ordering_then o (slice_cmp nat_cmp p (p ++ r))) (sym (same_byte x)) ∙ h)

-- what is longer than a path in `refs/` is there, too
in_refs-append : (name rest : List ℕ) → IsInRefs name → IsInRefs (name ++ rest)
in_refs-append name rest inside =
    let whole : name ++ rest ≡ codes "refs/" ++ (drop 5 name ++ rest) = ap (λ n. n ++ rest) (split_from_starts name (codes "refs/") inside) ∙ append_assoc (codes "refs/") (drop 5 name) rest in
    ap (λ n. starts_with nat_eq n (codes "refs/")) whole ∙ starts_with-append (codes "refs/") (drop 5 name ++ rest)

in_refs-take : (name : List ℕ) (i : ℕ) → 5 ≤ i → IsInRefs name → IsInRefs (take i name)
in_refs-take name i long inside =
    let more : ℕ = i - 5 in
    let is : 5 + more ≡ i = omega arith in
    let whole : take i name ≡ codes "refs/" ++ take more (drop 5 name) =
    ap (take i) (split_from_starts name (codes "refs/") inside) ∙ ap (λ n. take n (codes "refs/" ++ drop 5 name)) (sym is) ∙ take-append-add (codes "refs/") (drop 5 name) more in
    ap (λ n. starts_with nat_eq n (codes "refs/")) whole ∙ starts_with-append (codes "refs/") (take more (drop 5 name))

in_refs-long : (name : List ℕ) → IsInRefs name → 5 ≤ length name
in_refs-long name inside = omega (arith, ap length (split_from_starts name (codes "refs/") inside), length-append (codes "refs/") (drop 5 name))

taken : (content : FileMap) (path : List ℕ) → IsInRefs path → is_some (files.get content path) ≡ true → is_taken content path ≡ true
taken content path inside there = and_from (starts_with nat_eq path (codes "refs/")) (is_some (files.get content path)) inside there

taken_inside : (content : FileMap) (path : List ℕ) → is_taken content path ≡ true → IsInRefs path × (is_some (files.get content path) ≡ true)
taken_inside content path h = and_parts (starts_with nat_eq path (codes "refs/")) (is_some (files.get content path)) h

-- no file stands at the folders of the name that are shorter than i bytes
pub record NoneShorter (content : FileMap) (name : List ℕ) (i : ℕ) : Type 0 where
  pub at : (k : ℕ) → 5 ≤ k → k < i → get_or name k 0 ≡ 47 → is_some (files.get content (take k name)) ≡ false

-- a folder that holds a file is not among those
folder_is_longer : (content : FileMap) (name q : List ℕ) (i : ℕ) → NoneShorter content name i → is_taken content q ≡ true → (rest : List ℕ) → name ≡ q ++ 47 ∷ rest → length q < i → ⊥
folder_is_longer content name q i none is rest whole short =
    let inside = taken_inside content q is in
    let slash : get_or name (length q) 0 ≡ 47 = ap (λ n. get_or n (length q) 0) whole ∙ get_or-append_seam q 47 rest 0 in
    let front : take (length q) name ≡ q = ap (take (length q)) whole ∙ take-append_seam q (47 ∷ rest) in
    let absent : is_some (files.get content q) ≡ false = ap (λ p. is_some (files.get content p)) (sym front) ∙ none.at (length q) (in_refs-long q inside.0) short slash in
    let there : is_some (files.get content q) ≡ true = inside.1 in
    cc

-- if no folder holds a file, none is in the way above
pub free_above : (content : FileMap) (name : List ℕ) → NoneShorter content name (length name) → IsFreeAbove content name
free_above content name none q is = false_from_ne_true _ (λ above.
    let parts = is_above-parts q name above in
    let short : length q < length name = omega (arith, ap length parts.1, length-append q (47 ∷ parts.0)) in
    folder_is_longer content name q (length name) none is parts.0 parts.1 short)

-- a front of a text isn't above what it begins
pub not_above_from_front : (p q r : List ℕ) → q ≡ p ++ r → slice_cmp nat_cmp p q ≢ Greater
not_above_from_front p q r whole = subst (λ t. slice_cmp nat_cmp p t ≢ Greater) (sym whole) (front_not_above p r)

-- the shortest folder that holds a file is the first in the way
pub first_folder : (content : FileMap) (name : List ℕ) (i : ℕ) → IsInRefs name → 5 ≤ i → i < length name → get_or name i 0 ≡ 47 → is_some (files.get content (take i name)) ≡ true → NoneShorter content name i
    → IsFirstInTheWay content name (take i name)
first_folder content name i inside long short slash there none = record { here = here; first = first }
  where
    whole : name ≡ take i name ++ 47 ∷ drop (suc i) name
    whole = sym (take-append-drop i name) ∙ ap (λ r. take i name ++ r) (drop-cons name i 0 short ∙ ap (λ b. b ∷ drop (suc i) name) slash)

    above : is_above (take i name) name ≡ true
    above = subst (λ n. is_above (take i name) n ≡ true) (sym whole) (is_above-append (take i name) (drop (suc i) name))

    here : IsInTheWay content name (take i name)
    here = record { taken = taken content (take i name) (in_refs-take name i long inside) there; conflict = or_left (is_above (take i name) name) (is_above name (take i name)) above }

    by_folder : (q rest : List ℕ) → is_taken content q ≡ true → name ≡ q ++ 47 ∷ rest → (length q < i) ⊎ (i ≤ length q) → slice_cmp nat_cmp (take i name) q ≢ Greater
    by_folder q rest is parts (inl less) = absurd (folder_is_longer content name q i none is rest parts less)
    by_folder q rest is parts (inr more) =
        let front : take i name ≡ take i q = ap (take i) parts ∙ take-append-le i q (47 ∷ rest) more in
        subst (λ p. slice_cmp nat_cmp p q ≢ Greater) (sym front) (not_above_from_front (take i q) q (drop i q) (sym (take-append-drop i q)))

    first : (q : List ℕ) → IsInTheWay content name q → slice_cmp nat_cmp (take i name) q ≢ Greater
    first q obstacle = elim (or_cases (is_above q name) (is_above name q) obstacle.conflict) [
      | inl up ↦ let parts = is_above-parts q name up in by_folder q parts.0 obstacle.taken parts.1 (cases_lt (length q) i)
      | inr down ↦
          let parts = is_above-parts name q down in
          not_above_from_front (take i name) q (drop i name ++ 47 ∷ parts.0)
          (parts.1 ∙ ap (λ n. n ++ 47 ∷ parts.0) (sym (take-append-drop i name)) ∙ append_assoc (take i name) (drop i name) (47 ∷ parts.0))
    ]

-- of what lies in the folder of the name, the first path is the first in the way
pub first_below : (content : FileMap) (name p : List ℕ) (ps : List (List ℕ)) → IsInRefs name → IsFreeAbove content name → paths_under content (name ++ 47 ∷ []) ≡ p ∷ ps → IsFirstInTheWay content name p
first_below content name p ps inside free listed = record { here = here; first = first }
  where
    member : (q : List ℕ) → is_among q (p ∷ ps) ≡ (is_above name q && is_some (files.get content q))
    member q = ap (is_among q) (sym listed) ∙ is_among-paths_under content (name ++ 47 ∷ []) q

    here : IsInTheWay content name p
    here =
        let is = and_parts (is_above name p) (is_some (files.get content p)) (sym (member p) ∙ head_among p ps) in
        let parts = is_above-parts name p is.0 in
        record {
          taken = taken content p (subst IsInRefs (sym parts.1) (in_refs-append name (47 ∷ parts.0) inside)) is.1;
          conflict = or_right (is_above p name) (is_above name p) is.0;
        }

    first : (q : List ℕ) → IsInTheWay content name q → slice_cmp nat_cmp p q ≢ Greater
    first q obstacle = elim (or_cases (is_above q name) (is_above name q) obstacle.conflict) [
      | inl up ↦ absurd (true≢false (sym up ∙ free q obstacle.taken))
      | inr down ↦ first_among p ps (subst (IsStrictlySortedBy (slice_cmp nat_cmp)) listed (paths_rise content (name ++ 47 ∷ []))) q
          (member q ∙ and_from (is_above name q) (is_some (files.get content q)) down (taken_inside content q obstacle.taken).1)
    ]

-- if nothing lies there either, nothing is in the way
pub free_below : (content : FileMap) (name : List ℕ) → IsFreeAbove content name → paths_under content (name ++ 47 ∷ []) ≡ [] → IsFree content name
free_below content name free listed q obstacle = elim (or_cases (is_above q name) (is_above name q) obstacle.conflict) [
  | inl up ↦ true≢false (sym up ∙ free q obstacle.taken)
  | inr down ↦
      let member : is_among q [] ≡ true =
      ap (is_among q) (sym listed) ∙ is_among-paths_under content (name ++ 47 ∷ []) q
      ∙ and_from (is_above name q) (is_some (files.get content q)) down (taken_inside content q obstacle.taken).1 in
      cc
]

pub none_shorter_all : (content : FileMap) (name : List ℕ) (i : ℕ) → length name ≤ i → NoneShorter content name i → NoneShorter content name (length name)
none_shorter_all content name i past none = record { at = λ k long short slash. none.at k long (omega arith) slash }

-- a file that was read is there
pub there_from_read : {A : Type 0} (f : A → List ℕ) (o : Option A) (r : Option (List ℕ)) → option_map f o ≡ r → is_some o ≡ true → is_some r ≡ true
there_from_read f (Some x) r e h = ap is_some (sym e)
there_from_read f None r e h = cc

no_items : {A : Type 0} (xs : List A) → (0 < length xs → ⊥) → xs ≡ []
no_items [] none = refl
no_items (x ∷ xs) none = absurd (none (omega arith))

-- the first of what is listed is the first in the way, or nothing is
pub first_listed : {A : Type 0} (f : A → List ℕ) (content : FileMap) (name : List ℕ) (items rest : List A) (found : Option A) → IsInRefs name → IsFreeAbove content name
    → map f items ≡ paths_under content (name ++ 47 ∷ []) → items ≡ option_to_list found ++ rest → (is_some found ≡ true → 0 < length items) × (0 < length items → is_some found ≡ true)
    → MatchOption found (IsFree content name) (λ p. IsFirstInTheWay content name (f p))
first_listed f content name items rest (Some p) inside free listed is variant =
    first_below content name (f p) (map f rest) inside free (sym listed ∙ ap (map f) is)
first_listed {A = A} f content name items rest None inside free listed is variant =
    free_below content name free (sym listed ∙ ap (map f) (no_items items (λ some. let told : is_some {T = A} None ≡ true = variant.1 some in cc)))

-- a name isn't its own folder
pub no_own_folder : (name : List ℕ) → conflicts name name ≡ false
no_own_folder name =
    let no : is_above name name ≡ false = false_from_ne_true _ (λ own.
    let parts = is_above-parts name name own in
    let longer : length name ≡ length (name ++ 47 ∷ parts.0) = ap length parts.1 in
    omega (arith, longer, length-append name (47 ∷ parts.0))) in
    ap (λ b. b || b) no
