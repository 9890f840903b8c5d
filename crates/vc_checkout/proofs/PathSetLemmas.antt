-- Sets of paths, and lists of them.
use Rattle.std.proofs.Common.{◌≡◌, ℕ, ◌<◌, ◌+◌, Bool, true, false, not, ◌||◌, ◌&&◌, List, [], ◌∷◌, ◌++◌, map, take, length, get_or, Option, Some, None, sym, ap, refl, ◌∙◌, subst, IsTrue, ◌↔◌, ◌⊎◌, inl, inr}
use Rattle.std.specs.Prelude.{Vec, String, string_bytes, IsSome, is_some, IsUtf8}
use Rattle.std.specs.Global.{Global}
use Rattle.std.specs.BTreeSet.{BTreeSet, UpdatesBy, IsFromIterResult}
use Rattle.std.specs.BTreeMap.{is_at}
use Rattle.std.specs.Set.{KeepsOthers}
use Rattle.std.specs.FinMap as maps
use Rattle.std.specs.FinMap.{contains_key-keys}
use Rattle.std.specs.Ordering.{nat_cmp, is_eq}
use Rattle.std.specs.declared.cmp.Ordering.TheVariants.{Less}
use Rattle.std.specs.Cmp.{eq_by_cmp_equiv}
use Rattle.std.specs.Cmp.Lexicographic.{slice_cmp, nat_list_cmp_total}
use Rattle.std.specs.List.{list_any, AllByRecursion}
use Rattle.std.specs.List.Sorted.{IsStrictlySortedBy}
use Rattle.std.proofs.lemmas.Bool.{false_from_ne_true}
use Rattle.std.proofs.lemmas.List.{map_more}
use Rattle.std.proofs.lemmas.List.Folds.{list_any-append}
use Rattle.std.proofs.lemmas.Str.{IsUtf8-string_bytes}
use Rattle.std.proofs.Math.Bool.{or-false}
use Rattle.vc_files.specs.FileMap.{FileMap}
use Rattle.vc_index.specs.IndexMap.{IndexMap}
use Rattle.vc_index.specs.declared.entry.IndexEntry.{IndexEntry}
use Rattle.vc_index.proofs.MapLemmas.{key_cmp, same_text, is_eq-same}
use Rattle.vc_checkout.specs.WorkTree.{has_path, HasTextPaths, IsUnkept, IsUntracked, KeepsNone}
use Rattle.vc_work_tree.specs.Paths.{is_listed, is_same}

abbrev pub Paths : Type 0
Paths = BTreeSet (Vec ℕ Global)

pub has_path-none : (paths : Paths) → paths.keys ≡ [] → (q : List ℕ) → has_path paths q ≡ false
has_path-none paths none q = ap (λ keys. list_any (is_at (λ (k : Vec ℕ Global). slice_cmp nat_cmp q k.items)) keys) none

-- a path more
pub has_path-more : (m n : Paths) (k : List ℕ) → UpdatesBy key_cmp (λ s. slice_cmp nat_cmp k s.items) m n true → (q : List ℕ) → has_path n q ≡ (is_same q k || has_path m q)
unfolding KeepsOthers
has_path-more m n k change q =
    elim (is_same q k) as (λ b. is_same q k ≡ b → has_path n q ≡ (b || has_path m q)) [
      | true ↦ λ same. ap (has_path n) (same_text q k same) ∙ change.1
      | false ↦ λ other.
          change.3 (is_at (λ s. slice_cmp nat_cmp q s.items))
          (λ x y. (eq_by_cmp_equiv nat_list_cmp_total).congr q x.items y.items)
          (λ x at. false_from_ne_true _ (λ too.
          let e : q ≡ k = same_text q x.items too ∙ sym (same_text k x.items at) in
          let f : is_eq (slice_cmp nat_cmp q k) ≡ true = ap (λ t. is_eq (slice_cmp nat_cmp q t)) (sym e) ∙ is_eq-same q in
          cc (f, other)))
    ] refl

-- one path more of those that are listed
pub listed_more : (all : List (String Global)) (i : ℕ) (path : String Global) → i < length all → path ≡ get_or all i path → (q : List ℕ)
    → is_listed q (map string_bytes (take (i + 1) all)) ≡ (is_listed q (map string_bytes (take i all)) || is_same q (string_bytes path))
listed_more all i path inside is q =
    ap (is_listed q) (map_more string_bytes all i path inside ∙ ap (λ s. map string_bytes (take i all) ++ string_bytes s ∷ []) (sym is))
    ∙ list_any-append (is_same q) (map string_bytes (take i all)) (string_bytes path ∷ [])
    ∙ ap (λ b. is_listed q (map string_bytes (take i all)) || b) (or-false (is_same q (string_bytes path)))

-- the paths of a map are text, where they are those of strings
pub text_paths : (work : FileMap) (all : List (String Global)) → map string_bytes all ≡ maps.keys work → HasTextPaths work
text_paths work all is path some =
    among path all (ap (is_listed path) is ∙ sym (contains_key-keys work path) ∙ some)
  where
    among : (path : List ℕ) (all : List (String Global)) → is_listed path (map string_bytes all) ≡ true → IsUtf8 path
    among path [] e = cc e
    among path (s ∷ all) e = elim (is_same path (string_bytes s)) as (λ b. is_same path (string_bytes s) ≡ b → (b || is_listed path (map string_bytes all)) ≡ true → IsUtf8 path) [
      | true ↦ λ same _. subst IsUtf8 (sym (same_text path (string_bytes s) same)) (IsUtf8-string_bytes s)
      | false ↦ λ _ later. among path all later
    ] refl e

-- the paths of an index's entries
pub entry_keys : (es : List (Vec ℕ Global × IndexEntry)) (m : IndexMap) → map (λ e. (e.0.items, e.1)) es ≡ maps.entries m → map (λ e. e.0.items) es ≡ maps.keys m
entry_keys es m is = firsts es ∙ ap (map (λ (e : List ℕ × IndexEntry). e.0)) is
  where
    firsts : (es : List (Vec ℕ Global × IndexEntry)) → map (λ e. e.0.items) es ≡ map (λ (e : List ℕ × IndexEntry). e.0) (map (λ e. (e.0.items, e.1)) es)
    firsts [] = refl
    firsts (e ∷ es) = ap (λ rest. e.0.items ∷ rest) (firsts es)

pub entry_paths : (es : List (Vec ℕ Global × IndexEntry)) (m : IndexMap) → map (λ e. (e.0.items, e.1)) es ≡ maps.entries m → (q : List ℕ) → is_listed q (map (λ e. e.0.items) es) ≡ is_some (maps.get m q)
entry_paths es m is q = ap (is_listed q) (entry_keys es m is) ∙ sym (contains_key-keys m q)

tests : (q : List ℕ) (ks : List (Vec ℕ Global)) → is_listed q (map (λ k. k.items) ks) ≡ list_any (is_at (λ (k : Vec ℕ Global). slice_cmp nat_cmp q k.items)) ks
tests q [] = refl
tests q (k ∷ ks) = ap (λ b. is_same q k.items || b) (tests q ks)

-- the paths of a set
pub set_paths : (ks : List (Vec ℕ Global)) (paths : Paths) → ks ≡ paths.keys → (q : List ℕ) → is_listed q (map (λ k. k.items) ks) ≡ has_path paths q
set_paths ks paths is q = tests q ks ∙ ap (λ l. list_any (is_at (λ (k : Vec ℕ Global). slice_cmp nat_cmp q k.items)) l) is

-- the paths of a set and of two indexes
pub listed_all : (others : Paths) (index tree : IndexMap) (set : Paths) (all : List (List ℕ)) → all ≡ (map (λ k. k.items) others.keys ++ maps.keys index) ++ maps.keys tree → ((q : List ℕ) → has_path set q ≡ is_listed q all)
    → (q : List ℕ) → has_path set q ≡ ((has_path others q || is_some (maps.get index q)) || is_some (maps.get tree q))
listed_all others index tree set all is listed q =
    listed q ∙ ap (is_listed q) is
    ∙ list_any-append (is_same q) (map (λ k. k.items) others.keys ++ maps.keys index) (maps.keys tree)
    ∙ ap (λ b. b || is_listed q (maps.keys tree)) (list_any-append (is_same q) (map (λ k. k.items) others.keys) (maps.keys index))
    ∙ ap (λ b. (b || is_listed q (maps.keys index)) || is_listed q (maps.keys tree)) (set_paths others.keys others refl q)
    ∙ ap (λ b. (has_path others q || b) || is_listed q (maps.keys tree)) (sym (contains_key-keys index q))
    ∙ ap (λ b. (has_path others q || is_some (maps.get index q)) || b) (sym (contains_key-keys tree q))

-- a listed path that the index lacks is one more that was found
pub found_more : (m n : Paths) (index : IndexMap) (all : List (String Global)) (i : ℕ) (path : String Global) → i < length all → path ≡ get_or all i path → is_some (maps.get index (string_bytes path)) ≡ false
    → UpdatesBy key_cmp (λ s. slice_cmp nat_cmp (string_bytes path) s.items) m n true → (q : List ℕ)
    → has_path m q ≡ (is_listed q (map string_bytes (take i all)) && not (is_some (maps.get index q)))
    → has_path n q ≡ (is_listed q (map string_bytes (take (i + 1) all)) && not (is_some (maps.get index q)))
found_more m n index all i path inside is lacks change q before =
    has_path-more m n (string_bytes path) change q ∙ ap (λ b. is_same q (string_bytes path) || b) before
    ∙ by_test (is_same q (string_bytes path)) (is_listed q (map string_bytes (take i all))) (is_some (maps.get index q)) (λ same. ap (λ p. is_some (maps.get index p)) (same_text q (string_bytes path) same) ∙ lacks)
    ∙ ap (λ b. b && not (is_some (maps.get index q))) (sym (listed_more all i path inside is q))
  where
    by_test : (s l h : Bool) → (s ≡ true → h ≡ false) → (s || (l && not h)) ≡ ((l || s) && not h)
    by_test true true true f = let e = f refl in cc e
    by_test true true false f = refl
    by_test true false true f = let e = f refl in cc e
    by_test true false false f = refl
    by_test false true h f = refl
    by_test false false h f = refl

-- a listed path that the index has is not found
pub found_same : (found : Paths) (index : IndexMap) (all : List (String Global)) (i : ℕ) (path : String Global) → i < length all → path ≡ get_or all i path → is_some (maps.get index (string_bytes path)) ≡ true → (q : List ℕ)
    → has_path found q ≡ (is_listed q (map string_bytes (take i all)) && not (is_some (maps.get index q)))
    → has_path found q ≡ (is_listed q (map string_bytes (take (i + 1) all)) && not (is_some (maps.get index q)))
found_same found index all i path inside is has q before =
    before ∙ by_test (is_same q (string_bytes path)) (is_listed q (map string_bytes (take i all))) (is_some (maps.get index q)) (λ same. ap (λ p. is_some (maps.get index p)) (same_text q (string_bytes path) same) ∙ has)
    ∙ ap (λ b. b && not (is_some (maps.get index q))) (sym (listed_more all i path inside is q))
  where
    by_test : (s l h : Bool) → (s ≡ true → h ≡ true) → (l && not h) ≡ ((l || s) && not h)
    by_test true true h f = refl
    by_test true false true f = refl
    by_test true false false f = let e = f refl in cc e
    by_test false true h f = refl
    by_test false false h f = refl

-- what was found at the end are the untracked files
pub all_found : (found : Paths) (index : IndexMap) (work : FileMap) (all : List (String Global)) (i : ℕ) → take i all ≡ all → map string_bytes all ≡ maps.keys work
    → ((q : List ℕ) → has_path found q ≡ (is_listed q (map string_bytes (take i all)) && not (is_some (maps.get index q))))
    → (q : List ℕ) → IsTrue (has_path found q) ↔ IsUntracked index work q
all_found found index work all i whole is so_far q =
    by_options (maps.get work q) (maps.get index q) (has_path found q)
    (so_far q ∙ ap (λ l. is_listed q (map string_bytes l) && not (is_some (maps.get index q))) whole ∙ ap (λ l. is_listed q l && not (is_some (maps.get index q))) is ∙ ap (λ b. b && not (is_some (maps.get index q))) (sym (contains_key-keys work q)))
  where
    by_options : (w : Option (List ℕ)) (e : Option IndexEntry) (b : Bool) → b ≡ (is_some w && not (is_some e)) → IsTrue b ↔ (IsSome w × (e ≡ None))
    by_options (Some w) None b h = (λ _. (refl, refl), λ _. h)
    by_options (Some w) (Some e) b h = (λ t. cc (h, t), λ (s, n). cc n)
    by_options None e b h = (λ t. cc (h, t), λ (s, n). cc s)

-- the paths of the first of a list at which the index keeps no file
abbrev pub AreUnkept : Paths → IndexMap → List (String Global) → List ℕ → Type 0
AreUnkept found index all q = IsTrue (has_path found q) ↔ (IsTrue (is_listed q (map string_bytes all)) × KeepsNone (maps.get index q))

pub unkept_none : (found : Paths) (index : IndexMap) (all : List (String Global)) → found.keys ≡ [] → (q : List ℕ) → AreUnkept found index (take 0 all) q
unkept_none found index all none q = let lacks = has_path-none found none q in (λ t. cc (t, lacks), λ p. let f = p.0 in cc f)

-- a listed path at which the index keeps no file is one more that was found
pub unkept_more : (m n : Paths) (index : IndexMap) (all : List (String Global)) (i : ℕ) (path : String Global) → i < length all → path ≡ get_or all i path → KeepsNone (maps.get index (string_bytes path))
    → UpdatesBy key_cmp (λ s. slice_cmp nat_cmp (string_bytes path) s.items) m n true → (q : List ℕ) → AreUnkept m index (take i all) q → AreUnkept n index (take (i + 1) all) q
unkept_more m n index all i path inside is none change q before =
    subst (λ (b : Bool). IsTrue b ↔ (IsTrue (is_listed q (map string_bytes (take (i + 1) all))) × KeepsNone (maps.get index q))) (sym (has_path-more m n (string_bytes path) change q))
    (subst (λ (b : Bool). IsTrue (is_same q (string_bytes path) || has_path m q) ↔ (IsTrue b × KeepsNone (maps.get index q))) (sym (listed_more all i path inside is q))
    (by_test (is_same q (string_bytes path)) (is_listed q (map string_bytes (take i all))) (has_path m q) (KeepsNone (maps.get index q)) (λ same. subst (λ (p : List ℕ). KeepsNone (maps.get index p)) (sym (same_text q (string_bytes path) same)) none) before))
  where
    by_test : (s l h : Bool) (K : Type 0) → (s ≡ true → K) → IsTrue h ↔ (IsTrue l × K) → IsTrue (s || h) ↔ (IsTrue (l || s) × K)
    by_test true true h K k old = (λ _. (refl, k refl), λ _. refl)
    by_test true false h K k old = (λ _. (refl, k refl), λ _. refl)
    by_test false true h K k old = old
    by_test false false h K k old = old

-- a listed path at which the index keeps a file is not found
pub unkept_same : (found : Paths) (index : IndexMap) (all : List (String Global)) (i : ℕ) (path : String Global) → i < length all → path ≡ get_or all i path → (KeepsNone (maps.get index (string_bytes path)) → ⊥) → (q : List ℕ)
    → AreUnkept found index (take i all) q → AreUnkept found index (take (i + 1) all) q
unkept_same found index all i path inside is kept q before =
    subst (λ (b : Bool). IsTrue (has_path found q) ↔ (IsTrue b × KeepsNone (maps.get index q))) (sym (listed_more all i path inside is q))
    (by_test (is_same q (string_bytes path)) (is_listed q (map string_bytes (take i all))) (has_path found q) (KeepsNone (maps.get index q)) (λ same none. kept (subst (λ (p : List ℕ). KeepsNone (maps.get index p)) (same_text q (string_bytes path) same) none)) before)
  where
    by_test : (s l h : Bool) (K : Type 0) → (s ≡ true → K → ⊥) → IsTrue h ↔ (IsTrue l × K) → IsTrue h ↔ (IsTrue (l || s) × K)
    by_test true true h K never old = old
    by_test true false h K never old = (λ t. let f = (old.0 t).0 in cc f, λ p. absurd (never refl p.1))
    by_test false true h K never old = old
    by_test false false h K never old = old

-- what was found at the end are the files that the index doesn't keep
pub all_unkept : (found : Paths) (index : IndexMap) (work : FileMap) (all : List (String Global)) (i : ℕ) → take i all ≡ all → map string_bytes all ≡ maps.keys work
    → ((q : List ℕ) → AreUnkept found index (take i all) q) → (q : List ℕ) → IsTrue (has_path found q) ↔ IsUnkept index work q
all_unkept found index work all i whole is so_far q =
    subst (λ (b : Bool). IsTrue (has_path found q) ↔ (IsTrue b × KeepsNone (maps.get index q))) (ap (λ l. is_listed q (map string_bytes l)) whole ∙ ap (is_listed q) is ∙ sym (contains_key-keys work q)) (so_far q)

-- a set that is made of a list
module _ (xs : List (Vec ℕ Global)) (set : Paths) (made : IsFromIterResult key_cmp xs set) where
  at_key : (k : Vec ℕ Global) → has_path set k.items ≡ is_listed k.items (map (λ p. p.items) xs)
  at_key k = made.0 k ∙ sym (tests k.items xs)

  key_of : (q : List ℕ) (ks : List (Vec ℕ Global)) → list_any (is_at (λ (k : Vec ℕ Global). slice_cmp nat_cmp q k.items)) ks ≡ true → (k : Vec ℕ Global) × (k.items ≡ q)
  key_of q [] h = absurd (cc h)
  key_of q (k ∷ ks) h = elim (is_same q k.items) as (λ b. is_same q k.items ≡ b → (b || list_any (is_at (λ (k : Vec ℕ Global). slice_cmp nat_cmp q k.items)) ks) ≡ true → (k : Vec ℕ Global) × (k.items ≡ q)) [
    | true ↦ λ same _. (k, sym (same_text q k.items same))
    | false ↦ λ _ later. key_of q ks later
  ] refl h

  by_tests : (q : List ℕ) (b c : Bool) → has_path set q ≡ b → is_listed q (map (λ p. p.items) xs) ≡ c → has_path set q ≡ is_listed q (map (λ p. p.items) xs)
  by_tests q true c here there =
      let k = key_of q set.keys here in
      subst (λ (t : List ℕ). has_path set t ≡ is_listed t (map (λ p. p.items) xs)) k.1 (at_key k.0)
  by_tests q false true here there =
      let k = key_of q xs (sym (tests q xs) ∙ there) in
      subst (λ (t : List ℕ). has_path set t ≡ is_listed t (map (λ p. p.items) xs)) k.1 (at_key k.0)
  by_tests q false false here there = here ∙ sym there

  pub has_path-listed : (q : List ℕ) → has_path set q ≡ is_listed q (map (λ p. p.items) xs)
  has_path-listed q = by_tests q (has_path set q) (is_listed q (map (λ p. p.items) xs)) refl refl

-- the paths of a set are in order
pub set_sorted : (ks : List (Vec ℕ Global)) → IsStrictlySortedBy key_cmp ks → IsStrictlySortedBy (slice_cmp nat_cmp) (map (λ k. k.items) ks)
unfolding IsStrictlySortedBy
set_sorted [] sorted = tt
set_sorted (k ∷ ks) sorted = (first ks sorted.0, set_sorted ks sorted.1)
  where
    first : (ks : List (Vec ℕ Global)) → AllByRecursion (λ y. key_cmp k y ≡ Less) ks → AllByRecursion (λ y. slice_cmp nat_cmp k.items y ≡ Less) (map (λ k. k.items) ks)
    first [] all = tt
    first (y ∷ ks) all = (all.0, first ks all.1)

-- the paths of an index, of a tree and of the untracked files are in the set of all
pub all_listed : (ks : List (Vec ℕ Global)) (all untracked : Paths) (index tree : IndexMap) (work : FileMap) → ks ≡ all.keys
    → ((q : List ℕ) → has_path all q ≡ ((has_path untracked q || is_some (maps.get index q)) || is_some (maps.get tree q)))
    → ((q : List ℕ) → IsTrue (has_path untracked q) ↔ IsUntracked index work q)
    → (q : List ℕ) → ((is_some (maps.get index q) || is_some (maps.get tree q)) ≡ true) ⊎ IsUntracked index work q → is_listed q (map (λ k. k.items) ks) ≡ true
all_listed ks all untracked index tree work is whole exact q some =
    set_paths ks all is q ∙ whole q ∙ by_test (has_path untracked q) (is_some (maps.get index q)) (is_some (maps.get tree q)) (which some)
  where
    which : ((is_some (maps.get index q) || is_some (maps.get tree q)) ≡ true) ⊎ IsUntracked index work q → (has_path untracked q ≡ true) ⊎ ((is_some (maps.get index q) || is_some (maps.get tree q)) ≡ true)
    which (inl known) = inr known
    which (inr loose) = inl ((exact q).1 loose)

    by_test : (u i t : Bool) → (u ≡ true) ⊎ ((i || t) ≡ true) → ((u || i) || t) ≡ true
    by_test true i t h = refl
    by_test false true t h = refl
    by_test false false t (inl h) = cc h
    by_test false false t (inr h) = h

-- no file is tracked by an index with no files
pub untracked_all : (found : Paths) (index : IndexMap) (work : FileMap) → index ≡ maps.empty → ((q : List ℕ) → IsTrue (has_path found q) ↔ IsUntracked index work q) → (q : List ℕ) → IsTrue (has_path found q) ↔ IsSome (maps.get work q)
untracked_all found index work none exact q =
    (λ has. ((exact q).0 has).0, λ some. (exact q).1 (some, ap (λ (m : IndexMap). maps.get m q) none ∙ maps.get-empty (slice_cmp nat_cmp) q))
