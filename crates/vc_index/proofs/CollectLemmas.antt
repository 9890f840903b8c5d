-- The tree of paths that is made of all files at once.
use Rattle.std.proofs.Common.{◌≡◌, ℕ, T, Less, cond, List, ◌∷◌, ◌++◌, Option, Some, None, sym, ap, refl, ◌∙◌, subst, ◌⊎◌, inl, inr, []}
use Rattle.std.specs.Prelude.{Vec, IsSome, is_some}
use Rattle.std.specs.Global.{Global}
use Rattle.std.specs.BTreeMap.{BTreeMap, is_at, IsFromIterResult}
use Rattle.std.specs.FinMap.{empty, entries, entries_sorted, find, from_entries, from_entries_push, get, get-empty, get-from_entries, get-insert, insert, is_sorted, same_map, slice_cmp-IsAntisymmetric, nat_cmp-IsAntisymmetric}
use Rattle.std.specs.FinMap.Entries.{below_all}
use Rattle.std.specs.Ordering.{nat_cmp, is_eq, eq_by_cmp}
use Rattle.std.specs.Cmp.{eq_by_cmp_equiv}
use Rattle.std.specs.Cmp.Lexicographic.{slice_cmp, nat_list_cmp_total, on_texts}
use Rattle.std.specs.Map.{keys_of, update, update_all}
use Rattle.std.specs.List.{AllByRecursion, fold}
use Rattle.std.specs.List.Sorted.{IsStrictlySortedBy}
use Rattle.std.proofs.lemmas.List.{map-append}
use Rattle.std.proofs.lemmas.List.Sums.{fold-append}
use Rattle.std.proofs.lemmas.Map.Keys.{IsDistinct-from_sorted}
use Rattle.std.proofs.lemmas.Map.Entries.{place_from_lookup}
use Rattle.std.proofs.lemmas.Map.Made.{update_all_none}
use Rattle.vc_files.proofs.KeyLemmas.{less_of}
use Rattle.vc_index.specs.IndexMap.{IndexMap, index_of}
use Rattle.vc_index.specs.Reading.{AreInOrder, index_with, pairs, with_files}
use Rattle.vc_index.specs.declared.entry.IndexEntry.{IndexEntry}
use Rattle.vc_index.proofs.EntriesLemmas.{AllBefore, back, entries_last}
use Rattle.vc_index.proofs.ConflictLemmas.{key_of}
use Rattle.vc_index.proofs.MapLemmas.{Entries, find_view, get-index_of, get-insert_same, got, key_cmp, no_some, same_text}
use Rattle.vc_lemmas.proofs.Lists.{both_parts}

all_behind : (k : Vec ℕ Global) (es : Entries) → T (below_all (slice_cmp nat_cmp) k.items (pairs es)) → AllByRecursion (λ y. key_cmp k y ≡ Less) (keys_of es)
all_behind k [] h = tt
all_behind k (e ∷ es) h = let parts = both_parts _ _ h in (less_of _ parts.0, all_behind k es parts.1)

rises : (es : Entries) → T (is_sorted (slice_cmp nat_cmp) (pairs es)) → IsStrictlySortedBy key_cmp (keys_of es)
unfolding IsStrictlySortedBy
rises [] h = tt
rises (e ∷ es) h = let parts = both_parts _ _ h in (all_behind e.0 es parts.0, rises es parts.1)

module _ (es : Entries) (m : BTreeMap (Vec ℕ Global) IndexEntry) (order : AreInOrder es) (made : IsFromIterResult key_cmp es m) where
  rise : IsStrictlySortedBy key_cmp (keys_of es)
  rise = rises es (subst (λ l. T (is_sorted (slice_cmp nat_cmp) l)) order (entries_sorted (index_with es)))

  value_at : (k : Vec ℕ Global) → get (index_of m) k.items ≡ find (slice_cmp nat_cmp) k.items (pairs es)
  value_at k =
      get-index_of m k.items ∙ made.0 k
      ∙ update_all_none (eq_by_cmp_equiv (on_texts (λ (v : Vec ℕ Global). v.items))) (eq_by_cmp key_cmp) (λ a b. refl) es k (IsDistinct-from_sorted key_cmp (keys_of es) rise)
      ∙ sym (find_view k.items es)

  -- a path that either has is that of a file of the list
  same_value : (q : List ℕ) (o p : Option IndexEntry) → get (index_of m) q ≡ o → find (slice_cmp nat_cmp) q (pairs es) ≡ p → get (index_of m) q ≡ find (slice_cmp nat_cmp) q (pairs es)
  same_value q (Some v) p here there =
      let k = key_of m q (ap is_some here) in
      subst (λ (t : List ℕ). get (index_of m) t ≡ find (slice_cmp nat_cmp) t (pairs es)) k.1 (value_at k.0)
  same_value q None (Some w) here there =
      let place = place_from_lookup (is_at (λ k. slice_cmp nat_cmp q k.items)) es w (sym (find_view q es) ∙ there) in
      subst (λ (t : List ℕ). get (index_of m) t ≡ find (slice_cmp nat_cmp) t (pairs es)) (sym (same_text q place.1.items place.3)) (value_at place.1)
  same_value q None None here there = here ∙ sym there

  -- it is the index of these files
  pub index_of-collected : index_of m ≡ index_with es
  index_of-collected =
      same_map nat_list_cmp_total (slice_cmp-IsAntisymmetric nat_cmp-IsAntisymmetric) _ _ (λ q.
      same_value q (get (index_of m) q) (find (slice_cmp nat_cmp) q (pairs es)) refl refl ∙ sym (get-from_entries nat_list_cmp_total (pairs es) q))

-- ---- one file more, behind all
find_behind : (q : List ℕ) (es : List (List ℕ × IndexEntry)) → AllBefore q es → find (slice_cmp nat_cmp) q es ≡ None
find_behind q [] before = refl
find_behind q (e ∷ es) before = ap (λ o. cond (is_eq o) (Some e.1) (find (slice_cmp nat_cmp) q es)) (back e.0 q before.0) ∙ find_behind q es before.1

module _ (es : Entries) (key : Vec ℕ Global) (path : List ℕ) (entry : IndexEntry) (is : key.items ≡ path) (order : AreInOrder es) (before : AllBefore path (entries (index_with es))) where
  pairs_more : pairs (es ++ (key, entry) ∷ []) ≡ pairs es ++ (path, entry) ∷ []
  pairs_more = map-append (λ (e : Vec ℕ Global × IndexEntry). (e.0.items, e.1)) es ((key, entry) ∷ []) ∙ ap (λ (p : List ℕ). pairs es ++ (p, entry) ∷ []) is

  pub index_more : index_with (es ++ (key, entry) ∷ []) ≡ insert (index_with es) path entry
  index_more =
      ap (λ l. from_entries l) pairs_more
      ∙ from_entries_push nat_list_cmp_total (slice_cmp-IsAntisymmetric nat_cmp-IsAntisymmetric) (pairs es) path entry (find_behind path (pairs es) (subst (AllBefore path) order before))

  pub order_more : AreInOrder (es ++ (key, entry) ∷ [])
  order_more = ap entries index_more ∙ entries_last (index_with es) path entry before ∙ ap (λ l. l ++ (path, entry) ∷ []) order ∙ sym pairs_more

-- ---- files in any order, put in one after the other
folds : (es : Entries) (f : Vec ℕ Global → Option IndexEntry) (m : IndexMap) → ((k : Vec ℕ Global) → f k ≡ get m k.items) → (k : Vec ℕ Global) → update_all (eq_by_cmp key_cmp) f es k ≡ get (fold (λ m e. insert m e.0 e.1) m (pairs es)) k.items
folds [] f m same k = same k
folds (e ∷ es) f m same k =
    folds es (update (eq_by_cmp key_cmp) f e.0 (Some e.1)) (insert m e.0.items e.1) (λ j.
    ap (λ b. cond b (Some e.1) (f j)) ((eq_by_cmp_equiv nat_list_cmp_total).symm e.0.items j.items)
    ∙ ap (cond (eq_by_cmp (slice_cmp nat_cmp) j.items e.0.items) (Some e.1)) (same j)
    ∙ sym (get-insert nat_list_cmp_total m e.0.items e.1 j.items)) k

-- a path that is there was there before, or is that of a file
key_in : (es : Entries) (m : IndexMap) (q : List ℕ) → IsSome (get (fold (λ m e. insert m e.0 e.1) m (pairs es)) q) → IsSome (get m q) ⊎ ((k : Vec ℕ Global) × (k.items ≡ q))
key_in [] m q some = inl some
key_in (e ∷ es) m q some = elim (key_in es (insert m e.0.items e.1) q some) [
  | inl there ↦ elim (got m e.0.items q e.1) [
    | inl same ↦ inr (e.0, sym same)
    | inr old ↦ inl (subst IsSome old there)
  ]
  | inr k ↦ inr k
]

-- what holds of each file and of all that was there holds of all
pub each_in : (P : List ℕ → IndexEntry → Type 0) (es : List (List ℕ × IndexEntry)) (m : IndexMap) → AllByRecursion (λ (e : List ℕ × IndexEntry). P e.0 e.1) es → ((q : List ℕ) (v : IndexEntry) → get m q ≡ Some v → P q v)
    → (q : List ℕ) (v : IndexEntry) → get (fold (λ m e. insert m e.0 e.1) m es) q ≡ Some v → P q v
each_in P [] m all before q v is = before q v is
each_in P (e ∷ es) m all before q v is = each_in P es (insert m e.0 e.1) all.1 (λ p w at. elim (got m e.0 p e.1) [
  | inl same ↦
      let value : e.1 ≡ w = let s : Some e.1 ≡ Some w = sym (get-insert_same m e.0 e.1) ∙ ap (get (insert m e.0 e.1)) (sym same) ∙ at in cc s in
      subst (λ (k : List ℕ). P k w) (sym same) (subst (P e.0) value all.0)
  | inr old ↦ before p w (sym old ∙ at)
]) q v is

module _ (es : Entries) (m : BTreeMap (Vec ℕ Global) IndexEntry) (made : IsFromIterResult key_cmp es m) where
  at_key : (k : Vec ℕ Global) → get (index_of m) k.items ≡ get (with_files (pairs es)) k.items
  at_key k = get-index_of m k.items ∙ made.0 k ∙ folds es (λ _. None) empty (λ j. sym (get-empty (slice_cmp nat_cmp) j.items)) k

  by_cases : (q : List ℕ) (o p : Option IndexEntry) → get (index_of m) q ≡ o → get (with_files (pairs es)) q ≡ p → get (index_of m) q ≡ get (with_files (pairs es)) q
  by_cases q (Some v) p here there =
      let k = key_of m q (ap is_some here) in
      subst (λ (t : List ℕ). get (index_of m) t ≡ get (with_files (pairs es)) t) k.1 (at_key k.0)
  by_cases q None (Some w) here there = elim (key_in es empty q (ap is_some there)) [
    | inl none ↦ absurd (no_some _ (get-empty (slice_cmp nat_cmp) q) none)
    | inr k ↦ subst (λ (t : List ℕ). get (index_of m) t ≡ get (with_files (pairs es)) t) k.1 (at_key k.0)
  ]
  by_cases q None None here there = here ∙ sym there

  -- it is the index after these files were put in
  pub index_of-put : index_of m ≡ with_files (pairs es)
  index_of-put = same_map nat_list_cmp_total (slice_cmp-IsAntisymmetric nat_cmp-IsAntisymmetric) _ _ (λ q. by_cases q (get (index_of m) q) (get (with_files (pairs es)) q) refl refl)

-- one more
pub pairs_push : (es : Entries) (key : Vec ℕ Global) (entry : IndexEntry) → pairs (es ++ (key, entry) ∷ []) ≡ pairs es ++ (key.items, entry) ∷ []
pairs_push es key entry = map-append (λ (e : Vec ℕ Global × IndexEntry). (e.0.items, e.1)) es ((key, entry) ∷ [])

pub with_files-more : (es : Entries) (key : Vec ℕ Global) (entry : IndexEntry) → with_files (pairs (es ++ (key, entry) ∷ [])) ≡ insert (with_files (pairs es)) key.items entry
with_files-more es key entry =
    ap (λ l. with_files l) (map-append (λ (e : Vec ℕ Global × IndexEntry). (e.0.items, e.1)) es ((key, entry) ∷ []))
    ∙ fold-append (λ (m : IndexMap) (e : List ℕ × IndexEntry). insert m e.0 e.1) empty (pairs es) ((key.items, entry) ∷ [])
