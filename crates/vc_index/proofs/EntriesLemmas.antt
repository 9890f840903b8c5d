-- The entries of an index, in the order of their paths.
use Rattle.std.proofs.Common.{◌≡◌, ℕ, true, false, cond, T, List, ◌∷◌, ◌++◌, Some, sym, ap, refl, ◌∙◌, subst, append_assoc, []}
use Rattle.std.specs.List.{AllByRecursion}
use Rattle.std.specs.FinMap.{find, is_sorted, get, insert, entries, entries_sorted, get-entries, entries-insert}
use Rattle.std.specs.FinMap.Entries.{put, by_order, below_all}
use Rattle.std.specs.Ordering.{nat_cmp, is_eq, is_gt, ordering_reverse}
use Rattle.std.specs.declared.cmp.Ordering.TheVariants.{Less, Equal, Greater}
use Rattle.std.specs.Cmp.Lexicographic.{slice_cmp, nat_list_cmp_total}
use Rattle.vc_files.proofs.KeyLemmas.{less_of}
use Rattle.vc_index.specs.IndexMap.{IndexMap}
use Rattle.vc_index.specs.declared.entry.IndexEntry.{IndexEntry}
use Rattle.vc_index.proofs.MapLemmas.{same_text, is_eq-same}
use Rattle.vc_lemmas.proofs.Lists.{both_parts}

-- all come before the path
abbrev pub AllBefore : List ℕ → List (List ℕ × IndexEntry) → Type 0
AllBefore path es = AllByRecursion (λ (e : List ℕ × IndexEntry). slice_cmp nat_cmp e.0 path ≡ Less) es

pub back : (a b : List ℕ) → slice_cmp nat_cmp a b ≡ Less → slice_cmp nat_cmp b a ≡ Greater
back a b e = nat_list_cmp_total.antisymm b a ∙ ap ordering_reverse e

-- an entry behind all others is pushed
put_last : (k : List ℕ) (v : IndexEntry) (es : List (List ℕ × IndexEntry)) → AllBefore k es → put (slice_cmp nat_cmp) k v es ≡ es ++ (k, v) ∷ []
put_last k v [] before = refl
put_last k v (e ∷ es) before =
    ap (λ r. by_order r ((k, v) ∷ e ∷ es) ((e.0, v) ∷ es) (e ∷ put (slice_cmp nat_cmp) k v es)) (back e.0 k before.0)
    ∙ ap (λ rest. e ∷ rest) (put_last k v es before.1)

pub entries_last : (m : IndexMap) (k : List ℕ) (v : IndexEntry) → AllBefore k (entries m) → entries (insert m k v) ≡ entries m ++ (k, v) ∷ []
entries_last m k v before = entries-insert nat_list_cmp_total m k v ∙ put_last k v (entries m) before

-- what holds of all entries holds of the one that is found
pub find_all : (P : List ℕ × IndexEntry → Type 0) (q : List ℕ) (v : IndexEntry) (es : List (List ℕ × IndexEntry)) → AllByRecursion P es → find (slice_cmp nat_cmp) q es ≡ Some v → P (q, v)
find_all P q v [] all is = absurd (cc is)
find_all P q v (e ∷ es) all is =
    elim (is_eq (slice_cmp nat_cmp q e.0)) as (λ b. is_eq (slice_cmp nat_cmp q e.0) ≡ b → cond b (Some e.1) (find (slice_cmp nat_cmp) q es) ≡ Some v → P (q, v)) [
      | true ↦ λ same found.
          let value : e.1 ≡ v = cc found in
          subst (λ (k : List ℕ). P (k, v)) (sym (same_text q e.0 same)) (subst (λ (w : IndexEntry). P (e.0, w)) value all.0)
      | false ↦ λ _ later. find_all P q v es all.1 later
    ] refl is

pub get_all : (P : List ℕ × IndexEntry → Type 0) (m : IndexMap) (q : List ℕ) (v : IndexEntry) → AllByRecursion P (entries m) → get m q ≡ Some v → P (q, v)
get_all P m q v all is = find_all P q v (entries m) all (sym (get-entries m q) ∙ is)

-- what comes not after a text comes before all that the text comes before
pub le_less : (a b c : List ℕ) → is_gt (slice_cmp nat_cmp a b) ≡ false → slice_cmp nat_cmp b c ≡ Less → slice_cmp nat_cmp a c ≡ Less
le_less a b c le less =
    elim (slice_cmp nat_cmp a b) as (λ o. slice_cmp nat_cmp a b ≡ o → is_gt o ≡ false → slice_cmp nat_cmp a c ≡ Less) [
      | Less ↦ λ e _. nat_list_cmp_total.trans a b c e less
      | Equal ↦ λ e _. nat_list_cmp_total.congr a b c e ∙ less
      | Greater ↦ λ e no. absurd (cc no)
    ] refl le

-- ---- lists in order

below_mid : (q : List ℕ) (es hs : List (List ℕ × IndexEntry)) (k : List ℕ) (v : IndexEntry) → T (below_all (slice_cmp nat_cmp) q (es ++ (k, v) ∷ hs)) → slice_cmp nat_cmp q k ≡ Less
below_mid q [] hs k v h = less_of _ (both_parts _ _ h).0
below_mid q (e ∷ es) hs k v h = below_mid q es hs k v (both_parts _ _ h).1

-- in a list in order, what stands in front of an entry comes before it
sorted_mid : (es hs : List (List ℕ × IndexEntry)) (k : List ℕ) (v : IndexEntry) → T (is_sorted (slice_cmp nat_cmp) (es ++ (k, v) ∷ hs)) → AllBefore k es
sorted_mid [] hs k v h = tt
sorted_mid (e ∷ es) hs k v h =
    let parts = both_parts (below_all (slice_cmp nat_cmp) e.0 (es ++ (k, v) ∷ hs)) (is_sorted (slice_cmp nat_cmp) (es ++ (k, v) ∷ hs)) h in
    (below_mid e.0 es hs k v parts.0, sorted_mid es hs k v parts.1)

find_front : (q : List ℕ) (v : IndexEntry) (es hs : List (List ℕ × IndexEntry)) → find (slice_cmp nat_cmp) q es ≡ Some v → find (slice_cmp nat_cmp) q (es ++ hs) ≡ Some v
find_front q v [] hs is = absurd (cc is)
find_front q v (e ∷ es) hs is =
    elim (is_eq (slice_cmp nat_cmp q e.0)) as (λ b. cond b (Some e.1) (find (slice_cmp nat_cmp) q es) ≡ Some v → cond b (Some e.1) (find (slice_cmp nat_cmp) q (es ++ hs)) ≡ Some v) [
      | true ↦ λ here. here
      | false ↦ λ later. find_front q v es hs later
    ] is

find_mid : (es hs : List (List ℕ × IndexEntry)) (k : List ℕ) (v : IndexEntry) → AllBefore k es → find (slice_cmp nat_cmp) k (es ++ (k, v) ∷ hs) ≡ Some v
find_mid [] hs k v before = ap (λ b. cond b (Some v) (find (slice_cmp nat_cmp) k hs)) (is_eq-same k)
find_mid (e ∷ es) hs k v before =
    ap (λ o. cond (is_eq o) (Some e.1) (find (slice_cmp nat_cmp) k (es ++ (k, v) ∷ hs))) (back e.0 k before.0)
    ∙ find_mid es hs k v before.1

module _ (m : IndexMap) (es hs : List (List ℕ × IndexEntry)) (k : List ℕ) (v : IndexEntry) (is : entries m ≡ es ++ (k, v) ∷ hs) where
  pub mid_before : AllBefore k es
  mid_before = sorted_mid es hs k v (subst (λ (gs : List (List ℕ × IndexEntry)). T (is_sorted (slice_cmp nat_cmp) gs)) is (entries_sorted m))

  pub get_mid : get m k ≡ Some v
  get_mid = get-entries m k ∙ ap (find (slice_cmp nat_cmp) k) is ∙ find_mid es hs k v mid_before

  pub get_front : (q : List ℕ) (w : IndexEntry) → find (slice_cmp nat_cmp) q es ≡ Some w → get m q ≡ Some w
  get_front q w found = get-entries m q ∙ ap (find (slice_cmp nat_cmp) q) is ∙ find_front q w es ((k, v) ∷ hs) found

-- what holds of all that is found holds of all entries
each_from : (P : List ℕ × IndexEntry → Type 0) (m : IndexMap) → ((q : List ℕ) (v : IndexEntry) → get m q ≡ Some v → P (q, v)) → (front es : List (List ℕ × IndexEntry)) → entries m ≡ front ++ es → AllByRecursion P es
each_from P m found front [] is = tt
each_from P m found front (e ∷ es) is = (found e.0 e.1 (get_mid m front es e.0 e.1 is), each_from P m found (front ++ e ∷ []) es (is ∙ sym (append_assoc front (e ∷ []) es)))

pub all_from_get : (P : List ℕ × IndexEntry → Type 0) (m : IndexMap) → ((q : List ℕ) (v : IndexEntry) → get m q ≡ Some v → P (q, v)) → AllByRecursion P (entries m)
all_from_get P m found = each_from P m found [] (entries m) refl
