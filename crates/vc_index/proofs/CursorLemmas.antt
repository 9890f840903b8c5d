-- A cursor that moves on, and what it finds.
use Rattle.std.proofs.Common.{◌≡◌, ℕ, T, false, cond, List, ◌∷◌, ◌++◌, Option, Some, None, sym, ap, refl, ◌∙◌, subst, append_assoc, append-nil, []}
use Rattle.std.specs.Prelude.{MatchOption, Vec}
use Rattle.std.specs.Global.{Global}
use Rattle.std.specs.FinMap.{entries, entries_sorted, find, get, get-entries, is_sorted}
use Rattle.std.specs.FinMap.Entries.{below_all}
use Rattle.std.specs.List.{AllByRecursion}
use Rattle.std.specs.Ordering.{nat_cmp, is_eq, is_gt, ordering_reverse}
use Rattle.std.specs.declared.cmp.Ordering.TheVariants.{Less, Equal, Greater}
use Rattle.std.specs.Cmp.{tied_itself}
use Rattle.std.specs.Cmp.Lexicographic.{slice_cmp, nat_list_cmp_total}
use Rattle.vc_files.proofs.KeyLemmas.{less_of}
use Rattle.vc_object.proofs.Order.{All-push}
use Rattle.vc_index.specs.Cursor.{IsCursor, ahead}
use Rattle.vc_index.specs.IndexMap.{IndexMap}
use Rattle.vc_index.specs.Reading.{pairs}
use Rattle.vc_index.specs.declared.entry.IndexEntry.{IndexEntry}
use Rattle.vc_index.proofs.EntriesLemmas.{AllBefore, find_all, get_all, get_mid, le_less, mid_before}
use Rattle.vc_index.proofs.MapLemmas.{same_text}
use denote.Ref.{Bor}
use Rattle.vc_lemmas.proofs.Lists.{both_parts, all_map}

behind_all : (k : List ℕ) (hs : List (List ℕ × IndexEntry)) → T (below_all (slice_cmp nat_cmp) k hs) → AllByRecursion (λ (e : List ℕ × IndexEntry). slice_cmp nat_cmp k e.0 ≡ Less) hs
behind_all k [] h = tt
behind_all k (e ∷ hs) h = let parts = both_parts _ _ h in (less_of _ parts.0, behind_all k hs parts.1)

sorted_after : (es hs : List (List ℕ × IndexEntry)) (k : List ℕ) (v : IndexEntry) → T (is_sorted (slice_cmp nat_cmp) (es ++ (k, v) ∷ hs)) → AllByRecursion (λ (e : List ℕ × IndexEntry). slice_cmp nat_cmp k e.0 ≡ Less) hs
sorted_after [] hs k v h = behind_all k hs (both_parts _ _ h).0
sorted_after (e ∷ es) hs k v h = sorted_after es hs k v (both_parts (below_all (slice_cmp nat_cmp) e.0 (es ++ (k, v) ∷ hs)) _ h).1

not_itself : (path : List ℕ) → slice_cmp nat_cmp path path ≡ Less → ⊥
not_itself path less = let same = tied_itself nat_list_cmp_total path in cc (less, same)

no_entry : (o : Option IndexEntry) → ((v : IndexEntry) → o ≡ Some v → ⊥) → o ≡ None
no_entry None h = refl
no_entry (Some v) h = absurd (h v refl)

find_past : (q : List ℕ) (es hs : List (List ℕ × IndexEntry)) → AllBefore q es → find (slice_cmp nat_cmp) q (es ++ hs) ≡ find (slice_cmp nat_cmp) q hs
find_past q [] hs before = refl
find_past q (e ∷ es) hs before =
    ap (λ o. cond (is_eq o) (Some e.1) (find (slice_cmp nat_cmp) q (es ++ hs))) (nat_list_cmp_total.antisymm q e.0 ∙ ap ordering_reverse before.0)
    ∙ find_past q es hs before.1

module _ (m : IndexMap) (last path : List ℕ) (rest : List (Vec ℕ Global × IndexEntry)) (less : slice_cmp nat_cmp last path ≡ Less) where
  passed_before : (here : Option (Bor (Vec ℕ Global) × Bor IndexEntry)) (at : IsCursor m last here rest) → AllBefore path at.passed
  passed_before here at = all_map _ _ at.passed (λ e le. le_less e.0 last path le less) at.below

  -- behind all
  pub cursor_end : (here : Option (Bor (Vec ℕ Global) × Bor IndexEntry)) → here ≡ None → IsCursor m last here rest → None ≡ get m path
  cursor_end here none at =
      let all : entries m ≡ at.passed = at.whole ∙ ap (λ l. at.passed ++ l) (ap (λ h. ahead h rest) none ∙ ap pairs (at.ends none)) ∙ append-nil at.passed in
      sym (no_entry (get m path) (λ v is. not_itself path (get_all (λ e. slice_cmp nat_cmp e.0 path ≡ Less) m path v (subst (AllBefore path) (sym all) (passed_before here at)) is)))

  module _ (key : Bor (Vec ℕ Global)) (entry : Bor IndexEntry) (here : Option (Bor (Vec ℕ Global) × Bor IndexEntry)) (is : here ≡ Some (key, entry)) (at : IsCursor m last here rest) where
    whole : entries m ≡ at.passed ++ (key.now.items, entry.now) ∷ pairs rest
    whole = at.whole ∙ ap (λ h. at.passed ++ ahead h rest) is

    pub cursor_here : slice_cmp nat_cmp key.now.items path ≡ Equal → Some entry.now ≡ get m path
    cursor_here equal =
        let same : key.now.items ≡ path = same_text key.now.items path (ap is_eq equal) in
        sym (ap (get m) (sym same) ∙ get_mid m at.passed (pairs rest) key.now.items entry.now whole)

    pub cursor_past : slice_cmp nat_cmp key.now.items path ≡ Greater → None ≡ get m path
    cursor_past greater =
        let after = sorted_after at.passed (pairs rest) key.now.items entry.now (subst (λ l. T (is_sorted (slice_cmp nat_cmp) l)) whole (entries_sorted m)) in
        let back : slice_cmp nat_cmp path key.now.items ≡ Less = nat_list_cmp_total.antisymm path key.now.items ∙ ap ordering_reverse greater in
        sym (no_entry (get m path) (λ v found.
        let later : find (slice_cmp nat_cmp) path (pairs rest) ≡ Some v =
        sym (ap (λ o. cond (is_eq o) (Some entry.now) (find (slice_cmp nat_cmp) path (pairs rest))) back)
        ∙ sym (find_past path at.passed ((key.now.items, entry.now) ∷ pairs rest) (passed_before here at))
        ∙ ap (find (slice_cmp nat_cmp) path) (sym whole) ∙ sym (get-entries m path) ∙ found in
        let less_too : slice_cmp nat_cmp key.now.items path ≡ Less = find_all (λ e. slice_cmp nat_cmp key.now.items e.0 ≡ Less) path v (pairs rest) after later in
        cc (greater, less_too)))

    passed_on : AllByRecursion (λ (e : List ℕ × IndexEntry). is_gt (slice_cmp nat_cmp e.0 key.now.items) ≡ false) (at.passed ++ (key.now.items, entry.now) ∷ [])
    passed_on =
        All-push _ at.passed (key.now.items, entry.now)
        (all_map _ _ at.passed (λ e before. ap is_gt before) (mid_before m at.passed (pairs rest) key.now.items entry.now whole))
        (ap is_gt (tied_itself nat_list_cmp_total key.now.items))

    pub cursor_on : (next : Option (Bor (Vec ℕ Global) × Bor IndexEntry)) (others : List (Vec ℕ Global × IndexEntry)) → MatchOption next ((rest ≡ []) × (others ≡ [])) (λ x. rest ≡ (x.0.now, x.1.now) ∷ others) → IsCursor m key.now.items next others
    cursor_on None others step = record {
      passed = at.passed ++ (key.now.items, entry.now) ∷ [];
      whole = whole ∙ ap (λ l. at.passed ++ (key.now.items, entry.now) ∷ pairs l) (step.0 ∙ sym step.1) ∙ sym (append_assoc at.passed ((key.now.items, entry.now) ∷ []) (pairs others));
      below = passed_on;
      ends = λ _. step.1;
    }
    cursor_on (Some x) others step = record {
      passed = at.passed ++ (key.now.items, entry.now) ∷ [];
      whole = whole ∙ ap (λ l. at.passed ++ (key.now.items, entry.now) ∷ pairs l) step ∙ sym (append_assoc at.passed ((key.now.items, entry.now) ∷ []) ((x.0.now.items, x.1.now) ∷ pairs others));
      below = passed_on;
      ends = λ none. absurd (cc none);
    }
