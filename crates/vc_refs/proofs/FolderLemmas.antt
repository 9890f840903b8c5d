-- Names in the order of their bytes: whether one of them lies in the folder of another, and which is the first such folder.
use Rattle.std.proofs.Common.{◌≡◌, ℕ, Bool, true, false, ◌||◌, inl, inr, nat_eq, List, [], ◌∷◌, ◌++◌, true≢false, sym, ap, refl, ◌∙◌, subst, append_assoc}
use Rattle.std.specs.Prelude.{◌≢◌, is_some}
use Rattle.std.specs.FinMap.{entries, entries_sorted, find, get, nat_cmp-IsAntisymmetric}
use Rattle.std.specs.FinMap.Entries.{below_all, is_sorted}
use Rattle.std.specs.List.{AllByRecursion, list_any, starts_with}
use Rattle.std.specs.Ordering.{is_lt, nat_cmp, ordering_reverse, ordering_then}
use Rattle.std.specs.declared.cmp.Ordering.{Ordering}
use Rattle.std.specs.declared.cmp.Ordering.TheVariants.{Less, Equal, Greater}
use Rattle.std.specs.Cmp.Lexicographic.{slice_cmp, nat_list_cmp_total}
use Rattle.std.proofs.lemmas.Bool.{and_parts, false_from_ne_true, or_cases, or_from, or_parts}
use Rattle.std.proofs.lemmas.Cmp.{nat_cmp_total}
use Rattle.vc_files.specs.Path.{is_above}
use Rattle.vc_files.proofs.PathLemmas.{is_above-parts}
use Rattle.vc_lemmas.proofs.Texts.{starts_with-append}
use Rattle.vc_object.proofs.Order.{All-push}
use Rattle.vc_refs.specs.Packed.{PackedMap, PackedRef, IsPackedMap}
use Rattle.vc_refs.specs.RefMap.{IsFirstFolder, IsFolder, IsRefMap, conflicts}
use Rattle.vc_refs.proofs.ApartLemmas.{found_cases, found_head, found_in, found_later, found_of, names_legal}
use Rattle.vc_refs.proofs.LayeredObstacleLemmas.{first_found, sorted_back, split_found}
use Rattle.vc_refs.proofs.ObstacleLemmas.{no_own_folder, not_above_from_front}
use Rattle.vc_refs.proofs.PackedLemmas.{of_T}

abbrev by_bytes : List ℕ → List ℕ → Ordering
by_bytes = slice_cmp nat_cmp

is_less : (o : Ordering) → is_lt o ≡ true → o ≡ Less
is_less Less h = refl
is_less Equal h = absurd (true≢false (sym h))
is_less Greater h = absurd (true≢false (sym h))

less_greater : Less ≡ Greater → ⊥
less_greater e = cc e

-- ---- in the folder of one name
-- what lies between a text and one that it begins begins with it, too
between : (name x rest : List ℕ) → by_bytes name x ≡ Less → by_bytes x (name ++ rest) ≡ Less → (more : List ℕ) × (x ≡ name ++ more)
between [] x rest first next = (x, refl)
between (c ∷ name) [] rest first next = absurd (less_greater (sym first))
between (c ∷ name) (d ∷ x) rest first next = by (nat_cmp c d) refl (between name x rest) first
  where
    back : (o : Ordering) → nat_cmp c d ≡ o → ordering_then (ordering_reverse o) (by_bytes x (name ++ rest)) ≡ Less
    back o is = ap (λ p. ordering_then p (by_bytes x (name ++ rest))) (sym (nat_cmp_total.antisymm d c ∙ ap ordering_reverse is)) ∙ next

    by : (o : Ordering) → nat_cmp c d ≡ o → (by_bytes name x ≡ Less → by_bytes x (name ++ rest) ≡ Less → (more : List ℕ) × (x ≡ name ++ more)) → ordering_then o (by_bytes name x) ≡ Less
        → (more : List ℕ) × (d ∷ x ≡ (c ∷ name) ++ more)
    by Less is further h = absurd (less_greater (sym (back Less is)))
    by Equal is further h =
        let more = further h (back Equal is) in
        (more.0, ap (λ n. n ∷ x) (sym (nat_cmp-IsAntisymmetric c d is)) ∙ ap (λ t. c ∷ t) more.1)
    by Greater is further h = absurd (less_greater (sym h))

begins_with : (name more x : List ℕ) → x ≡ name ++ more → starts_with nat_eq x name ≡ true
begins_with name more x is = ap (λ t. starts_with nat_eq t name) is ∙ starts_with-append name more

not_between : (name x y : List ℕ) → by_bytes name x ≡ Less → by_bytes x y ≡ Less → starts_with nat_eq x name ≡ false → is_above name y ≡ true → ⊥
not_between name x y first next apart above =
    let parts = is_above-parts name y above in
    let more = between name x (47 ∷ parts.0) first (subst (λ t. by_bytes x t ≡ Less) parts.1 next) in
    true≢false (sym (begins_with name more.0 x more.1) ∙ apart)

abbrev pub has_inside : List ℕ → List PackedRef → Bool
has_inside name es = list_any (λ (other : PackedRef). is_above name other.0) es

none_behind : (name x : List ℕ) (es : List PackedRef) → by_bytes name x ≡ Less → starts_with nat_eq x name ≡ false → below_all by_bytes x es ≡ true → has_inside name es ≡ false
none_behind name x [] less apart below = refl
none_behind name x (e ∷ es) less apart below =
    let parts = and_parts (is_lt (by_bytes x e.0)) (below_all by_bytes x es) below in
    or_from (is_above name e.0) (has_inside name es)
    (false_from_ne_true _ (λ above. not_between name x e.0 less (is_less (by_bytes x e.0) parts.0) apart above))
    (none_behind name x es less apart parts.1)

-- names in order, all after this one, of which those that were passed by don't lie in its folder
pub record SeeksInside (name : List ℕ) (all left : List PackedRef) : Type 0 where
  pub same : has_inside name all ≡ has_inside name left
  pub above : below_all by_bytes name left ≡ true
  pub sorted : is_sorted by_bytes left ≡ true

pub seeks_inside : (name : List ℕ) (all left : List PackedRef) → below_all by_bytes name all ≡ true → is_sorted by_bytes all ≡ true → left ≡ all → SeeksInside name all left
seeks_inside name all left above sorted is = record { same = ap (has_inside name) (sym is); above = ap (below_all by_bytes name) is ∙ above; sorted = ap (is_sorted by_bytes) is ∙ sorted }

module _ (name : List ℕ) (all left : List PackedRef) (e : PackedRef) (after : List PackedRef) (so_far : SeeksInside name all left) (is : left ≡ e ∷ after) where
  same_left : has_inside name all ≡ (is_above name e.0 || has_inside name after)
  same_left = so_far.same ∙ ap (has_inside name) is

  pub inside_here : is_above name e.0 ≡ true → true ≡ has_inside name all
  inside_here above = sym (same_left ∙ ap (λ b. b || has_inside name after) above)

  pub inside_further : is_above name e.0 ≡ false → SeeksInside name all after
  inside_further apart =
      let above = and_parts (is_lt (by_bytes name e.0)) (below_all by_bytes name after) (ap (below_all by_bytes name) (sym is) ∙ so_far.above) in
      let sorted = and_parts (below_all by_bytes e.0 after) (is_sorted by_bytes after) (ap (is_sorted by_bytes) (sym is) ∙ so_far.sorted) in
      record { same = same_left ∙ ap (λ b. b || has_inside name after) apart; above = above.1; sorted = sorted.1 }

  -- after one that doesn't begin with the name, none lies in its folder
  pub inside_never : is_above name e.0 ≡ false → starts_with nat_eq e.0 name ≡ false → false ≡ has_inside name all
  inside_never own apart =
      let above = and_parts (is_lt (by_bytes name e.0)) (below_all by_bytes name after) (ap (below_all by_bytes name) (sym is) ∙ so_far.above) in
      let sorted = and_parts (below_all by_bytes e.0 after) (is_sorted by_bytes after) (ap (is_sorted by_bytes) (sym is) ∙ so_far.sorted) in
      sym (same_left ∙ or_from (is_above name e.0) (has_inside name after) own (none_behind name e.0 after (is_less (by_bytes name e.0) above.0) apart sorted.0))

pub inside_none : (name : List ℕ) (all left : List PackedRef) → SeeksInside name all left → left ≡ [] → false ≡ has_inside name all
inside_none name all left so_far none = sym (so_far.same ∙ ap (has_inside name) none)

-- ---- the first folder
-- no ref lies in the folder of this name
abbrev pub IsNoFolder : PackedMap → List ℕ → Type 0
IsNoFolder m name = (q : List ℕ) → is_some (get m q) ≡ true → is_above name q ≡ false

-- the refs, one after the other, of which those that were passed by are no folders
pub record SeeksFolder (m : PackedMap) (left : List PackedRef) : Type 0 where
  pub done : List PackedRef
  pub whole : entries m ≡ done ++ left
  pub clear : AllByRecursion (λ e. IsNoFolder m e.0) done

pub seeks_folder : (m : PackedMap) (left : List PackedRef) → left ≡ entries m → SeeksFolder m left
seeks_folder m left is = record { done = []; whole = sym is; clear = tt }

inside_found : (name : List ℕ) (es : List PackedRef) → has_inside name es ≡ true → (q : List ℕ) × (is_some (find by_bytes q es) ≡ true) × (is_above name q ≡ true)
inside_found name [] h = absurd (true≢false (sym h))
inside_found name (e ∷ es) h = elim (or_cases (is_above name e.0) (has_inside name es) h) [
  | inl here ↦ (e.0, found_head e es, here)
  | inr later ↦ let more = inside_found name es later in (more.0, found_later more.0 e es more.1, more.2)
]

not_inside : (name : List ℕ) (es : List PackedRef) → has_inside name es ≡ false → (q : List ℕ) → is_some (find by_bytes q es) ≡ true → is_above name q ≡ false
not_inside name [] none q there = absurd (true≢false (sym there))
not_inside name (e ∷ es) none q there =
    let parts = or_parts (is_above name e.0) (has_inside name es) none in
    found_cases (λ n. is_above name n ≡ false) q e es parts.0 (not_inside name es parts.1 q) there

found_behind : (q : List ℕ) (done es : List PackedRef) → is_some (find by_bytes q es) ≡ true → is_some (find by_bytes q (done ++ es)) ≡ true
found_behind q [] es there = there
found_behind q (d ∷ done) es there = found_later q d (done ++ es) (found_behind q done es there)

found_passes : (P : List ℕ → Type 0) (q : List ℕ) (es : List PackedRef) → AllByRecursion (λ e. P e.0) es → is_some (find by_bytes q es) ≡ true → P q
found_passes P q [] all there = absurd (true≢false (sym there))
found_passes P q (e ∷ es) all there = found_cases P q e es all.0 (found_passes P q es all.1) there

below_one : (x : List ℕ) (done : List PackedRef) (e : PackedRef) (after : List PackedRef) → below_all by_bytes x (done ++ e ∷ after) ≡ true → by_bytes x e.0 ≡ Less
below_one x [] e after below = is_less (by_bytes x e.0) (and_parts (is_lt (by_bytes x e.0)) (below_all by_bytes x after) below).0
below_one x (d ∷ done) e after below = below_one x done e after (and_parts (is_lt (by_bytes x d.0)) (below_all by_bytes x (done ++ e ∷ after)) below).1

-- what comes before a name is below it
before_below : (q : List ℕ) (done : List PackedRef) (e : PackedRef) (after : List PackedRef) → is_sorted by_bytes (done ++ e ∷ after) ≡ true → is_some (find by_bytes q done) ≡ true → by_bytes q e.0 ≡ Less
before_below q [] e after sorted there = absurd (true≢false (sym there))
before_below q (d ∷ done) e after sorted there =
    let parts = and_parts (below_all by_bytes d.0 (done ++ e ∷ after)) (is_sorted by_bytes (done ++ e ∷ after)) sorted in
    found_cases (λ n. by_bytes n e.0 ≡ Less) q d done (below_one d.0 done e after parts.0) (before_below q done e after parts.1) there

-- and doesn't lie in its folder
not_before : (name q : List ℕ) → by_bytes q name ≡ Less → is_above name q ≡ false
not_before name q less = false_from_ne_true _ (λ above.
    let parts = is_above-parts name q above in
    not_above_from_front name q (47 ∷ parts.0) parts.1 (nat_list_cmp_total.antisymm name q ∙ ap ordering_reverse less))

module _ (m : PackedMap) (left : List PackedRef) (e : PackedRef) (after : List PackedRef) (so_far : SeeksFolder m left) (is : left ≡ e ∷ after) where
  whole_is : entries m ≡ so_far.done ++ e ∷ after
  whole_is = so_far.whole ∙ ap (λ l. so_far.done ++ l) is

  sorted_is : is_sorted by_bytes (so_far.done ++ e ∷ after) ≡ true
  sorted_is = ap (is_sorted by_bytes) (sym whole_is) ∙ of_T _ (entries_sorted m)

  pub later_above : below_all by_bytes e.0 after ≡ true
  later_above = (and_parts (below_all by_bytes e.0 after) (is_sorted by_bytes after) (sorted_back so_far.done (e ∷ after) sorted_is)).0

  pub later_sorted : is_sorted by_bytes after ≡ true
  later_sorted = (and_parts (below_all by_bytes e.0 after) (is_sorted by_bytes after) (sorted_back so_far.done (e ∷ after) sorted_is)).1

  held_in : (q : List ℕ) → is_some (get m q) ≡ true → is_some (find by_bytes q (so_far.done ++ e ∷ after)) ≡ true
  held_in q there = ap (λ l. is_some (find by_bytes q l)) (sym whole_is) ∙ found_in m q there

  held_of : (q : List ℕ) → is_some (find by_bytes q (e ∷ after)) ≡ true → is_some (get m q) ≡ true
  held_of q there = found_of m q (ap (λ l. is_some (find by_bytes q l)) whole_is ∙ found_behind q so_far.done (e ∷ after) there)

  -- one with another in its folder is the first, since those before it have none
  pub folder_here : true ≡ has_inside e.0 after → IsFirstFolder (get m) e.0
  folder_here some = record { here = record { held = held_of e.0 (found_head e after); other = other.0; there = held_of other.0 (found_later other.0 e after other.1); above = other.2 }; first = first }
    where
      other : (q : List ℕ) × (is_some (find by_bytes q after) ≡ true) × (is_above e.0 q ≡ true)
      other = inside_found e.0 after (sym some)

      first : (q : List ℕ) → IsFolder (get m) q → by_bytes e.0 q ≢ Greater
      first q folder = elim (split_found q so_far.done (e ∷ after) (held_in q folder.held)) [
        | inl before ↦ absurd (true≢false (sym folder.above ∙ found_passes (IsNoFolder m) q so_far.done so_far.clear before folder.other folder.there))
        | inr later ↦ first_found e.0 q e.1 after later_above later
      ]

  -- one without is passed by
  pub folder_further : false ≡ has_inside e.0 after → SeeksFolder m after
  folder_further none = record {
    done = so_far.done ++ e ∷ [];
    whole = whole_is ∙ sym (append_assoc so_far.done (e ∷ []) after);
    clear = All-push (λ (d : PackedRef). IsNoFolder m d.0) so_far.done e so_far.clear no_folder;
  }
    where
      no_folder : IsNoFolder m e.0
      no_folder q there = elim (split_found q so_far.done (e ∷ after) (held_in q there)) [
        | inl before ↦ not_before e.0 q (before_below q so_far.done e after sorted_is before)
        | inr later ↦ found_cases (λ n. is_above e.0 n ≡ false) q e after (or_parts (is_above e.0 e.0) (is_above e.0 e.0) (no_own_folder e.0)).0 (not_inside e.0 after (sym none) q) later
      ]

-- if none is left, no name is a folder of another
pub folder_none : (m : PackedMap) (left : List PackedRef) → IsPackedMap m → SeeksFolder m left → left ≡ [] → IsRefMap (get m)
folder_none m left valid so_far none = record { legal = names_legal m valid; apart = apart }
  where
    clear : (q : List ℕ) → is_some (get m q) ≡ true → IsNoFolder m q
    clear q there = elim (split_found q so_far.done left (ap (λ l. is_some (find by_bytes q l)) (sym so_far.whole) ∙ found_in m q there)) [
      | inl before ↦ found_passes (IsNoFolder m) q so_far.done so_far.clear before
      | inr later ↦ absurd (true≢false (sym later ∙ ap (λ l. is_some (find by_bytes q l)) none))
    ]

    apart : (a b : List ℕ) → is_some (get m a) ≡ true → is_some (get m b) ≡ true → conflicts a b ≡ false
    apart a b here there = or_from (is_above a b) (is_above b a) (clear a here b there) (clear b there a here)
