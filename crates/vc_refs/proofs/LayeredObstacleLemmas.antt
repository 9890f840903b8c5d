-- What stands in the way of a ref among loose files and packed refs.
use Rattle.std.proofs.Common.{◌≡◌, ℕ, Bool, true, false, cond, ◌||◌, ◌⊎◌, inl, inr, true≢false, List, [], ◌∷◌, ◌++◌, Some, sym, ap, refl, ◌∙◌, subst, append_assoc}
use Rattle.std.specs.Prelude.{◌≢◌, is_some, string_bytes}
use Rattle.std.specs.List.{AllByRecursion}
use Rattle.std.specs.Ordering.{nat_cmp, is_eq, is_lt, ordering_reverse}
use Rattle.std.specs.declared.cmp.Ordering.{Ordering}
use Rattle.std.specs.declared.cmp.Ordering.TheVariants.{Less, Equal, Greater}
use Rattle.std.specs.Cmp.{tied_itself}
use Rattle.std.specs.Cmp.Lexicographic.{slice_cmp, nat_list_cmp_total}
use Rattle.std.specs.FinMap.{entries, entries_sorted, find, get-entries}
use Rattle.std.specs.FinMap as files
use Rattle.std.specs.FinMap.Entries.{below_all, is_sorted}
use Rattle.std.proofs.lemmas.Bool.{and_parts, false_from_ne_true, or_right}
use Rattle.vc_files.specs.FileMap.{FileMap}
use Rattle.vc_object.specs.declared.id.ObjectId.{ObjectId}
use Rattle.vc_object.proofs.Order.{All-push}
use Rattle.vc_refs.specs.LooseFault as loose_fault
use Rattle.vc_refs.specs.LooseObstacle as loose
use Rattle.vc_refs.specs.RefFault.{BlamesObstacle}
use Rattle.vc_refs.specs.Refs.{is_taken, packed_at, packed_map, refs}
use Rattle.vc_refs.specs.Obstacle.{ComesFirst, IsBehindLoose, IsFirstInTheWay, IsFirstPackedInTheWay, IsFree, IsFreeOfPacked, IsInTheWay, IsPackedInTheWay}
use Rattle.vc_refs.specs.Packed.{PackedMap, PackedRef}
use Rattle.vc_refs.specs.RefMap.{conflicts}
use Rattle.vc_refs.specs.declared.faults.RefFault.{RefFault}
use Rattle.vc_refs.specs.declared.faults.RefFault.TheVariants.{Stale, Conflict, BadRefFile, HeadLoop, Fault}
use Rattle.vc_refs.proofs.LayeredLemmas.{good_packed_file, refs-loose, refs-packed}
use Rattle.vc_refs.proofs.PackedLemmas.{of_T, same_name}
use Rattle.vc_refs.proofs.RefsLemmas.{taken_from_ref}

abbrev by_bytes : List ℕ → List ℕ → Ordering
by_bytes = slice_cmp nat_cmp

-- ---- the order of names
not_below_itself : (a : List ℕ) → by_bytes a a ≡ Less → ⊥
not_below_itself a less =
    let equal : by_bytes a a ≡ Equal = tied_itself nat_list_cmp_total a in
    let other : is_lt (by_bytes a a) ≡ false = ap is_lt equal in
    let is : is_lt (by_bytes a a) ≡ true = ap is_lt less in
    true≢false (sym is ∙ other)

not_above : (o : Ordering) → o ≡ Less → o ≢ Greater
not_above o less greater = cc

then_below : (a b c : List ℕ) → by_bytes a b ≡ Less → by_bytes b c ≢ Greater → by_bytes a c ≡ Less
then_below a b c less most = by (by_bytes b c) refl
  where
    by : (o : Ordering) → by_bytes b c ≡ o → by_bytes a c ≡ Less
    by Less is = nat_list_cmp_total.trans a b c less is
    by Equal is = subst (λ n. by_bytes a n ≡ Less) (same_name b c (ap is_eq is)) less
    by Greater is = absurd (most is)

then_most : (a b c : List ℕ) → by_bytes a b ≢ Greater → by_bytes b c ≢ Greater → by_bytes a c ≢ Greater
then_most a b c first most = by (by_bytes a b) refl
  where
    by : (o : Ordering) → by_bytes a b ≡ o → by_bytes a c ≢ Greater
    by Less is = not_above (by_bytes a c) (then_below a b c is most)
    by Equal is = subst (λ n. by_bytes n c ≢ Greater) (sym (same_name a b (ap is_eq is))) most
    by Greater is = absurd (first is)

most_from_not_below : (a b : List ℕ) → is_lt (by_bytes a b) ≡ false → by_bytes b a ≢ Greater
most_from_not_below a b other greater =
    let is : is_lt (by_bytes a b) ≡ true = ap is_lt (nat_list_cmp_total.antisymm a b ∙ ap ordering_reverse greater) in
    true≢false (sym is ∙ other)

-- ---- the packed refs, one after the other
pub record LooksOn (packed : PackedMap) (name : List ℕ) (left : List PackedRef) : Type 0 where
  pub done : List PackedRef
  pub whole : entries packed ≡ done ++ left
  pub apart : AllByRecursion (λ e. conflicts e.0 name ≡ false) done

pub looks_further : (packed : PackedMap) (name : List ℕ) (left after : List PackedRef) (e : PackedRef) → LooksOn packed name left → left ≡ e ∷ after → conflicts e.0 name ≡ false → LooksOn packed name after
looks_further packed name left after e so_far is apart = record {
  done = so_far.done ++ e ∷ [];
  whole = so_far.whole ∙ ap (λ l. so_far.done ++ l) is ∙ sym (append_assoc so_far.done (e ∷ []) after);
  apart = All-push (λ e. conflicts e.0 name ≡ false) so_far.done e so_far.apart apart;
}

pub split_found : (q : List ℕ) (done rest : List PackedRef) → is_some (find by_bytes q (done ++ rest)) ≡ true → (is_some (find by_bytes q done) ≡ true) ⊎ (is_some (find by_bytes q rest) ≡ true)
split_found q [] rest h = inr h
split_found q (e ∷ done) rest h =
    elim (is_eq (by_bytes q e.0)) as (λ b. is_some (cond b (Some e.1) (find by_bytes q (done ++ rest))) ≡ true → (is_some (cond b (Some e.1) (find by_bytes q done)) ≡ true) ⊎ (is_some (find by_bytes q rest) ≡ true)) [
      | true ↦ λ _. inl refl
      | false ↦ λ later. split_found q done rest later
    ] h

found_apart : (q name : List ℕ) (done : List PackedRef) → AllByRecursion (λ e. conflicts e.0 name ≡ false) done → is_some (find by_bytes q done) ≡ true → conflicts q name ≡ false
found_apart q name [] all h = absurd (true≢false (sym h))
found_apart q name (e ∷ done) all h =
    elim (is_eq (by_bytes q e.0)) as (λ b. is_eq (by_bytes q e.0) ≡ b → is_some (cond b (Some e.1) (find by_bytes q done)) ≡ true → conflicts q name ≡ false) [
      | true ↦ λ same _. ap (λ n. conflicts n name) (same_name q e.0 same) ∙ all.0
      | false ↦ λ _ later. found_apart q name done all.1 later
    ] refl h

below_found : (k q : List ℕ) (rest : List PackedRef) → below_all by_bytes k rest ≡ true → is_some (find by_bytes q rest) ≡ true → by_bytes k q ≢ Greater
below_found k q [] below h = absurd (true≢false (sym h))
below_found k q (e ∷ rest) below h =
    let parts = and_parts (is_lt (by_bytes k e.0)) (below_all by_bytes k rest) below in
    elim (is_eq (by_bytes q e.0)) as (λ b. is_eq (by_bytes q e.0) ≡ b → is_some (cond b (Some e.1) (find by_bytes q rest)) ≡ true → by_bytes k q ≢ Greater) [
      | true ↦ λ same _ greater. subst (λ n. is_lt (by_bytes k n) ≡ true → ⊥) (same_name q e.0 same) (λ less. true≢false (sym less ∙ ap is_lt greater)) parts.0
      | false ↦ λ _ later. below_found k q rest parts.1 later
    ] refl h

pub first_found : (k q : List ℕ) (v : ObjectId) (rest : List PackedRef) → below_all by_bytes k rest ≡ true → is_some (find by_bytes q ((k, v) ∷ rest)) ≡ true → by_bytes k q ≢ Greater
first_found k q v rest below h =
    elim (is_eq (by_bytes q k)) as (λ b. is_eq (by_bytes q k) ≡ b → is_some (cond b (Some v) (find by_bytes q rest)) ≡ true → by_bytes k q ≢ Greater) [
      | true ↦ λ same _. subst (λ n. by_bytes k n ≢ Greater) (sym (same_name q k same)) (λ greater. true≢false (sym (ap is_eq (tied_itself nat_list_cmp_total k)) ∙ ap is_eq greater))
      | false ↦ λ _ later. below_found k q rest below later
    ] refl h

pub sorted_back : (done rest : List PackedRef) → is_sorted by_bytes (done ++ rest) ≡ true → is_sorted by_bytes rest ≡ true
sorted_back [] rest sorted = sorted
sorted_back (e ∷ done) rest sorted = sorted_back done rest (and_parts (below_all by_bytes e.0 (done ++ rest)) (is_sorted by_bytes (done ++ rest)) sorted).1

pub found_here : (q k : List ℕ) (v : ObjectId) (done rest : List PackedRef) → is_eq (by_bytes q k) ≡ true → is_some (find by_bytes q (done ++ (k, v) ∷ rest)) ≡ true
found_here q k v [] rest same = ap (λ b. is_some (cond b (Some v) (find by_bytes q rest))) same
found_here q k v (e ∷ done) rest same =
    elim (is_eq (by_bytes q e.0)) as (λ b. is_some (cond b (Some e.1) (find by_bytes q (done ++ (k, v) ∷ rest))) ≡ true) [ true ↦ refl | false ↦ found_here q k v done rest same ]

module _ (packed : PackedMap) (name : List ℕ) (left : List PackedRef) (so_far : LooksOn packed name left) where
  held_in : (q : List ℕ) → is_some (files.get packed q) ≡ true → is_some (find by_bytes q (so_far.done ++ left)) ≡ true
  held_in q held = sym (ap is_some (get-entries packed q ∙ ap (find by_bytes q) so_far.whole)) ∙ held

  -- one that conflicts is the first, since those before it don't
  pub first_conflict : (k : List ℕ) (v : ObjectId) (after : List PackedRef) → left ≡ (k, v) ∷ after → conflicts k name ≡ true → IsFirstPackedInTheWay packed name k
  first_conflict k v after is conflict = record { here = record { held = held; conflict = conflict }; first = first }
    where
      whole : entries packed ≡ so_far.done ++ (k, v) ∷ after
      whole = so_far.whole ∙ ap (λ l. so_far.done ++ l) is

      held : is_some (files.get packed k) ≡ true
      held = ap is_some (get-entries packed k ∙ ap (find by_bytes k) whole) ∙ found_here k k v so_far.done after (ap is_eq (tied_itself nat_list_cmp_total k))

      below : below_all by_bytes k after ≡ true
      below = (and_parts (below_all by_bytes k after) (is_sorted by_bytes after) (sorted_back so_far.done ((k, v) ∷ after) (ap (is_sorted by_bytes) (sym whole) ∙ of_T _ (entries_sorted packed)))).0

      first : (q : List ℕ) → IsPackedInTheWay packed name q → by_bytes k q ≢ Greater
      first q obstacle = elim (split_found q so_far.done left (held_in q obstacle.held)) [
        | inl before ↦ absurd (true≢false (sym obstacle.conflict ∙ found_apart q name so_far.done so_far.apart before))
        | inr later ↦ first_found k q v after below (ap (λ l. is_some (find by_bytes q l)) (sym is) ∙ later)
      ]

  -- if none is left, none conflicts
  pub none_conflicts : left ≡ [] → IsFreeOfPacked packed name
  none_conflicts none q obstacle = elim (split_found q so_far.done left (held_in q obstacle.held)) [
    | inl before ↦ true≢false (sym obstacle.conflict ∙ found_apart q name so_far.done so_far.apart before)
    | inr later ↦ true≢false (sym later ∙ ap (λ l. is_some (find by_bytes q l)) none)
  ]

-- ---- beside the loose files
module _ (content : FileMap) (name other : List ℕ) where
  pub comes_first_some : (path : List ℕ) (b : Bool) → loose.IsFirstInTheWay content name path → b ≡ is_lt (by_bytes other path) → ComesFirst content name other b
  comes_first_some path true obstacle is = λ q here. then_below other path q (less (by_bytes other path) (sym is)) (obstacle.first q here)
    where
      less : (o : Ordering) → is_lt o ≡ true → o ≡ Less
      less Less h = refl
      less Equal h = absurd (true≢false (sym h))
      less Greater h = absurd (true≢false (sym h))
  comes_first_some path false obstacle is = (path, obstacle.here, most_from_not_below other path (sym is))

  pub comes_first_none : loose.IsFree content name → ComesFirst content name other true
  comes_first_none free = λ q here. absurd (free q here)

-- a loose file that doesn't come after the first packed ref comes after none
pub behind_loose : (content : FileMap) (packed : PackedMap) (name other : List ℕ) → IsFirstPackedInTheWay packed name other → ComesFirst content name other false → IsBehindLoose content packed name
behind_loose content packed name other first before q obstacle = (before.0, before.1, then_most before.0 other q before.2 (first.first q obstacle))

module _ (content : FileMap) (packed : PackedMap) (name : List ℕ) (read : packed_map content ≡ Some packed) where
  held_cases : (q : List ℕ) → IsInTheWay content name q → loose.IsInTheWay content name q ⊎ IsPackedInTheWay packed name q
  held_cases q obstacle = elim (is_taken content q) as (λ b. is_taken content q ≡ b → (b || is_some (packed_at (packed_map content) q)) ≡ true → loose.IsInTheWay content name q ⊎ IsPackedInTheWay packed name q) [
    | true ↦ λ taken _. inl (record { taken = taken; conflict = obstacle.conflict })
    | false ↦ λ _ held. inr (record { held = ap (λ m. is_some (packed_at m q)) (sym read) ∙ held; conflict = obstacle.conflict })
  ] refl obstacle.held

  held_loose : (q : List ℕ) → loose.IsInTheWay content name q → IsInTheWay content name q
  held_loose q obstacle = record { held = ap (λ b. b || is_some (packed_at (packed_map content) q)) obstacle.taken; conflict = obstacle.conflict }

  held_packed : (q : List ℕ) → IsPackedInTheWay packed name q → IsInTheWay content name q
  held_packed q obstacle = record { held = or_right (is_taken content q) _ (ap (λ m. is_some (packed_at m q)) read ∙ obstacle.held); conflict = obstacle.conflict }

  -- a packed ref that comes before all loose files is a conflict
  pub conflict_packed : (other : List ℕ) → IsFirstPackedInTheWay packed name other → ComesFirst content name other true → BlamesObstacle content name (Conflict other)
  conflict_packed other obstacle before = (good_packed_file content packed read, record { here = held_packed other obstacle.here; first = first }, value)
    where
      first : (q : List ℕ) → IsInTheWay content name q → by_bytes other q ≢ Greater
      first q here = elim (held_cases q here) [
        | inl own ↦ not_above (by_bytes other q) (before q own)
        | inr line ↦ obstacle.first q line
      ]

      free : is_taken content other ≡ false
      free = false_from_ne_true _ (λ taken. not_below_itself other (before other (record { taken = taken; conflict = obstacle.here.conflict })))

      value : is_some (refs content other) ≡ true
      value = ap is_some (refs-packed content other free ∙ ap (λ m. packed_at m other) read) ∙ obstacle.here.held

  -- a loose file that comes first of those comes first of all
  first_of_all : IsBehindLoose content packed name → (p : List ℕ) → loose.IsFirstInTheWay content name p → IsFirstInTheWay content name p
  first_of_all behind p obstacle = record { here = held_loose p obstacle.here; first = first }
    where
      first : (q : List ℕ) → IsInTheWay content name q → by_bytes p q ≢ Greater
      first q here = elim (held_cases q here) [
        | inl own ↦ obstacle.first q own
        | inr line ↦ let before = behind q line in then_most p before.0 q (obstacle.first before.0 before.1) before.2
      ]

  pub way_blames_loose : IsBehindLoose content packed name → (e : RefFault) → loose_fault.BlamesObstacle content name e → BlamesObstacle content name e
  way_blames_loose behind (Stale current) h = h
  way_blames_loose behind (Conflict other) h = (good_packed_file content packed read, first_of_all behind other h.0, ap is_some (refs-loose content other (taken_from_ref content other h.1)) ∙ h.1)
  way_blames_loose behind (BadRefFile path) h = inr (good_packed_file content packed read, h.0, first_of_all behind (string_bytes path) h.1)
  way_blames_loose behind HeadLoop h = h
  way_blames_loose behind (Fault fault) h = tt

  pub way_free : IsBehindLoose content packed name → loose.IsFree content name → IsFree content name
  way_free behind free = record {
    packed = good_packed_file content packed read;
    none = λ q here. elim (held_cases q here) [
      | inl own ↦ free q own
      | inr line ↦ let before = behind q line in free before.0 before.1
    ];
  }
