-- Names of which none is a folder of another, one after the other and each two of them.
use Rattle.std.proofs.Common.{◌≡◌, ℕ, Bool, true, false, cond, List, [], ◌∷◌, Option, Some, None, true≢false, sym, ap, refl, ◌∙◌, subst}
use Rattle.std.specs.Prelude.{MatchOption, is_some, not}
use Rattle.std.specs.FinMap.{empty, entries, find, get, get-entries, get-remove, remove}
use Rattle.std.specs.List.{list_any}
use Rattle.std.specs.Ordering.{eq_by_cmp, is_eq, nat_cmp}
use Rattle.std.specs.declared.cmp.Ordering.{Ordering}
use Rattle.std.specs.Cmp.{tied_itself}
use Rattle.std.specs.Cmp.Lexicographic.{slice_cmp, nat_list_cmp_total}
use Rattle.std.specs.Str.{is_utf8}
use Rattle.std.proofs.lemmas.Bool.{and_from, and_parts, not-true, not_from_false, or_from, or_parts}
use Rattle.vc_files.specs.Path.{is_above}
use Rattle.vc_object.specs.ObjectId.{is_id}
use Rattle.vc_object.specs.declared.id.ObjectId.{ObjectId}
use Rattle.vc_refs.specs.Packed.{PackedMap, PackedRef, IsPackedMap, apart_map, is_packed_name, names_apart}
use Rattle.vc_refs.specs.RefMap.{IsFirstFolder, IsFolder, IsRefMap, conflicts, is_ref}
use Rattle.vc_refs.proofs.ObstacleLemmas.{no_own_folder}
use Rattle.vc_refs.proofs.PackedLemmas.{all_found, empty-IsPackedMap, entries-none, same_name}

abbrev by_bytes : List ℕ → List ℕ → Ordering
by_bytes = slice_cmp nat_cmp

-- ---- names in a list
pub found_head : (e : PackedRef) (es : List PackedRef) → is_some (find by_bytes e.0 (e ∷ es)) ≡ true
found_head e es = ap (λ b. is_some (cond b (Some e.1) (find by_bytes e.0 es))) (ap is_eq (tied_itself nat_list_cmp_total e.0))

pub found_later : (q : List ℕ) (e : PackedRef) (es : List PackedRef) → is_some (find by_bytes q es) ≡ true → is_some (find by_bytes q (e ∷ es)) ≡ true
found_later q e es there = elim (is_eq (by_bytes q e.0)) as (λ b. is_some (cond b (Some e.1) (find by_bytes q es)) ≡ true) [ true ↦ refl | false ↦ there ]

-- one that is there is the first, or among the others
pub found_cases : (P : List ℕ → Type 0) (q : List ℕ) (e : PackedRef) (es : List PackedRef) → P e.0 → (is_some (find by_bytes q es) ≡ true → P q) → is_some (find by_bytes q (e ∷ es)) ≡ true → P q
found_cases P q e es first later there =
    elim (is_eq (by_bytes q e.0)) as (λ b. is_eq (by_bytes q e.0) ≡ b → is_some (cond b (Some e.1) (find by_bytes q es)) ≡ true → P q) [
      | true ↦ λ same _. subst P (sym (same_name q e.0 same)) first
      | false ↦ λ _ there. later there
    ] refl there

conflicts_back : (a b : List ℕ) → conflicts a b ≡ false → conflicts b a ≡ false
conflicts_back a b apart = let parts = or_parts (is_above a b) (is_above b a) apart in or_from (is_above b a) (is_above a b) parts.1 parts.0

abbrev conflicts_any : List ℕ → List PackedRef → Bool
conflicts_any name es = list_any (λ (other : PackedRef). conflicts name other.0) es

-- a name that conflicts with none
none_conflicts : (name : List ℕ) (es : List PackedRef) → conflicts_any name es ≡ false → (q : List ℕ) → is_some (find by_bytes q es) ≡ true → conflicts name q ≡ false
none_conflicts name [] none q there = absurd (true≢false (sym there))
none_conflicts name (e ∷ es) none q there =
    let parts = or_parts (conflicts name e.0) (conflicts_any name es) none in
    found_cases (λ n. conflicts name n ≡ false) q e es parts.0 (none_conflicts name es parts.1 q) there

conflicts_none : (name : List ℕ) (es : List PackedRef) → ((q : List ℕ) → is_some (find by_bytes q es) ≡ true → conflicts name q ≡ false) → conflicts_any name es ≡ false
conflicts_none name [] each = refl
conflicts_none name (e ∷ es) each =
    or_from (conflicts name e.0) (conflicts_any name es) (each e.0 (found_head e es)) (conflicts_none name es (λ q there. each q (found_later q e es there)))

-- each two of names that are apart
each_apart : (es : List PackedRef) → names_apart es ≡ true → (a b : List ℕ) → is_some (find by_bytes a es) ≡ true → is_some (find by_bytes b es) ≡ true → conflicts a b ≡ false
each_apart [] apart a b here there = absurd (true≢false (sym here))
each_apart (e ∷ es) apart a b here there =
    let parts = and_parts (not (conflicts_any e.0 es)) (names_apart es) apart in
    let none = none_conflicts e.0 es (not-true (conflicts_any e.0 es) parts.0) in
    found_cases (λ n. conflicts n b ≡ false) a e es
    (found_cases (λ n. conflicts e.0 n ≡ false) b e es (no_own_folder e.0) (none b) there)
    (λ later. found_cases (λ n. conflicts a n ≡ false) b e es (conflicts_back e.0 a (none a later)) (each_apart es parts.1 a b later) there)
    here

apart_each : (es : List PackedRef) → ((a b : List ℕ) → is_some (find by_bytes a es) ≡ true → is_some (find by_bytes b es) ≡ true → conflicts a b ≡ false) → names_apart es ≡ true
apart_each [] each = refl
apart_each (e ∷ es) each =
    and_from (not (conflicts_any e.0 es)) (names_apart es)
    (not_from_false (conflicts_any e.0 es) (conflicts_none e.0 es (λ q there. each e.0 q (found_head e es) (found_later q e es there))))
    (apart_each es (λ a b here there. each a b (found_later a e es here) (found_later b e es there)))

-- ---- maps
pub found_in : (m : PackedMap) (q : List ℕ) → is_some (get m q) ≡ true → is_some (find by_bytes q (entries m)) ≡ true
found_in m q there = sym (ap is_some (get-entries m q)) ∙ there

pub found_of : (m : PackedMap) (q : List ℕ) → is_some (find by_bytes q (entries m)) ≡ true → is_some (get m q) ≡ true
found_of m q there = ap is_some (get-entries m q) ∙ there

-- each name is legal
pub names_legal : (m : PackedMap) → IsPackedMap m → (q : List ℕ) → is_some (get m q) ≡ true → is_ref q ≡ true
names_legal m valid q there = by (find by_bytes q (entries m)) refl (found_in m q there)
  where
    by : (o : Option ObjectId) → find by_bytes q (entries m) ≡ o → is_some o ≡ true → is_ref q ≡ true
    by None is some = absurd (true≢false (sym some))
    by (Some id) is some = (and_parts (is_utf8 q) (is_ref q) (and_parts (is_packed_name q) (is_id id) (all_found q id (entries m) valid is)).0).1

-- so names that are apart are those of a map of refs
pub IsRefMap-from_apart : (m : PackedMap) → IsPackedMap m → names_apart (entries m) ≡ true → IsRefMap (get m)
IsRefMap-from_apart m valid apart = record { legal = names_legal m valid; apart = λ a b here there. each_apart (entries m) apart a b (found_in m a here) (found_in m b there) }

pub apart_from_IsRefMap : (m : PackedMap) → IsRefMap (get m) → names_apart (entries m) ≡ true
apart_from_IsRefMap m map = apart_each (entries m) (λ a b here there. map.apart a b (found_of m a here) (found_of m b there))

pub empty-IsRefMap : IsRefMap (get (empty {X = ObjectId} {R = by_bytes}))
empty-IsRefMap = IsRefMap-from_apart empty empty-IsPackedMap (ap names_apart entries-none)

-- a map with one less
pub IsRefMap-less : (m less : PackedMap) (name : List ℕ) → IsRefMap (get m) → less ≡ remove m name → IsRefMap (get less)
IsRefMap-less m less name map is = record { legal = λ q there. map.legal q (before q there); apart = λ a b here there. map.apart a b (before a here) (before b there) }
  where
    by : (q : List ℕ) (b : Bool) → is_some (cond b None (get m q)) ≡ true → is_some (get m q) ≡ true
    by q true there = absurd (true≢false (sym there))
    by q false there = there

    before : (q : List ℕ) → is_some (get less q) ≡ true → is_some (get m q) ≡ true
    before q there = by q (eq_by_cmp by_bytes q name) (sym (ap is_some (ap (λ (l : PackedMap). get l q) is ∙ get-remove nat_list_cmp_total m name q)) ∙ there)

pub apart_map-whole : (m : PackedMap) → IsRefMap (get m) → apart_map m ≡ Some m
apart_map-whole m map = rw (apart_from_IsRefMap m map) refl

-- with a folder of another name it isn't one
pub apart_map-none : (m : PackedMap) (name : List ℕ) → IsFolder (get m) name → apart_map m ≡ None
apart_map-none m name folder = by (names_apart (entries m)) refl
  where
    by : (b : Bool) → names_apart (entries m) ≡ b → cond b (Some m) None ≡ None
    by true apart =
        let parts = or_parts (is_above name folder.other) (is_above folder.other name) (each_apart (entries m) apart name folder.other (found_in m name folder.held) (found_in m folder.other folder.there)) in
        absurd (true≢false (sym folder.above ∙ parts.0))
    by false other = refl

-- what a look for the first folder says
module _ {A : Type 0} (name_of : A → List ℕ) (m : PackedMap) where
  pub apart_map-found : (found : Option A) → MatchOption found (IsRefMap (get m)) (λ a. IsFirstFolder (get m) (name_of a)) → is_some found ≡ true → apart_map m ≡ None
  apart_map-found None map some = absurd (true≢false (sym some))
  apart_map-found (Some a) folder some = apart_map-none m (name_of a) folder.here

  pub apart_map-not_found : (found : Option A) → MatchOption found (IsRefMap (get m)) (λ a. IsFirstFolder (get m) (name_of a)) → is_some found ≡ false → apart_map m ≡ Some m
  apart_map-not_found None map none = apart_map-whole m map
  apart_map-not_found (Some a) folder none = absurd (true≢false none)

-- what is kept is apart
pub apart_map-kept : (m kept : PackedMap) → apart_map m ≡ Some kept → (m ≡ kept) × (names_apart (entries m) ≡ true)
apart_map-kept m kept is = by (names_apart (entries m)) refl is
  where
    by : (b : Bool) → names_apart (entries m) ≡ b → cond b (Some m) None ≡ Some kept → (m ≡ kept) × (names_apart (entries m) ≡ true)
    by true apart found = (cc found, apart)
    by false other found = absurd (cc found)
