-- Several refs set at once: the named loose ones are packed, their own files go, and one write of the packed file sets them all.
use Rattle.std.proofs.Common.{◌≡◌, ℕ, Bool, true, false, cond, ◌⊎◌, inl, inr, true≢false, nat_eq, List, [], ◌∷◌, ◌++◌, take, drop, length, get_or, suc, ◌+◌, ◌<◌, Option, Some, None, Ok, Err, sym, ap, refl, ◌∙◌, subst, drop-cons}
use Rattle.std.specs.Prelude.{bytes_eq, codes, is_some, option_map, Result, IfErr, OnErr, OnOk}
use Rattle.std.specs.List.{starts_with}
use Rattle.std.specs.Option.{option_or}
use Rattle.std.specs.Ordering.{nat_cmp, eq_by_cmp}
use Rattle.std.specs.declared.cmp.Ordering.{Ordering}
use Rattle.std.specs.Cmp.Lexicographic.{slice_cmp}
use Rattle.std.specs.FinMap.{insert}
use Rattle.std.specs.FinMap as files
use Rattle.std.proofs.lemmas.Bool.{and_parts, false_from_ne_true, or_cases, or_left, or_right}
use Rattle.std.proofs.lemmas.List.{map-append, map_more, take-append-drop}
use Rattle.std.proofs.lemmas.Slice.Eq.{bytes_eq-Decides}
use Rattle.vc_files.specs.FileMap.{FileMap}
use Rattle.vc_files.proofs.FileMapLemmas.{get-put}
use Rattle.vc_object.specs.declared.id.ObjectId.{ObjectId}
use Rattle.vc_refs.specs.Obstacle.{is_held}
use Rattle.vc_refs.specs.Packed.{PackedMap, PackedRef, packed_refs, packed_text}
use Rattle.vc_refs.specs.Packing.{is_one_of, loose_at, with_all, with_first, AreGone, IsMapOf}
use Rattle.vc_refs.specs.RefMap.{RefMap, IsRefMap, conflicts, is_ref}
use Rattle.vc_refs.specs.Refs.{is_taken, loose_refs, packed_at, packed_map, packed_path, refs, IsBadRef, IsGoodPackedFile}
use Rattle.vc_refs.specs.SetAll.{names_in, names_of, with_changes, AreNamedInRefs, IsFaultOfAll, KeepsAllBut, MayChangeAfter, MayChangeAll, MayPackSome, PacksSome, PacksThem, SetsAll}
use Rattle.vc_refs.specs.declared.changes.RefChange.{RefChange}
use Rattle.vc_refs.specs.declared.changes.SetAllFault.{SetAllFault}
use Rattle.vc_refs.proofs.ChangesLemmas.{IsOpen, changes-IsRefMap, changes_other, changes_same, conflicts_back, held_apart, named_inside, named_open, same_maps}
use Rattle.vc_refs.proofs.LayeredChangeLemmas.{held_from_ref}
use Rattle.vc_refs.proofs.LayeredLemmas.{good_packed_file, other_than_packed, packed_map-IsRefMap, packed_map-there, packed_untaken, refs-loose, refs-packed, taken_from_value, taken_inside, taken_same, untaken_from_none}
use Rattle.vc_refs.proofs.LayeredListingLemmas.{IsMerged, head_of-same, keeps_same, loose_merged, none_merged, same_map_of}
use Rattle.vc_refs.proofs.PathLemmas.{same_path}
use Rattle.vc_refs.proofs.RefsLemmas.{loose-same}

abbrev by_bytes : List ℕ → List ℕ → Ordering
by_bytes = slice_cmp nat_cmp

-- ---- the loose ones among names
loose_among : (content : FileMap) (names : List (List ℕ)) (q : List ℕ) → is_one_of q (names_in (loose_at content names)) ≡ true → (is_one_of q names ≡ true) × (is_taken content q ≡ true)
loose_among content [] q among = absurd (true≢false (sym among))
loose_among content (p ∷ names) q among = by (loose_refs content p) refl among (loose_among content names q)
  where
    by : (o : Option ObjectId) → loose_refs content p ≡ o → is_one_of q (names_in (with_first (option_map (λ id. (p, id)) o) (loose_at content names))) ≡ true
        → (is_one_of q (names_in (loose_at content names)) ≡ true → (is_one_of q names ≡ true) × (is_taken content q ≡ true)) → (is_one_of q (p ∷ names) ≡ true) × (is_taken content q ≡ true)
    by None is more later = let rest = later more in (or_right (eq_by_cmp by_bytes q p) (is_one_of q names) rest.0, rest.1)
    by (Some id) is more later = elim (or_cases (eq_by_cmp by_bytes q p) (is_one_of q (names_in (loose_at content names))) more) [
      | inl here ↦ (or_left (eq_by_cmp by_bytes q p) (is_one_of q names) here, ap (is_taken content) (same_path q p here) ∙ taken_from_value content p id is)
      | inr behind ↦ let rest = later behind in (or_right (eq_by_cmp by_bytes q p) (is_one_of q names) rest.0, rest.1)
    ]

among_loose : (content : FileMap) (names : List (List ℕ)) (q : List ℕ) → is_some (loose_refs content q) ≡ true → is_one_of q names ≡ true → is_one_of q (names_in (loose_at content names)) ≡ true
among_loose content [] q there among = absurd (true≢false (sym among))
among_loose content (p ∷ names) q there among = by (loose_refs content p) refl (among_loose content names q there)
  where
    by : (o : Option ObjectId) → loose_refs content p ≡ o → (is_one_of q names ≡ true → is_one_of q (names_in (loose_at content names)) ≡ true) → is_one_of q (names_in (with_first (option_map (λ id. (p, id)) o) (loose_at content names))) ≡ true
    by None is later = elim (or_cases (eq_by_cmp by_bytes q p) (is_one_of q names) among) [
      | inl here ↦ absurd (true≢false (sym there ∙ ap is_some (ap (loose_refs content) (same_path q p here) ∙ is)))
      | inr behind ↦ later behind
    ]
    by (Some id) is later = elim (or_cases (eq_by_cmp by_bytes q p) (is_one_of q names) among) [
      | inl here ↦ or_left (eq_by_cmp by_bytes q p) (is_one_of q (names_in (loose_at content names))) here
      | inr behind ↦ or_right (eq_by_cmp by_bytes q p) (is_one_of q (names_in (loose_at content names))) (later behind)
    ]

-- one name more, and those after it
pub entries_more : (loose : List PackedRef) (i : ℕ) (entry : PackedRef) → i < length loose → entry ≡ get_or loose i entry → names_in (take (i + 1) loose) ≡ names_in (take i loose) ++ entry.0 ∷ []
entries_more loose i entry within is = map_more (λ (ref : PackedRef). ref.0) loose i entry within ∙ ap (λ (ref : PackedRef). names_in (take i loose) ++ ref.0 ∷ []) (sym is)

pub entries_split : (loose : List PackedRef) (i : ℕ) (entry : PackedRef) → i < length loose → entry ≡ get_or loose i entry → names_in loose ≡ names_in (take i loose) ++ entry.0 ∷ names_in (drop (suc i) loose)
entries_split loose i entry within is =
    ap names_in (sym (take-append-drop i loose) ∙ ap (λ (r : List PackedRef). take i loose ++ r) (drop-cons loose i entry within ∙ ap (λ (ref : PackedRef). ref ∷ drop (suc i) loose) (sym is)))
    ∙ map-append (λ (ref : PackedRef). ref.0) (take i loose) (entry ∷ drop (suc i) loose)

-- what stands at a path with no file
pub loose_untaken : (content : FileMap) (q : List ℕ) → is_taken content q ≡ false → loose_refs content q ≡ None
loose_untaken content q free = by (loose_refs content q) refl
  where
    by : (o : Option ObjectId) → loose_refs content q ≡ o → o ≡ None
    by None is = refl
    by (Some id) is = absurd (true≢false (sym (taken_from_value content q id is) ∙ free))

-- what a file of its own says is the value that was expected
pub loose_expected : (content : FileMap) (q : List ℕ) {expected : Option ObjectId} → refs content q ≡ expected → is_taken content q ≡ true → loose_refs content q ≡ expected
loose_expected content q current taken = sym (refs-loose content q taken) ∙ current

-- ---- the present values, packed
module _ (old : FileMap) (changes : List RefChange) (packed : PackedMap) (read : packed_map old ≡ Some packed) (may : MayChangeAfter old [] changes) where
  abbrev named : List (List ℕ)
  named = names_of changes

  abbrev pub present : PackedMap
  present = with_all packed (loose_at old named)

  merged : IsMerged old named present
  merged = loose_merged old [] named packed (none_merged old packed read)

  is_open : (q : List ℕ) → is_one_of q named ≡ true → IsOpen old q
  is_open q among = named_open old [] changes may q among

  -- a name of these has its value
  present_named : (q : List ℕ) → is_one_of q named ≡ true → files.get present q ≡ refs old q
  present_named q among = merged.at q ∙ ap (λ b. option_or (cond b (loose_refs old q) None) (packed_at (packed_map old) q)) among ∙ by (loose_refs old q) refl
    where
      by : (o : Option ObjectId) → loose_refs old q ≡ o → option_or o (packed_at (packed_map old) q) ≡ refs old q
      by (Some id) is = sym is ∙ sym (refs-loose old q (taken_from_value old q id is))
      by None is = sym (refs-packed old q (untaken_from_none old q is (is_open q among).good))

  -- any other has its packed one
  present_other : (q : List ℕ) → is_one_of q named ≡ false → files.get present q ≡ files.get packed q
  present_other q other = merged.at q ∙ ap (λ b. option_or (cond b (loose_refs old q) None) (packed_at (packed_map old) q)) other ∙ ap (λ m. packed_at m q) read

  present_untaken : (q : List ℕ) → is_taken old q ≡ false → files.get present q ≡ refs old q
  present_untaken q free = by (is_one_of q named) refl
    where
      by : (b : Bool) → is_one_of q named ≡ b → files.get present q ≡ refs old q
      by true among = present_named q among
      by false other = present_other q other ∙ ap (λ m. packed_at m q) (sym read) ∙ sym (refs-packed old q free)

  pub present_held : (q : List ℕ) → is_some (files.get present q) ≡ true → is_held old q ≡ true
  present_held q there = by (is_one_of q named) refl
    where
      by : (b : Bool) → is_one_of q named ≡ b → is_held old q ≡ true
      by true among = held_from_ref old q (ap is_some (sym (present_named q among)) ∙ there)
      by false other = or_right (is_taken old q) (is_some (packed_at (packed_map old) q)) (ap is_some (ap (λ m. packed_at m q) read ∙ sym (present_other q other)) ∙ there)

  packed_is : IsRefMap (files.get packed)
  packed_is = packed_map-IsRefMap old packed read

  pub present_apart : IsRefMap (files.get present)
  present_apart = record { legal = λ q there. legal q (is_one_of q named) refl there; apart = λ a b here there. apart a b here there (is_one_of a named) refl (is_one_of b named) refl }
    where
      legal : (q : List ℕ) (b : Bool) → is_one_of q named ≡ b → is_some (files.get present q) ≡ true → is_ref q ≡ true
      legal q true among there = (is_open q among).legal
      legal q false other there = packed_is.legal q (ap is_some (sym (present_other q other)) ∙ there)

      apart : (a b : List ℕ) → is_some (files.get present a) ≡ true → is_some (files.get present b) ≡ true → (x : Bool) → is_one_of a named ≡ x → (y : Bool) → is_one_of b named ≡ y → conflicts a b ≡ false
      apart a b here there true first y second = conflicts_back b a (held_apart old a b (is_open a first).free (present_held b there))
      apart a b here there false first true second = held_apart old b a (is_open b second).free (present_held a here)
      apart a b here there false first false second = packed_is.apart a b (ap is_some (sym (present_other a first)) ∙ here) (ap is_some (sym (present_other b second)) ∙ there)

-- ---- files that go
-- each file but the packed one is as before, or it had one of these names and is gone
pub record LosesNamed (names : List (List ℕ)) (old new : FileMap) : Type 0 where
  pub at : (path : List ℕ) → bytes_eq path packed_path ≡ false → (files.get new path ≡ files.get old path) ⊎ ((is_one_of path names ≡ true) × (files.get new path ≡ None))

gone_untaken : (content : FileMap) (q : List ℕ) → files.get content q ≡ None → is_taken content q ≡ false
gone_untaken content q none = false_from_ne_true _ (λ taken. true≢false (sym (and_parts (starts_with nat_eq q (codes "refs/")) (is_some (files.get content q)) taken).1 ∙ ap is_some none))

-- one that is still there is as before
stands : (names : List (List ℕ)) (old new : FileMap) → LosesNamed names old new → (q : List ℕ) → is_taken new q ≡ true → files.get new q ≡ files.get old q
stands names old new lost q taken = elim (lost.at q (other_than_packed q (taken_inside new q taken))) [
  | inl same ↦ same
  | inr gone ↦ absurd (true≢false (sym taken ∙ gone_untaken new q gone.1))
]

-- so all but those names is as it was
pub keeps_named : (changes : List RefChange) (old new : FileMap) → AreNamedInRefs changes → LosesNamed (names_of changes) old new → IsGoodPackedFile new → KeepsAllBut changes old new
keeps_named changes old new inside lost good = record { only = only; outside = record { at = outside; head = head_of-same old new (outside (codes "HEAD") refl refl); good = none_bad } }
  where
    only : (path : List ℕ) → is_one_of path (names_of changes) ≡ false → bytes_eq path packed_path ≡ false → files.get new path ≡ files.get old path
    only path other beside = elim (lost.at path beside) [ inl same ↦ same | inr gone ↦ absurd (true≢false (sym gone.0 ∙ other)) ]

    outside : (path : List ℕ) → starts_with nat_eq path (codes "refs/") ≡ false → bytes_eq path packed_path ≡ false → files.get new path ≡ files.get old path
    outside path out beside = elim (lost.at path beside) [
      | inl same ↦ same
      | inr gone ↦ absurd (true≢false (sym (named_inside changes path inside gone.0) ∙ out))
    ]

    none_bad : (path : List ℕ) → IsBadRef new path → IsBadRef old path
    none_bad path (inl bad) =
        let same = stands (names_of changes) old new lost path bad.taken in
        inl (record { taken = sym (taken_same old new path same) ∙ bad.taken; none = sym (loose-same old new path same) ∙ bad.none })
    none_bad path (inr line) = absurd (good line.1)

pub keeps_all : (changes : List RefChange) (old new : FileMap) → new ≡ old → KeepsAllBut changes old new
keeps_all changes old new same = record { only = λ path other beside. ap (λ (m : FileMap). files.get m path) same; outside = keeps_same old new same }

-- ---- the packed file, written
other_file : (old : FileMap) (text q : List ℕ) → bytes_eq q packed_path ≡ false → files.get (insert old packed_path text) q ≡ files.get old q
other_file old text q other = get-put old packed_path text q ∙ ap (λ b. cond b (Some text) (files.get old q)) other

text_there : (old : FileMap) (text : List ℕ) → files.get (insert old packed_path text) packed_path ≡ Some text
text_there old text = get-put old packed_path text packed_path ∙ ap (λ b. cond b (Some text) (files.get old packed_path)) ((bytes_eq-Decides packed_path packed_path).1 refl)

-- each ref is as before, and so is all else
pub record IsSame (changes : List RefChange) (old new : FileMap) : Type 0 where
  pub refs : refs new ≡ refs old
  pub rest : KeepsAllBut changes old new

pub same_all : (changes : List RefChange) (old new : FileMap) → new ≡ old → IsSame changes old new
same_all changes old new same = record { refs = ap refs same; rest = keeps_all changes old new same }

-- and all named refs are packed
pub record IsReady (changes : List RefChange) (packed : PackedMap) (old new : FileMap) : Type 0 where
  pub same : IsSame changes old new
  pub lost : LosesNamed (names_of changes) old new
  pub packed_is : packed_map new ≡ Some packed
  pub free : (q : List ℕ) → is_one_of q (names_of changes) ≡ true → is_taken new q ≡ false

module _ (old : FileMap) (changes : List RefChange) (packed : PackedMap) (read : packed_map old ≡ Some packed) (may : MayChangeAfter old [] changes) (inside : AreNamedInRefs changes) where
  abbrev all_named : List (List ℕ)
  all_named = names_of changes

  abbrev now_packed : PackedMap
  now_packed = present old changes packed read may

  module _ (new : FileMap) (packs : PacksSome (loose_at old all_named) now_packed old new) where
    abbrev text : List ℕ
    text = packed_text now_packed

    goes : (q : List ℕ) → bytes_eq q packed_path ≡ false → (files.get new q ≡ files.get old q) ⊎ ((is_one_of q all_named ≡ true) × (files.get new q ≡ None))
    goes q other = elim (packs.lost.at q) [
      | inl same ↦ inl (same ∙ other_file old text q other)
      | inr gone ↦ inr ((loose_among old all_named q gone.0).0, gone.1)
    ]

    lost_named : LosesNamed all_named old new
    lost_named = record { at = goes }

    there : files.get new packed_path ≡ Some text
    there = elim (packs.lost.at packed_path) [
      | inl same ↦ same ∙ text_there old text
      | inr gone ↦ absurd (true≢false (sym (loose_among old all_named packed_path gone.0).1 ∙ packed_untaken old))
    ]

    again : packed_map new ≡ Some now_packed
    again = packed_map-there new text there ∙ packs.read (present_apart old changes packed read may)

    value : (q : List ℕ) (b : Bool) → is_taken new q ≡ b → refs new q ≡ refs old q
    value q true taken =
        let same = stands all_named old new lost_named q taken in
        refs-loose new q taken ∙ loose-same old new q same ∙ sym (refs-loose old q (sym (taken_same old new q same) ∙ taken))
    value q false free = refs-packed new q free ∙ ap (λ m. packed_at m q) again ∙ by (bytes_eq q packed_path) refl
      where
        by : (b : Bool) → bytes_eq q packed_path ≡ b → files.get now_packed q ≡ refs old q
        by true here = present_untaken old changes packed read may q (ap (is_taken old) ((bytes_eq-Decides q packed_path).0 here) ∙ packed_untaken old)
        by false other = elim (goes q other) [
          | inl same ↦ present_untaken old changes packed read may q (sym (taken_same old new q same) ∙ free)
          | inr gone ↦ present_named old changes packed read may q gone.0
        ]

    pub some_same : IsSame changes old new
    some_same = record {
      refs = same_maps (refs new) (refs old) (λ q. value q (is_taken new q) refl);
      rest = keeps_named changes old new inside lost_named (good_packed_file new now_packed again);
    }

    pub some_ready : AreGone (names_in (loose_at old all_named)) new → IsReady changes now_packed old new
    some_ready gone = record { same = some_same; lost = lost_named; packed_is = again; free = free }
      where
        free : (q : List ℕ) → is_one_of q all_named ≡ true → is_taken new q ≡ false
        free q among = false_from_ne_true _ (λ taken. still q among taken (loose_refs old q) refl)
          where
            still : (q : List ℕ) → is_one_of q all_named ≡ true → is_taken new q ≡ true → (o : Option ObjectId) → loose_refs old q ≡ o → ⊥
            still q among taken (Some id) is = true≢false (sym taken ∙ gone_untaken new q (gone q (among_loose old all_named q (ap is_some is) among)))
            still q among taken None is =
                let same = stands all_named old new lost_named q taken in
                true≢false (sym taken ∙ taken_same old new q same ∙ untaken_from_none old q is (is_open old changes packed read may q among).good)

  -- if it ended before its end
  pub same_packing : (new : FileMap) → MayPackSome (loose_at old all_named) now_packed old new → IsSame changes old new
  same_packing new (inl same) = same_all changes old new same
  same_packing new (inr packs) = some_same new packs

  -- if none of the named ones is loose
  none_ready : loose_at old all_named ≡ [] → IsReady changes now_packed old old
  none_ready none = record { same = same_all changes old old refl; lost = record { at = λ path beside. inl refl }; packed_is = read ∙ ap Some (sym (ap (with_all packed) none)); free = free }
    where
      free : (q : List ℕ) → is_one_of q all_named ≡ true → is_taken old q ≡ false
      free q among = by (loose_refs old q) refl
        where
          by : (o : Option ObjectId) → loose_refs old q ≡ o → is_taken old q ≡ false
          by None unread = untaken_from_none old q unread (is_open old changes packed read may q among).good
          by (Some id) here = absurd (true≢false (sym (among_loose old all_named q (ap is_some here) among) ∙ ap (λ (l : List PackedRef). is_one_of q (names_in l)) none))

  pub ready_packing : (new : FileMap) → PacksThem (loose_at old all_named) now_packed old new → IsReady changes now_packed old new
  ready_packing new (inl none) = subst (λ (m : FileMap). IsReady changes now_packed old m) (sym none.1) (none_ready none.0)
  ready_packing new (inr packs) = some_ready new packs.0 packs.1

  -- ---- the write that decides
  module _ (mid : FileMap) (ready : IsReady changes now_packed old mid) (after : PackedMap) (made : IsMapOf (with_changes (files.get now_packed) changes) after) where
    pub after_apart : IsRefMap (files.get after)
    after_apart =
        subst IsRefMap (sym (same_map_of (with_changes (files.get now_packed) changes) after made))
        (changes-IsRefMap old [] changes (files.get now_packed) may (λ q there. inl (present_held old changes packed read may q there)) (present_apart old changes packed read may))

    module _ (read_again : packed_refs (packed_text after) ≡ Some after) where
      abbrev pub decided : FileMap
      decided = insert mid packed_path (packed_text after)

      packed_new : packed_map decided ≡ Some after
      packed_new = packed_map-there decided (packed_text after) (text_there mid (packed_text after)) ∙ read_again

      taken_new : (q : List ℕ) → is_taken decided q ≡ is_taken mid q
      taken_new q = by (bytes_eq q packed_path) refl
        where
          by : (b : Bool) → bytes_eq q packed_path ≡ b → is_taken decided q ≡ is_taken mid q
          by true here = ap (is_taken decided) ((bytes_eq-Decides q packed_path).0 here) ∙ packed_untaken decided ∙ sym (ap (is_taken mid) ((bytes_eq-Decides q packed_path).0 here) ∙ packed_untaken mid)
          by false other = taken_same mid decided q (other_file mid (packed_text after) q other)

      decides : (q : List ℕ) (b : Bool) → is_taken mid q ≡ b → refs decided q ≡ with_changes (refs old) changes q
      decides q true taken =
          let other : is_one_of q all_named ≡ false = false_from_ne_true _ (λ among. true≢false (sym taken ∙ ready.free q among)) in
          refs-loose decided q (taken_new q ∙ taken) ∙ loose-same mid decided q (other_file mid (packed_text after) q (other_than_packed q (taken_inside mid q taken))) ∙ sym (refs-loose mid q taken)
          ∙ ap (λ (m : RefMap). m q) ready.same.refs ∙ sym (changes_other changes (refs old) q other)
      decides q false free =
          let before : files.get now_packed q ≡ refs old q = ap (λ m. packed_at m q) (sym ready.packed_is) ∙ sym (refs-packed mid q free) ∙ ap (λ (m : RefMap). m q) ready.same.refs in
          refs-packed decided q (taken_new q ∙ free) ∙ ap (λ m. packed_at m q) packed_new ∙ made q ∙ changes_same changes (files.get now_packed) (refs old) q before

      pub all_set : refs decided ≡ with_changes (refs old) changes
      all_set = same_maps (refs decided) (with_changes (refs old) changes) (λ q. decides q (is_taken mid q) refl)

      pub all_rest : KeepsAllBut changes old decided
      all_rest = keeps_named changes old decided inside (record { at = goes_on }) (good_packed_file decided after packed_new)
        where
          goes_on : (path : List ℕ) → bytes_eq path packed_path ≡ false → (files.get decided path ≡ files.get old path) ⊎ ((is_one_of path all_named ≡ true) × (files.get decided path ≡ None))
          goes_on path other = elim (ready.lost.at path other) [
            | inl same ↦ inl (other_file mid (packed_text after) path other ∙ same)
            | inr gone ↦ inr (gone.0, other_file mid (packed_text after) path other ∙ gone.1)
          ]

-- the refs stay a map of refs
pub set_kept : (old : FileMap) (changes : List RefChange) → MayChangeAfter old [] changes → IsRefMap (refs old) → IsRefMap (with_changes (refs old) changes)
set_kept old changes may apart = changes-IsRefMap old [] changes (refs old) may (λ q there. inl (held_from_ref old q there)) apart

-- ---- the whole call
-- what is known before the first write: the packed refs that were read, the named loose ones, and the map of both
pub record IsRead (changes : List RefChange) (packed : PackedMap) (loose : List PackedRef) (both : PackedMap) (old : FileMap) : Type 0 where
  pub read : packed_map old ≡ Some packed
  pub may : MayChangeAll old changes
  pub loose_is : loose ≡ loose_at old (names_of changes)
  pub both_is : both ≡ with_all packed loose
  pub inside : AreNamedInRefs changes

-- the check ranges over files that the look at the packed one left as they were
pub may_all : {old first : FileMap} {changes : List RefChange} {packed : PackedMap} → first ≡ old → packed_map old ≡ Some packed → (packed_map first ≡ Some packed → MayChangeAll first changes) → MayChangeAll old changes
may_all {changes = changes} same read allowed = subst (λ (m : FileMap). MayChangeAll m changes) same (allowed (ap packed_map same ∙ read))

pub is_read : {old first : FileMap} {changes : List RefChange} {packed both : PackedMap} {found loose lent : List PackedRef} → first ≡ old → packed_map old ≡ Some packed → (packed_map first ≡ Some packed → MayChangeAll first changes)
    → (packed_map first ≡ Some packed → found ≡ loose_at first (names_of changes)) → loose ≡ found → lent ≡ found → both ≡ with_all packed lent → AreNamedInRefs changes → IsRead changes packed loose both old
is_read {changes = changes} {packed = packed} same read allowed all loose_is lent_is put_over inside = record {
  read = read;
  may = may_all same read allowed;
  loose_is = loose_is ∙ all (ap packed_map same ∙ read) ∙ ap (λ (m : FileMap). loose_at m (names_of changes)) same;
  both_is = put_over ∙ ap (with_all packed) (lent_is ∙ sym loose_is);
  inside = inside;
}

-- all have their new values, and all else is as before
pub record AreSet (changes : List RefChange) (old new : FileMap) : Type 0 where
  pub set : refs new ≡ with_changes (refs old) changes
  pub rest : KeepsAllBut changes old new

module _ {changes : List RefChange} {packed : PackedMap} {loose : List PackedRef} {both : PackedMap} {old : FileMap} (is : IsRead changes packed loose both old) where
  abbrev all_packed : PackedMap
  all_packed = present old changes packed is.read is.may.each

  all_is : both ≡ all_packed
  all_is = is.both_is ∙ ap (with_all packed) is.loose_is

  pub packing_ended : {mid new : FileMap} → mid ≡ old → MayPackSome loose both mid new → IsSame changes old new
  packing_ended {mid = mid} {new = new} looked packs =
      same_packing old changes packed is.read is.may.each is.inside new
      (subst (λ (m : FileMap). MayPackSome (loose_at old (names_of changes)) all_packed m new) looked
      (subst (λ (m : PackedMap). MayPackSome (loose_at old (names_of changes)) m mid new) all_is
      (subst (λ (l : List PackedRef). MayPackSome l both mid new) is.loose_is packs)))

  pub packing_done : {mid new : FileMap} → mid ≡ old → PacksThem loose both mid new → IsReady changes all_packed old new
  packing_done {mid = mid} {new = new} looked packs =
      ready_packing old changes packed is.read is.may.each is.inside new
      (subst (λ (m : FileMap). PacksThem (loose_at old (names_of changes)) all_packed m new) looked
      (subst (λ (m : PackedMap). PacksThem (loose_at old (names_of changes)) m mid new) all_is
      (subst (λ (l : List PackedRef). PacksThem l both mid new) is.loose_is packs)))

  pub all_written : {mid new : FileMap} {after : PackedMap} → IsReady changes all_packed old mid → IsMapOf (with_changes (files.get both) changes) after
      → (IsRefMap (files.get after) → packed_refs (packed_text after) ≡ Some after) → new ≡ insert mid packed_path (packed_text after) → AreSet changes old new
  all_written {mid = mid} {after = after} ready made again written =
      let from : IsMapOf (with_changes (files.get all_packed) changes) after = subst (λ (m : PackedMap). IsMapOf (with_changes (files.get m) changes) after) all_is made in
      let read = again (after_apart old changes packed is.read is.may.each is.inside mid ready after from) in
      let are : AreSet changes old (insert mid packed_path (packed_text after)) = record {
        set = all_set old changes packed is.read is.may.each is.inside mid ready after from read;
        rest = all_rest old changes packed is.read is.may.each is.inside mid ready after from read;
      } in
      subst (λ (m : FileMap). AreSet changes old m) (sym written) are

pub same_after : {changes : List RefChange} {old mid new : FileMap} → new ≡ mid → IsSame changes old mid → IsSame changes old new
same_after {changes = changes} {old = old} same before = subst (λ (m : FileMap). IsSame changes old m) (sym same) before

-- ---- what the call says at each of its ends
abbrev Ending : Type 0
Ending = Result (Unit {0}) SetAllFault

never_ok : (P : Type 0) (result : Ending) → OnOk result ⊥ → OnOk result P
never_ok P (Ok done) never = absurd never
never_ok P (Err e) never = tt

on_err : {P : Type 0} (result : Ending) → P → OnErr result P
on_err (Ok done) p = tt
on_err (Err e) p = p

refused_alone : {P : Type 0} (result : Ending) → P → IfErr result (λ e. IsFaultOfAll e ⊎ P)
refused_alone (Ok done) p = tt
refused_alone (Err e) p = inr p

fault_alone : (P : Type 0) (result : Ending) → IfErr result IsFaultOfAll → IfErr result (λ e. IsFaultOfAll e ⊎ P)
fault_alone P (Ok done) fault = tt
fault_alone P (Err e) fault = inl fault

module _ {F : Type 0} {honest : Type 0} {content : F → FileMap} {changes : List RefChange} where
  -- of no change
  pub sets_nothing : {device : F} → changes ≡ [] → SetsAll honest content changes device device (Ok tt)
  sets_nothing {device = device} none = record {
    set = λ h. ap (with_changes (refs (content device))) (sym none);
    kept = λ h map. map;
    rest = λ h. keeps_all changes (content device) (content device) refl;
    err = λ h. tt;
    unchanged = λ h. tt;
  }

  -- refused before the first write
  pub sets_refused : {old new : F} {result : Ending} → OnOk result ⊥ → content new ≡ content old → SetsAll honest content changes old new result
  sets_refused {old = old} {new = new} {result = result} never same = record {
    set = λ h. never_ok _ result never;
    kept = λ h map. subst IsRefMap (ap refs (sym same)) map;
    rest = λ h. keeps_all changes (content old) (content new) same;
    err = λ h. on_err result (ap refs same);
    unchanged = λ h. refused_alone result same;
  }

  -- ended by a fault
  pub sets_ended : {old new : F} {result : Ending} → OnOk result ⊥ → IfErr result IsFaultOfAll → (honest → IsSame changes (content old) (content new)) → SetsAll honest content changes old new result
  sets_ended {result = result} never fault same = record {
    set = λ h. never_ok _ result never;
    kept = λ h map. subst IsRefMap (sym (same h).refs) map;
    rest = λ h. (same h).rest;
    err = λ h. on_err result (same h).refs;
    unchanged = λ h. fault_alone _ result fault;
  }

  -- done
  pub sets_done : {old new : F} → (honest → MayChangeAll (content old) changes) → (honest → AreSet changes (content old) (content new)) → SetsAll honest content changes old new (Ok tt)
  sets_done {old = old} may are = record {
    set = λ h. (are h).set;
    kept = λ h map. subst IsRefMap (sym (are h).set) (set_kept (content old) changes (may h).each map);
    rest = λ h. (are h).rest;
    err = λ h. tt;
    unchanged = λ h. tt;
  }
