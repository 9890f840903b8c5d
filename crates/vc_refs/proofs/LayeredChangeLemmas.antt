-- What a ref that is set or removed does to the layered refs.
use Rattle.std.proofs.Common.{◌≡◌, ℕ, Bool, true, false, cond, ◌||◌, inl, inr, true≢false, nat_eq, List, Option, Some, None, sym, ap, refl, ◌∙◌, subst}
use Rattle.std.specs.Prelude.{bytes_eq, codes, is_none, is_some}
use Rattle.std.specs.List.{starts_with}
use Rattle.std.specs.FinMap.{get-remove, insert, remove}
use Rattle.std.specs.FinMap as files
use Rattle.std.specs.Cmp.Lexicographic.{nat_list_cmp_total}
use Rattle.std.proofs.lemmas.Bool.{false_from_ne_true}
use Rattle.std.proofs.lemmas.Map.Text.{is_eq-slice_cmp}
use Rattle.std.proofs.lemmas.Slice.Eq.{bytes_eq-Decides}
use Rattle.vc_files.specs.FileMap.{FileMap}
use Rattle.vc_files.proofs.FileMapLemmas.{get-put}
use Rattle.vc_object.specs.declared.id.ObjectId.{ObjectId}
use Rattle.vc_refs.specs.Head.{KeepsTheRest}
use Rattle.vc_refs.specs.Packing.{IsUnpacked, UnpacksOnly}
use Rattle.vc_refs.specs.RefFault.{BlamesPacked, BlamesRemove, BlamesSet, BlamesObstacle}
use Rattle.vc_refs.specs.Refs.{deciding_file, is_taken, loose_refs, packed_at, packed_map, packed_path, refs, ChangesOnly, IsBadLoose, IsBadRef, IsGoodPackedFile}
use Rattle.vc_refs.specs.Obstacle.{is_held, IsFree}
use Rattle.vc_refs.specs.Packed.{PackedMap, packed_refs, packed_text}
use Rattle.vc_refs.specs.RefMap.{RefMap, IsInRefs, conflicts, with_ref, without_ref}
use Rattle.vc_refs.specs.declared.faults.RefFault.{RefFault}
use Rattle.vc_refs.specs.declared.faults.RefFault.TheVariants.{Stale, Conflict, BadRefFile, HeadLoop, Fault}
use Rattle.vc_refs.proofs.HeadLemmas.{head_of-kept}
use Rattle.vc_refs.proofs.LayeredLemmas.{good_loose, good_packed, good_packed_file, refs-loose, refs-packed, other_than_packed, packed_map-same, packed_map-there, packed_untaken, taken_from_value, taken_inside, taken_same, untaken_from_none, value_same}
use Rattle.vc_refs.proofs.LayeredListingLemmas.{head_of-same}
use Rattle.vc_refs.proofs.RefsLemmas.{loose-same}

packed_other : (name : List ℕ) → IsInRefs name → bytes_eq packed_path name ≡ false
packed_other name inside = false_from_ne_true _ (λ same.
    true≢false (sym ((bytes_eq-Decides name packed_path).1 (sym ((bytes_eq-Decides packed_path name).0 same))) ∙ other_than_packed name inside))

-- a change of a ref's own file leaves the packed file
packed_stays : (name : List ℕ) (old new : FileMap) → IsInRefs name → ChangesOnly name old new → packed_map new ≡ packed_map old
packed_stays name old new inside only = packed_map-same old new (only.at packed_path (packed_other name inside))

-- ---- setting
with_here : (map : RefMap) (name : List ℕ) (id : ObjectId) (q : List ℕ) → bytes_eq q name ≡ true → with_ref map name id q ≡ Some id
unfolding with_ref
with_here map name id q same = ap (λ b. cond b (Some id) (map q)) same

with_other : (map : RefMap) (name : List ℕ) (id : ObjectId) (q : List ℕ) → bytes_eq q name ≡ false → with_ref map name id q ≡ map q
unfolding with_ref
with_other map name id q other = ap (λ b. cond b (Some id) (map q)) other

set_at : (name : List ℕ) (id : ObjectId) (old new : FileMap) → IsInRefs name → loose_refs new ≡ with_ref (loose_refs old) name id → ChangesOnly name old new → (q : List ℕ) → refs new q ≡ with_ref (refs old) name id q
set_at name id old new inside own only q = by (bytes_eq q name) refl
  where
    by : (b : Bool) → bytes_eq q name ≡ b → refs new q ≡ with_ref (refs old) name id q
    by true same =
        let value : loose_refs new q ≡ Some id = ap (λ (m : RefMap). m q) own ∙ with_here (loose_refs old) name id q same in
        refs-loose new q (taken_from_value new q id value) ∙ value ∙ sym (with_here (refs old) name id q same)
    by false other =
        value_same old new q (only.at q other) (ap (λ m. packed_at m q) (packed_stays name old new inside only)) ∙ sym (with_other (refs old) name id q other)

pub refs-set : (name : List ℕ) (id : ObjectId) (old new : FileMap) → IsInRefs name → loose_refs new ≡ with_ref (loose_refs old) name id → ChangesOnly name old new → refs new ≡ with_ref (refs old) name id
refs-set name id old new inside own only i q = set_at name id old new inside own only q i

-- a file that is set is not bad
set_good : (name : List ℕ) (id : ObjectId) (old new : FileMap) → IsInRefs name → loose_refs new ≡ with_ref (loose_refs old) name id → ChangesOnly name old new → (path : List ℕ) → IsBadRef new path → IsBadRef old path
set_good name id old new inside own only path (inr line) = inr (line.0, sym (packed_stays name old new inside only) ∙ line.1)
set_good name id old new inside own only path (inl bad) = by (bytes_eq path name) refl
  where
    nothing : (o : Option ObjectId) → o ≡ None → o ≡ Some id → ⊥
    nothing o none some = cc

    by : (b : Bool) → bytes_eq path name ≡ b → IsBadRef old path
    by true same = absurd (nothing (loose_refs new path) bad.none (ap (λ (m : RefMap). m path) own ∙ with_here (loose_refs old) name id path same))
    by false other =
        let file = only.at path other in
        inl (record { taken = sym (taken_same old new path file) ∙ bad.taken; none = sym (loose-same old new path file) ∙ bad.none })

not_inside : (name : List ℕ) → IsInRefs name → (path : List ℕ) → starts_with nat_eq path (codes "refs/") ≡ false → bytes_eq path name ≡ false
not_inside name inside path outside = false_from_ne_true _ (λ same. true≢false (sym inside ∙ ap (λ n. starts_with nat_eq n (codes "refs/")) (sym ((bytes_eq-Decides path name).0 same)) ∙ outside))

-- and all else is as it was
pub rest_set : (name : List ℕ) (id : ObjectId) (old new : FileMap) → IsInRefs name → loose_refs new ≡ with_ref (loose_refs old) name id → ChangesOnly name old new → KeepsTheRest name old new
rest_set name id old new inside own only = record {
  only = λ path other beside. only.at path other;
  outside = record { at = λ path outside beside. only.at path (not_inside name inside path outside); head = head_of-kept name old new inside only; good = set_good name id old new inside own only };
}

-- a ref that is there is held
pub held_from_ref : (content : FileMap) (q : List ℕ) → is_some (refs content q) ≡ true → is_held content q ≡ true
held_from_ref content q there = by (is_taken content q) refl
  where
    by : (b : Bool) → is_taken content q ≡ b → (is_taken content q || is_some (packed_at (packed_map content) q)) ≡ true
    by true taken = ap (λ b. b || is_some (packed_at (packed_map content) q)) taken
    by false free = ap (λ b. b || is_some (packed_at (packed_map content) q)) free ∙ ap is_some (sym (refs-packed content q free)) ∙ there

-- if nothing is in the way, no ref of the map conflicts
pub refs_free : (content : FileMap) (name : List ℕ) → IsFree content name → (q : List ℕ) → is_some (refs content q) ≡ true → conflicts q name ≡ false
refs_free content name free q there = false_from_ne_true _ (λ conflict. free.none q (record { held = held_from_ref content q there; conflict = conflict }))

pub set_blames_packed : (content : FileMap) (name : List ℕ) (expected : Option ObjectId) (e : RefFault) → BlamesPacked content e → BlamesSet content name expected e
set_blames_packed content name expected (Stale current) h = absurd h
set_blames_packed content name expected (Conflict other) h = absurd h
set_blames_packed content name expected (BadRefFile path) h = inl h
set_blames_packed content name expected HeadLoop h = h
set_blames_packed content name expected (Fault fault) h = tt

pub set_blames_way : (content : FileMap) (name : List ℕ) (expected : Option ObjectId) (e : RefFault) → BlamesObstacle content name e → BlamesSet content name expected e
set_blames_way content name expected (Stale current) h = absurd h
set_blames_way content name expected (Conflict other) h = h
set_blames_way content name expected (BadRefFile path) (inl line) = inl line
set_blames_way content name expected (BadRefFile path) (inr own) = inr (own.0, own.1, inl own.2)
set_blames_way content name expected HeadLoop h = h
set_blames_way content name expected (Fault fault) h = tt

pub set_blames_value : (content : FileMap) (name : List ℕ) (expected : Option ObjectId) → IsFree content name → (e : RefFault) → BlamesRemove content name expected e → BlamesSet content name expected e
set_blames_value content name expected free (Stale current) h = (free, h)
set_blames_value content name expected free (Conflict other) h = absurd h
set_blames_value content name expected free (BadRefFile path) (inl line) = inl line
set_blames_value content name expected free (BadRefFile path) (inr own) = inr (own.0, subst (IsBadLoose content) (sym own.1) own.2, inr (own.1, free))
set_blames_value content name expected free HeadLoop h = h
set_blames_value content name expected free (Fault fault) h = tt

-- ---- removing
without_here : (map : RefMap) (name q : List ℕ) → bytes_eq q name ≡ true → without_ref map name q ≡ None
unfolding without_ref
without_here map name q same = ap (λ b. cond b None (map q)) same

without_other : (map : RefMap) (name q : List ℕ) → bytes_eq q name ≡ false → without_ref map name q ≡ map q
unfolding without_ref
without_other map name q other = ap (λ b. cond b None (map q)) other

-- the packed file is written without the ref
pub unpacked : (old : FileMap) (packed less : PackedMap) (name : List ℕ) → packed_map old ≡ Some packed → less ≡ remove packed name → packed_refs (packed_text less) ≡ Some less → IsUnpacked name old (insert old packed_path (packed_text less))
unpacked old packed less name read is again = record { good = good_packed_file new less now; packed = line; only = only }
  where
    new : FileMap
    new = insert old packed_path (packed_text less)

    there : files.get new packed_path ≡ Some (packed_text less)
    there = get-put old packed_path (packed_text less) packed_path ∙ ap (λ b. cond b (Some (packed_text less)) (files.get old packed_path)) ((bytes_eq-Decides packed_path packed_path).1 refl)

    now : packed_map new ≡ Some less
    now = packed_map-there new (packed_text less) there ∙ again

    less_at : (q : List ℕ) → files.get less q ≡ cond (bytes_eq q name) None (files.get packed q)
    less_at q = ap (λ (m : PackedMap). files.get m q) is ∙ get-remove nat_list_cmp_total packed name q ∙ ap (λ b. cond b None (files.get packed q)) (is_eq-slice_cmp q name)

    by : (q : List ℕ) (b : Bool) → bytes_eq q name ≡ b → cond (bytes_eq q name) None (files.get packed q) ≡ without_ref (packed_at (packed_map old)) name q
    by q true same = ap (λ b. cond b None (files.get packed q)) same ∙ sym (without_here (packed_at (packed_map old)) name q same)
    by q false other = ap (λ b. cond b None (files.get packed q)) other ∙ ap (λ m. packed_at m q) (sym read) ∙ sym (without_other (packed_at (packed_map old)) name q other)

    line : (q : List ℕ) → packed_at (packed_map new) q ≡ without_ref (packed_at (packed_map old)) name q
    line q = ap (λ m. packed_at m q) now ∙ less_at q ∙ by q (bytes_eq q name) refl

    only : ChangesOnly packed_path old new
    only = record { at = λ q other. get-put old packed_path (packed_text less) q ∙ ap (λ b. cond b (Some (packed_text less)) (files.get old q)) other }

-- one that is not packed is taken away by no change
pub unpacked_absent : (old new : FileMap) (packed : PackedMap) (name : List ℕ) → packed_map old ≡ Some packed → is_none (files.get packed name) ≡ true → new ≡ old → IsUnpacked name old new
unpacked_absent old new packed name read none same = subst (λ (m : FileMap). IsUnpacked name old m) (sym same) (record { good = good_packed_file old packed read; packed = λ q. by q (bytes_eq q name) refl; only = record { at = λ q other. refl } })
  where
    no_value : (o : Option ObjectId) → is_none o ≡ true → o ≡ None
    no_value None h = refl
    no_value (Some id) h = absurd (true≢false (sym h))

    by : (q : List ℕ) (b : Bool) → bytes_eq q name ≡ b → packed_at (packed_map old) q ≡ without_ref (packed_at (packed_map old)) name q
    by q true same =
        ap (packed_at (packed_map old)) ((bytes_eq-Decides q name).0 same) ∙ ap (λ m. packed_at m name) read ∙ no_value (files.get packed name) none ∙ sym (without_here (packed_at (packed_map old)) name q same)
    by q false other = sym (without_other (packed_at (packed_map old)) name q other)

module _ (name : List ℕ) (old mid : FileMap) (inside : IsInRefs name) (change : IsUnpacked name old mid) where
  file_same : (q : List ℕ) → bytes_eq q packed_path ≡ false → files.get mid q ≡ files.get old q
  file_same q other = change.only.at q other

  in_refs_other : (q : List ℕ) → is_taken old q ≡ true → bytes_eq q packed_path ≡ false
  in_refs_other q taken = other_than_packed q (taken_inside old q taken)

  taken_stays : (q : List ℕ) → is_taken mid q ≡ is_taken old q
  taken_stays q = by (bytes_eq q packed_path) refl
    where
      by : (b : Bool) → bytes_eq q packed_path ≡ b → is_taken mid q ≡ is_taken old q
      by true same = ap (is_taken mid) ((bytes_eq-Decides q packed_path).0 same) ∙ packed_untaken mid ∙ sym (ap (is_taken old) ((bytes_eq-Decides q packed_path).0 same) ∙ packed_untaken old)
      by false other = taken_same old mid q (file_same q other)

  own_stays : (q : List ℕ) → is_taken old q ≡ true → loose_refs mid q ≡ loose_refs old q
  own_stays q taken = loose-same old mid q (file_same q (in_refs_other q taken))

  -- if the ref has a file of its own, all refs are as before
  pub kept_by_file : is_taken old name ≡ true → refs mid ≡ refs old
  kept_by_file own i q = at q i
    where
      free : (q : List ℕ) → is_taken old q ≡ false → bytes_eq q name ≡ false
      free q untaken = false_from_ne_true _ (λ same. true≢false (sym own ∙ ap (is_taken old) (sym ((bytes_eq-Decides q name).0 same)) ∙ untaken))

      by : (q : List ℕ) (b : Bool) → is_taken old q ≡ b → refs mid q ≡ refs old q
      by q true taken = refs-loose mid q (taken_stays q ∙ taken) ∙ own_stays q taken ∙ sym (refs-loose old q taken)
      by q false untaken =
          refs-packed mid q (taken_stays q ∙ untaken) ∙ change.packed q ∙ without_other (packed_at (packed_map old)) name q (free q untaken) ∙ sym (refs-packed old q untaken)

      at : (q : List ℕ) → refs mid q ≡ refs old q
      at q = by q (is_taken old q) refl

  -- if it has none, it is gone
  pub gone_with_line : is_taken old name ≡ false → refs mid ≡ without_ref (refs old) name
  gone_with_line own i q = at q (bytes_eq q name) refl i
    where
      by : (q : List ℕ) (b : Bool) → is_taken old q ≡ b → bytes_eq q name ≡ false → refs mid q ≡ refs old q
      by q true taken other = refs-loose mid q (taken_stays q ∙ taken) ∙ own_stays q taken ∙ sym (refs-loose old q taken)
      by q false untaken other = refs-packed mid q (taken_stays q ∙ untaken) ∙ change.packed q ∙ without_other (packed_at (packed_map old)) name q other ∙ sym (refs-packed old q untaken)

      at : (q : List ℕ) (b : Bool) → bytes_eq q name ≡ b → refs mid q ≡ without_ref (refs old) name q
      at q true same =
          let untaken : is_taken mid q ≡ false = taken_stays q ∙ ap (is_taken old) ((bytes_eq-Decides q name).0 same) ∙ own in
          refs-packed mid q untaken ∙ change.packed q ∙ without_here (packed_at (packed_map old)) name q same ∙ sym (without_here (refs old) name q same)
      at q false other = by q (is_taken old q) refl other ∙ sym (without_other (refs old) name q other)

  -- its own file goes then
  module _ (new : FileMap) (own : loose_refs new ≡ without_ref (loose_refs mid) name) (gone : IsBadLoose new name → ⊥) (only : ChangesOnly name mid new) where
    untaken_here : is_taken new name ≡ false
    untaken_here = untaken_from_none new name (ap (λ (m : RefMap). m name) own ∙ without_here (loose_refs mid) name name ((bytes_eq-Decides name name).1 refl)) gone

    packed_new : packed_map new ≡ packed_map mid
    packed_new = packed_stays name mid new inside only

    pub gone_with_file : is_taken old name ≡ true → refs new ≡ without_ref (refs old) name
    gone_with_file taken i q = at q (bytes_eq q name) refl i
      where
        at : (q : List ℕ) (b : Bool) → bytes_eq q name ≡ b → refs new q ≡ without_ref (refs old) name q
        at q true same =
            let untaken : is_taken new q ≡ false = ap (is_taken new) ((bytes_eq-Decides q name).0 same) ∙ untaken_here in
            refs-packed new q untaken ∙ ap (λ m. packed_at m q) packed_new ∙ change.packed q ∙ without_here (packed_at (packed_map old)) name q same ∙ sym (without_here (refs old) name q same)
        at q false other =
            value_same mid new q (only.at q other) (ap (λ m. packed_at m q) packed_new) ∙ ap (λ (m : RefMap). m q) (kept_by_file taken) ∙ sym (without_other (refs old) name q other)

    pub good_gone : IsBadRef new (deciding_file new name) → ⊥
    good_gone = good_packed new name untaken_here (λ bad. change.good (sym packed_new ∙ bad))

  pub good_unpacked : is_taken old name ≡ false → IsBadRef mid (deciding_file mid name) → ⊥
  good_unpacked own = good_packed mid name (taken_stays name ∙ own) change.good

  -- all the others stay
  good_mid : (path : List ℕ) → IsBadRef mid path → IsBadRef old path
  good_mid path (inl bad) =
      let taken : is_taken old path ≡ true = sym (taken_stays path) ∙ bad.taken in
      inl (record { taken = taken; none = sym (own_stays path taken) ∙ bad.none })
  good_mid path (inr line) = absurd (change.good line.1)

  pub rest_unpacked : KeepsTheRest name old mid
  rest_unpacked = record {
    only = λ path own other. file_same path other;
    outside = record { at = λ path outside other. file_same path other; head = head_of-same old mid (file_same (codes "HEAD") refl); good = good_mid };
  }

  -- and the packed file says of the others what it said
  pub unpacks_line : UnpacksOnly name old mid
  unpacks_line = record { at = λ q other. change.packed q ∙ without_other (packed_at (packed_map old)) name q other }

  pub unpacks_gone : (new : FileMap) → ChangesOnly name mid new → UnpacksOnly name old new
  unpacks_gone new only = record { at = λ q other. ap (λ m. packed_at m q) (packed_stays name mid new inside only) ∙ change.packed q ∙ without_other (packed_at (packed_map old)) name q other }

  pub rest_gone : (new : FileMap) → ChangesOnly name mid new → (IsBadLoose new name → ⊥) → KeepsTheRest name old new
  rest_gone new only gone = record {
    only = λ path own other. only.at path own ∙ file_same path other;
    outside = record { at = λ path outside other. only.at path (not_inside name inside path outside) ∙ file_same path other; head = head_of-kept name mid new inside only ∙ head_of-same old mid (file_same (codes "HEAD") refl); good = good };
  }
    where
      good : (path : List ℕ) → IsBadRef new path → IsBadRef old path
      good path (inr line) = absurd (change.good (sym (packed_stays name mid new inside only) ∙ line.1))
      good path (inl bad) = by (bytes_eq path name) refl
        where
          by : (b : Bool) → bytes_eq path name ≡ b → IsBadRef old path
          by true same = absurd (gone (subst (IsBadLoose new) ((bytes_eq-Decides path name).0 same) bad))
          by false other =
              let file = only.at path other in
              good_mid path (inl (record { taken = sym (taken_same mid new path file) ∙ bad.taken; none = sym (loose-same mid new path file) ∙ bad.none }))

pub rest_same : (name : List ℕ) (old new : FileMap) → new ≡ old → KeepsTheRest name old new
rest_same name old new same = subst (λ (m : FileMap). KeepsTheRest name old m) (sym same) (record {
  only = λ path own other. refl;
  outside = record { at = λ path outside other. refl; head = refl; good = λ path bad. bad };
})

pub only_same : (path : List ℕ) (old new : FileMap) → new ≡ old → ChangesOnly path old new
only_same path old new same = subst (λ (m : FileMap). ChangesOnly path old m) (sym same) (record { at = λ q other. refl })

pub unpacks_same : (name : List ℕ) (old new : FileMap) → new ≡ old → UnpacksOnly name old new
unpacks_same name old new same = subst (λ (m : FileMap). UnpacksOnly name old m) (sym same) (record { at = λ q other. refl })

pub good_allowed : (content : FileMap) (name : List ℕ) → IsGoodPackedFile content → (IsBadLoose content name → ⊥) → IsBadRef content (deciding_file content name) → ⊥
good_allowed content name line own = by (is_taken content name) refl
  where
    by : (b : Bool) → is_taken content name ≡ b → IsBadRef content (deciding_file content name) → ⊥
    by true taken = good_loose content name taken own
    by false free = good_packed content name free line
