-- What the packed file and the loose files over it stand for, and what a change of one of them does to it.
use Rattle.std.proofs.Common.{◌≡◌, ℕ, Bool, true, false, cond, ◌&&◌, ◌⊎◌, inl, inr, true≢false, nat_eq, List, Option, Some, None, sym, ap, refl, ◌∙◌, subst}
use Rattle.std.specs.Prelude.{bytes_eq, codes, is_some, option_and_then}
use Rattle.std.specs.List.{starts_with}
use Rattle.std.specs.Option.{option_or}
use Rattle.std.specs.FinMap.{empty}
use Rattle.std.specs.Str.{is_utf8}
use Rattle.std.specs.FinMap as files
use Rattle.std.proofs.lemmas.Bool.{and_parts, false_from_ne_true}
use Rattle.std.proofs.lemmas.Slice.Eq.{bytes_eq-Decides}
use Rattle.vc_files.specs.FileMap.{FileMap}
use Rattle.vc_lemmas.proofs.Texts.{split_from_starts}
use Rattle.vc_object.proofs.IdLemmas.{IsId-from_is_id}
use Rattle.vc_object.specs.Lines.{IsId}
use Rattle.vc_object.specs.ObjectId.{is_id}
use Rattle.vc_object.specs.declared.id.ObjectId.{ObjectId}
use Rattle.vc_refs.specs.RefFault.{BlamesPacked, BlamesRemove}
use Rattle.vc_refs.specs.Refs.{deciding_file, is_taken, loose_refs, packed_at, packed_in, packed_map, packed_path, refs, ChangesOnly, IsBadLoose, IsBadRef, IsGoodPackedFile}
use Rattle.vc_refs.specs.Packed.{PackedMap, IsPackedMap, is_packed_name, packed_refs}
use Rattle.vc_refs.specs.RefFile.{id_in}
use Rattle.vc_refs.specs.RefMap.{IsInRefs, IsRefMap, is_ref}
use Rattle.vc_refs.specs.declared.faults.RefFault.{RefFault}
use Rattle.vc_refs.specs.declared.faults.RefFault.TheVariants.{Stale, Conflict, BadRefFile, HeadLoop, Fault}
use Rattle.vc_refs.proofs.ApartLemmas.{empty-IsRefMap}
use Rattle.vc_refs.proofs.PackedLaws.{id_in-valid, packed_entry, packed_refs-IsRefMap, packed_refs-valid}
use Rattle.vc_refs.proofs.PackedLemmas.{empty-IsPackedMap}
use Rattle.vc_refs.proofs.RefsLemmas.{loose-at, loose-same, loose_absent, loose_legal, taken_from_ref}

-- ---- the packed file
pub packed_map-absent : (content : FileMap) → files.get content packed_path ≡ None → packed_map content ≡ Some empty
unfolding packed_map
packed_map-absent content none = ap packed_in none

pub packed_map-there : (content : FileMap) (text : List ℕ) → files.get content packed_path ≡ Some text → packed_map content ≡ packed_refs text
unfolding packed_map
packed_map-there content text there = ap packed_in there

pub packed_map-same : (old new : FileMap) → files.get new packed_path ≡ files.get old packed_path → packed_map new ≡ packed_map old
unfolding packed_map
packed_map-same old new same = ap packed_in same

-- one that was read is good
pub good_packed_file : (content : FileMap) (packed : PackedMap) → packed_map content ≡ Some packed → IsGoodPackedFile content
good_packed_file content packed is bad = nothing packed (sym bad ∙ is)
  where
    nothing : (m : PackedMap) → None ≡ Some m → ⊥
    nothing m e = cc e

-- ---- what decides
pub refs-loose : (content : FileMap) (name : List ℕ) → is_taken content name ≡ true → refs content name ≡ loose_refs content name
unfolding refs
refs-loose content name taken = ap (λ b. cond b (loose_refs content name) (packed_at (packed_map content) name)) taken

pub refs-packed : (content : FileMap) (name : List ℕ) → is_taken content name ≡ false → refs content name ≡ packed_at (packed_map content) name
unfolding refs
refs-packed content name free = ap (λ b. cond b (loose_refs content name) (packed_at (packed_map content) name)) free

-- a value that its own file says
pub taken_from_value : (content : FileMap) (name : List ℕ) (id : ObjectId) → loose_refs content name ≡ Some id → is_taken content name ≡ true
taken_from_value content name id is = taken_from_ref content name (ap is_some is)

-- none, if that file isn't bad: so it isn't there
pub untaken_from_none : (content : FileMap) (name : List ℕ) → loose_refs content name ≡ None → (IsBadLoose content name → ⊥) → is_taken content name ≡ false
untaken_from_none content name none good = false_from_ne_true _ (λ taken. good (record { taken = taken; none = none }))

packed_outside : starts_with nat_eq packed_path (codes "refs/") ≡ false
packed_outside = refl

-- the packed file is no file in `refs/`
pub packed_untaken : (content : FileMap) → is_taken content packed_path ≡ false
packed_untaken content = refl

pub other_than_packed : (name : List ℕ) → IsInRefs name → bytes_eq name packed_path ≡ false
other_than_packed name inside = false_from_ne_true _ (λ same.
    let in_refs : starts_with nat_eq packed_path (codes "refs/") ≡ true = ap (λ n. starts_with nat_eq n (codes "refs/")) (sym ((bytes_eq-Decides name packed_path).0 same)) ∙ inside in
    true≢false (sym in_refs ∙ packed_outside))

not_packed_path : (name : List ℕ) → IsInRefs name → name ≡ packed_path → ⊥
not_packed_path name inside same = true≢false (sym inside ∙ ap (λ n. starts_with nat_eq n (codes "refs/")) same ∙ packed_outside)

pub taken_inside : (content : FileMap) (name : List ℕ) → is_taken content name ≡ true → IsInRefs name
taken_inside content name taken = (and_parts (starts_with nat_eq name (codes "refs/")) (is_some (files.get content name)) taken).0

pub decides-loose : (content : FileMap) (name : List ℕ) → is_taken content name ≡ true → deciding_file content name ≡ name
decides-loose content name taken = ap (λ b. cond b name packed_path) taken

pub decides-packed : (content : FileMap) (name : List ℕ) → is_taken content name ≡ false → deciding_file content name ≡ packed_path
decides-packed content name free = ap (λ b. cond b name packed_path) free

-- a good one that decides
pub good_loose : (content : FileMap) (name : List ℕ) → is_taken content name ≡ true → (IsBadLoose content name → ⊥) → IsBadRef content (deciding_file content name) → ⊥
good_loose content name taken good bad = elim (subst (IsBadRef content) (decides-loose content name taken) bad) [
  | inl own ↦ good own
  | inr packed ↦ not_packed_path name (taken_inside content name taken) packed.0
]

pub good_packed : (content : FileMap) (name : List ℕ) → is_taken content name ≡ false → IsGoodPackedFile content → IsBadRef content (deciding_file content name) → ⊥
good_packed content name free good bad = elim (subst (IsBadRef content) (decides-packed content name free) bad) [
  | inl own ↦ true≢false (sym own.taken ∙ packed_untaken content)
  | inr packed ↦ good packed.1
]

-- what one file leaves alone at another path
pub taken_same : (old new : FileMap) (q : List ℕ) → files.get new q ≡ files.get old q → is_taken new q ≡ is_taken old q
taken_same old new q same = ap (λ o. starts_with nat_eq q (codes "refs/") && is_some o) same

pub value_same : (old new : FileMap) (q : List ℕ) → files.get new q ≡ files.get old q → packed_at (packed_map new) q ≡ packed_at (packed_map old) q → refs new q ≡ refs old q
value_same old new q file line = by (is_taken new q) refl
  where
    by : (b : Bool) → is_taken new q ≡ b → refs new q ≡ refs old q
    by true taken = refs-loose new q taken ∙ loose-same old new q file ∙ sym (refs-loose old q (sym (taken_same old new q file) ∙ taken))
    by false free = refs-packed new q free ∙ line ∙ sym (refs-packed old q (sym (taken_same old new q file) ∙ free))

-- a file outside `refs/` is none of them
untaken_outside : (content : FileMap) (q : List ℕ) → starts_with nat_eq q (codes "refs/") ≡ false → is_taken content q ≡ false
untaken_outside content q outside = ap (λ b. b && is_some (files.get content q)) outside

-- what stands at a name depends on its file and on the packed one
pub refs-same : (old new : FileMap) (q : List ℕ) → files.get new q ≡ files.get old q → files.get new packed_path ≡ files.get old packed_path → refs new q ≡ refs old q
refs-same old new q file packed = value_same old new q file (ap (λ m. packed_at m q) (packed_map-same old new packed))

-- if the files in `refs/` and the packed one are as before, the refs are
pub refs-of_files : (old new : FileMap) → ((q : List ℕ) → IsInRefs q → files.get new q ≡ files.get old q) → files.get new packed_path ≡ files.get old packed_path → refs new ≡ refs old
refs-of_files old new own packed i q = at q (starts_with nat_eq q (codes "refs/")) refl i
  where
    at : (q : List ℕ) (b : Bool) → starts_with nat_eq q (codes "refs/") ≡ b → refs new q ≡ refs old q
    at q true inside = refs-same old new q (own q inside) packed
    at q false outside =
        refs-packed new q (untaken_outside new q outside) ∙ ap (λ m. packed_at m q) (packed_map-same old new packed) ∙ sym (refs-packed old q (untaken_outside old q outside))

-- a file is bad by itself alone
pub bad-same : (old new : FileMap) (path : List ℕ) → files.get new path ≡ files.get old path → IsBadRef new path → IsBadRef old path
bad-same old new path file (inl own) = inl (record { taken = sym (taken_same old new path file) ∙ own.taken; none = sym (loose-same old new path file) ∙ own.none })
bad-same old new path file (inr line) = inr (line.0, sym (packed_map-same old new (subst (λ (p : List ℕ). files.get new p ≡ files.get old p) line.0 file)) ∙ line.1)

-- and lies in `refs/`, or is the packed one
pub bad_place : (content : FileMap) (path : List ℕ) → IsBadRef content path → IsInRefs path ⊎ (path ≡ packed_path)
bad_place content path (inl own) = inl (taken_inside content path own.taken)
bad_place content path (inr line) = inr line.0

-- one that isn't there is not bad
pub good_absent : (content : FileMap) (path : List ℕ) → files.get content path ≡ None → IsBadRef content path → ⊥
good_absent content path none (inl own) = loose_absent content path none own
good_absent content path none (inr line) = good_packed_file content empty (packed_map-absent content (subst (λ (p : List ℕ). files.get content p ≡ None) line.0 none)) line.1

-- so they are after a change of HEAD
pub refs-kept_head : (old new : FileMap) → ChangesOnly (codes "HEAD") old new → refs new ≡ refs old
refs-kept_head old new only = refs-of_files old new (λ q inside. only.at q (ap (λ n. bytes_eq n (codes "HEAD")) (split_from_starts q (codes "refs/") inside))) (only.at packed_path refl)

-- ---- a ref that is there
-- what stands at a name is what its own file spells, or it is packed
pub value_cases : (content : FileMap) (name : List ℕ) (id : ObjectId) → refs content name ≡ Some id → (loose_refs content name ≡ Some id) ⊎ (packed_at (packed_map content) name ≡ Some id)
value_cases content name id is = by (is_taken content name) refl
  where
    by : (b : Bool) → is_taken content name ≡ b → (loose_refs content name ≡ Some id) ⊎ (packed_at (packed_map content) name ≡ Some id)
    by true taken = inl (sym (refs-loose content name taken) ∙ is)
    by false free = inr (sym (refs-packed content name free) ∙ is)

packed_map-valid : (content : FileMap) (packed : PackedMap) → packed_map content ≡ Some packed → IsPackedMap packed
unfolding packed_map
packed_map-valid content packed is = by (files.get content packed_path) is
  where
    by : (found : Option (List ℕ)) → packed_in found ≡ Some packed → IsPackedMap packed
    by None e = let none : empty ≡ packed = cc e in subst IsPackedMap none empty-IsPackedMap
    by (Some text) e = packed_refs-valid text packed e

-- its names are those of a map of refs
pub packed_map-IsRefMap : (content : FileMap) (packed : PackedMap) → packed_map content ≡ Some packed → IsRefMap (files.get packed)
unfolding packed_map
packed_map-IsRefMap content packed is = by (files.get content packed_path) is
  where
    by : (found : Option (List ℕ)) → packed_in found ≡ Some packed → IsRefMap (files.get packed)
    by None e = let none : empty ≡ packed = cc e in subst (λ (m : PackedMap). IsRefMap (files.get m)) none empty-IsRefMap
    by (Some text) e = packed_refs-IsRefMap text packed e

-- a packed one has a legal name and a whole id
pub packed_parts : (content : FileMap) (name : List ℕ) (id : ObjectId) → packed_at (packed_map content) name ≡ Some id → (is_packed_name name ≡ true) × (is_id id ≡ true)
packed_parts content name id is = by (packed_map content) refl is
  where
    by : (m : Option PackedMap) → packed_map content ≡ m → packed_at m name ≡ Some id → (is_packed_name name ≡ true) × (is_id id ≡ true)
    by None read e = absurd (cc e)
    by (Some packed) read e = packed_entry packed name id (packed_map-valid content packed read) e

-- one that has a value has a ref's name
pub ref_legal : (content : FileMap) (name : List ℕ) (id : ObjectId) → refs content name ≡ Some id → is_ref name ≡ true
ref_legal content name id is = elim (value_cases content name id is) [
  | inl own ↦ loose_legal content name id own
  | inr line ↦ (and_parts (is_utf8 name) (is_ref name) (packed_parts content name id line).0).1
]

-- its id is whole
pub ref_whole : (content : FileMap) (name : List ℕ) (id : ObjectId) → refs content name ≡ Some id → IsId id
ref_whole content name id is = IsId-from_is_id id (elim (value_cases content name id is) [
  | inl own ↦ by (files.get content name) (sym (loose-at content name (loose_legal content name id own)) ∙ own)
  | inr line ↦ (packed_parts content name id line).1
])
  where
    by : (found : Option (List ℕ)) → option_and_then id_in found ≡ Some id → is_id id ≡ true
    by None e = absurd (cc e)
    by (Some text) e = id_in-valid text id e

-- ---- the value over packed refs that were read
pub value_over : (content : FileMap) (name : List ℕ) (packed : PackedMap) (own : Option ObjectId) → packed_map content ≡ Some packed → own ≡ loose_refs content name → (IsBadLoose content name → ⊥) → refs content name ≡ option_or own (files.get packed name)
value_over content name packed (Some id) read is good = refs-loose content name (taken_from_value content name id (sym is)) ∙ sym is
value_over content name packed None read is good = refs-packed content name (untaken_from_none content name (sym is) good) ∙ ap (λ m. packed_at m name) read

pub own_taken : (content : FileMap) (name : List ℕ) (own : Option ObjectId) → own ≡ loose_refs content name → (IsBadLoose content name → ⊥) → is_some own ≡ is_taken content name
own_taken content name (Some id) is good = sym (taken_from_value content name id (sym is))
own_taken content name None is good = sym (untaken_from_none content name (sym is) good)

-- a refusal of the packed file
pub remove_blames_packed : (content : FileMap) (name : List ℕ) (expected : Option ObjectId) (e : RefFault) → BlamesPacked content e → BlamesRemove content name expected e
remove_blames_packed content name expected (Stale current) h = absurd h
remove_blames_packed content name expected (Conflict other) h = h
remove_blames_packed content name expected (BadRefFile path) h = inl h
remove_blames_packed content name expected HeadLoop h = h
remove_blames_packed content name expected (Fault fault) h = tt
