-- What a change of one file does to the refs.
use Rattle.std.proofs.Common.{◌≡◌, ℕ, Bool, true, false, cond, ◌||◌, ◌⊎◌, inl, inr, nat_eq, List, Option, Some, None, is_none, sym, ap, refl, ◌∙◌}
use Rattle.std.specs.Prelude.{bytes_eq, codes, option_map, option_and_then, is_some, unwrap_or}
use Rattle.std.specs.List.{starts_with}
use Rattle.std.specs.FinMap as files
use Rattle.std.proofs.lemmas.Slice.Eq.{bytes_eq-Decides}
use Rattle.std.proofs.lemmas.Bool.{and_parts, and_from, false_from_ne_true}
use Rattle.vc_files.specs.FileMap.{FileMap, SameOutside}
use Rattle.vc_files.proofs.FileMapLemmas.{get-put, get-unput}
use Rattle.vc_files.specs.Path.{is_above}
use Rattle.vc_lemmas.proofs.Texts.{bytes_eq_same}
use Rattle.vc_object.specs.declared.id.ObjectId.{ObjectId}
use Rattle.vc_object.specs.ObjectId.{is_id}
use Rattle.vc_refname.specs.RefName.{IsRefName, is_ref_name}
use Rattle.vc_refname.proofs.BrokenRules.{is_ref_name-from_legal}
use Rattle.vc_refs.specs.RefFile.{id_in, id_text}
use Rattle.vc_refs.specs.RefMap.{RefMap, IsRefMap, IsInRefs, is_ref, conflicts, entry_at, with_ref, without_ref}
use Rattle.vc_refs.specs.Refs.{is_taken, loose_refs, ChangesOnly, IsBadLoose}
use Rattle.vc_refs.proofs.RefFileLemmas.{id_in-id_text}

-- a legal name in `refs/` is a ref's
pub is_ref-from_legal : (name : List ℕ) → IsRefName name → IsInRefs name → is_ref name ≡ true
is_ref-from_legal name legal inside = and_from (is_ref_name name) (starts_with nat_eq name (codes "refs/")) (is_ref_name-from_legal name legal) inside

-- at a ref's name stands what its file says
pub loose-at : (content : FileMap) (name : List ℕ) → is_ref name ≡ true → loose_refs content name ≡ option_and_then id_in (files.get content name)
unfolding loose_refs
loose-at content name legal = ap (λ b. cond b (option_and_then id_in (files.get content name)) None) legal

-- what stands at a name depends on its file alone
pub loose-same : (old new : FileMap) (q : List ℕ) → files.get new q ≡ files.get old q → loose_refs new q ≡ loose_refs old q
unfolding loose_refs
loose-same old new q same = ap (λ found. cond (is_ref q) (option_and_then id_in found) None) same

set_at : (content : FileMap) (name : List ℕ) (id : ObjectId) → is_ref name ≡ true → is_id id ≡ true
    → (q : List ℕ) → loose_refs (files.insert content name (id_text id)) q ≡ with_ref (loose_refs content) name id q
unfolding with_ref
set_at content name id legal valid q =
    let new : FileMap = files.insert content name (id_text id) in
    elim (bytes_eq q name) as (λ b. bytes_eq q name ≡ b → loose_refs new q ≡ cond b (Some id) (loose_refs content q)) [
      | true ↦ λ same.
          ap (loose_refs new) ((bytes_eq-Decides q name).0 same)
          ∙ loose-at new name legal
          ∙ ap (option_and_then id_in) (get-put content name (id_text id) name ∙ ap (λ b. cond b (Some (id_text id)) (files.get content name)) (bytes_eq_same name))
          ∙ id_in-id_text id valid
      | false ↦ λ other. loose-same content new q (get-put content name (id_text id) q ∙ ap (λ b. cond b (Some (id_text id)) (files.get content q)) other)
    ] refl

-- a ref's file that is written sets the ref
pub loose-put : (content : FileMap) (name : List ℕ) (id : ObjectId) → is_ref name ≡ true → is_id id ≡ true → loose_refs (files.insert content name (id_text id)) ≡ with_ref (loose_refs content) name id
loose-put content name id legal valid i q = set_at content name id legal valid q i

removed_at : (content : FileMap) (name : List ℕ) → is_ref name ≡ true → (q : List ℕ) → loose_refs (files.remove content name) q ≡ without_ref (loose_refs content) name q
unfolding without_ref
removed_at content name legal q =
    let new : FileMap = files.remove content name in
    elim (bytes_eq q name) as (λ b. bytes_eq q name ≡ b → loose_refs new q ≡ cond b None (loose_refs content q)) [
      | true ↦ λ same.
          ap (loose_refs new) ((bytes_eq-Decides q name).0 same)
          ∙ loose-at new name legal
          ∙ ap (option_and_then id_in) (get-unput content name name ∙ ap (λ b. cond b None (files.get content name)) (bytes_eq_same name))
      | false ↦ λ other. loose-same content new q (get-unput content name q ∙ ap (λ b. cond b None (files.get content q)) other)
    ] refl

-- a ref's file that is removed removes the ref
pub loose-unput : (content : FileMap) (name : List ℕ) → is_ref name ≡ true → loose_refs (files.remove content name) ≡ without_ref (loose_refs content) name
loose-unput content name legal i q = removed_at content name legal q i

-- a write and a removal change one file
pub only_put : (content : FileMap) (path bytes : List ℕ) → ChangesOnly path content (files.insert content path bytes)
only_put content path bytes = record { at = λ q other. get-put content path bytes q ∙ ap (λ b. cond b (Some bytes) (files.get content q)) other }

pub only_unput : (content : FileMap) (path : List ℕ) → ChangesOnly path content (files.remove content path)
only_unput content path = record { at = λ q other. get-unput content path q ∙ ap (λ b. cond b None (files.get content q)) other }

-- what changes one file under a prefix leaves what is outside
pub outside_from_only : {path : List ℕ} {old new : FileMap} (prefix : List ℕ) → ChangesOnly path old new → starts_with nat_eq path prefix ≡ true → SameOutside prefix old new
outside_from_only {path = path} prefix only under = record {
  at = λ q outside. only.at q (false_from_ne_true _ (λ same.
      let inside : starts_with nat_eq q prefix ≡ true = ap (λ p. starts_with nat_eq p prefix) ((bytes_eq-Decides q path).0 same) ∙ under in
      cc));
}

-- a ref whose file is absent isn't there, and its file isn't bad
pub loose-absent : (content : FileMap) (name : List ℕ) → files.get content name ≡ None → loose_refs content name ≡ None
unfolding loose_refs
loose-absent content name none = elim (is_ref name) as (λ b. cond b (option_and_then id_in (files.get content name)) None ≡ None) [
  | true ↦ ap (option_and_then id_in) none
  | false ↦ refl
]

pub get-unput_here : (content : FileMap) (name : List ℕ) → files.get (files.remove content name) name ≡ None
get-unput_here content name = get-unput content name name ∙ ap (λ b. cond b None (files.get content name)) ((bytes_eq-Decides name name).1 refl)

pub loose_absent : (content : FileMap) (name : List ℕ) → files.get content name ≡ None → IsBadLoose content name → ⊥
loose_absent content name none bad =
    let there : is_some (files.get content name) ≡ true = (and_parts (starts_with nat_eq name (codes "refs/")) (is_some (files.get content name)) bad.taken).1 in
    let absent : is_some (files.get content name) ≡ false = ap is_some none in
    cc

-- what its file spells is the ref's value
pub loose-there : (content : FileMap) (name text : List ℕ) → is_ref name ≡ true → files.get content name ≡ Some text → loose_refs content name ≡ id_in text
loose-there content name text legal there = loose-at content name legal ∙ ap (option_and_then id_in) there

-- one that has a value has a ref's name
pub loose_legal : (content : FileMap) (name : List ℕ) (id : ObjectId) → loose_refs content name ≡ Some id → is_ref name ≡ true
unfolding loose_refs
loose_legal content name id = by (is_ref name) refl
  where
    by : (b : Bool) → is_ref name ≡ b → cond b (option_and_then id_in (files.get content name)) None ≡ Some id → is_ref name ≡ true
    by true e there = e
    by false e there = cc

-- one that has a value isn't bad
pub loose_good : (content : FileMap) (name : List ℕ) (id : ObjectId) → loose_refs content name ≡ Some id → IsBadLoose content name → ⊥
loose_good content name id there bad = let none : loose_refs content name ≡ None = bad.none in cc

-- a file that spells no id is bad
pub bad_there : (content : FileMap) (name text : List ℕ) → is_ref name ≡ true → files.get content name ≡ Some text → id_in text ≡ None → IsBadLoose content name
bad_there content name text legal there none = record {
  taken = and_from (starts_with nat_eq name (codes "refs/")) (is_some (files.get content name)) (and_parts (is_ref_name name) (starts_with nat_eq name (codes "refs/")) legal).1 (ap is_some there);
  none = loose-there content name text legal there ∙ none;
}

-- a ref that is set keeps the map free of conflicts, if nothing of the map conflicts with it
pub IsRefMap-with_ref : (refs : RefMap) (name : List ℕ) (id : ObjectId) → is_ref name ≡ true → ((q : List ℕ) → is_some (refs q) ≡ true → conflicts q name ≡ false) → conflicts name name ≡ false
    → IsRefMap refs → IsRefMap (with_ref refs name id)
unfolding with_ref
IsRefMap-with_ref refs name id legal free itself map = record { legal = names; apart = apart }
  where
    at : (q : List ℕ) → is_some (cond (bytes_eq q name) (Some id) (refs q)) ≡ true → (q ≡ name) ⊎ (is_some (refs q) ≡ true)
    at q h = elim (bytes_eq q name) as (λ b. bytes_eq q name ≡ b → is_some (cond b (Some id) (refs q)) ≡ true → (q ≡ name) ⊎ (is_some (refs q) ≡ true)) [
      | true ↦ λ same _. inl ((bytes_eq-Decides q name).0 same)
      | false ↦ λ _ there. inr there
    ] refl h

    names : (q : List ℕ) → is_some (cond (bytes_eq q name) (Some id) (refs q)) ≡ true → is_ref q ≡ true
    names q h = elim (at q h) [
      | inl same ↦ ap is_ref same ∙ legal
      | inr there ↦ map.legal q there
    ]

    or_swap : (x y : Bool) → (x || y) ≡ (y || x)
    or_swap true true = refl
    or_swap true false = refl
    or_swap false true = refl
    or_swap false false = refl

    conflicts-swap : (a b : List ℕ) → conflicts a b ≡ conflicts b a
    conflicts-swap a b = or_swap (is_above a b) (is_above b a)

    apart : (a b : List ℕ) → is_some (cond (bytes_eq a name) (Some id) (refs a)) ≡ true → is_some (cond (bytes_eq b name) (Some id) (refs b)) ≡ true → conflicts a b ≡ false
    apart a b p q = elim (at a p) [
      | inl first ↦ elim (at b q) [
        | inl second ↦ ap (λ n. conflicts n b) first ∙ ap (λ n. conflicts name n) second ∙ itself
        | inr there ↦ ap (λ n. conflicts n b) first ∙ conflicts-swap name b ∙ free b there
      ]
      | inr here ↦ elim (at b q) [
        | inl second ↦ ap (λ n. conflicts a n) second ∙ free a here
        | inr there ↦ map.apart a b here there
      ]
    ]

pub IsRefMap-without_ref : (refs : RefMap) (name : List ℕ) → IsRefMap refs → IsRefMap (without_ref refs name)
unfolding without_ref
IsRefMap-without_ref refs name map = record { legal = λ q h. map.legal q (at q h); apart = λ a b p q. map.apart a b (at a p) (at b q) }
  where
    at : (q : List ℕ) → is_some (cond (bytes_eq q name) None (refs q)) ≡ true → is_some (refs q) ≡ true
    at q h = elim (bytes_eq q name) as (λ b. is_some (cond b None (refs q)) ≡ true → is_some (refs q) ≡ true) [
      | true ↦ λ none. cc
      | false ↦ λ there. there
    ] h

-- at what is no ref's name stands nothing
pub loose-none : (content : FileMap) (q : List ℕ) → is_ref q ≡ false → loose_refs content q ≡ None
unfolding loose_refs
loose-none content q other = ap (λ b. cond b (option_and_then id_in (files.get content q)) None) other

-- a ref that is there has a file
ref_taken : (b : Bool) (file : Option (List ℕ)) → is_some (cond b (option_and_then id_in file) None) ≡ true → (b ≡ true) × (is_some file ≡ true)
ref_taken true (Some text) h = (refl, refl)
ref_taken true None h = cc
ref_taken false file h = cc

pub taken_from_ref : (content : FileMap) (q : List ℕ) → is_some (loose_refs content q) ≡ true → is_taken content q ≡ true
unfolding loose_refs
taken_from_ref content q h =
    let parts = ref_taken (is_ref q) (files.get content q) h in
    and_from (starts_with nat_eq q (codes "refs/")) (is_some (files.get content q)) (and_parts (is_ref_name q) (starts_with nat_eq q (codes "refs/")) parts.0).1 parts.1

-- what one look at a path gave
pub entry_parts : (map : RefMap) (path name : List ℕ) (id : ObjectId) → ◌≡◌ {A = Option (List ℕ × ObjectId)} (Some (name, id)) (entry_at map path) → (name ≡ path) × (map path ≡ Some id)
entry_parts map path name id = by (map path)
  where
    by : (o : Option ObjectId) → ◌≡◌ {A = Option (List ℕ × ObjectId)} (Some (name, id)) (option_map (λ id. (path, id)) o) → (name ≡ path) × (o ≡ Some id)
    by (Some x) e = let pair : ◌≡◌ {A = List ℕ × ObjectId} (name, id) (path, x) = ap (λ (o : Option (List ℕ × ObjectId)). unwrap_or o (path, x)) e in (ap (λ (p : List ℕ × ObjectId). p.0) pair, ap (λ (p : List ℕ × ObjectId). Some p.1) (sym pair))
    by None e = cc

pub no_entry : (map : RefMap) (path : List ℕ) → ◌≡◌ {A = Option (List ℕ × ObjectId)} None (entry_at map path) → map path ≡ None
no_entry map path = by (map path)
  where
    by : (o : Option ObjectId) → ◌≡◌ {A = Option (List ℕ × ObjectId)} None (option_map (λ id. (path, id)) o) → o ≡ None
    by (Some x) e = cc
    by None e = refl

-- a file that stands for no ref is bad
pub bad_from_none : (content : FileMap) (q : List ℕ) → is_taken content q ≡ true → loose_refs content q ≡ None → IsBadLoose content q
bad_from_none content q is none = record { taken = is; none = none }

without_at : (map : RefMap) (name : List ℕ) → map name ≡ None → (q : List ℕ) → map q ≡ without_ref map name q
unfolding without_ref
without_at map name none q = elim (bytes_eq q name) as (λ b. bytes_eq q name ≡ b → map q ≡ cond b None (map q)) [
  | true ↦ λ same. ap map ((bytes_eq-Decides q name).0 same) ∙ none
  | false ↦ λ _. refl
] refl

-- a ref that isn't there is removed by no change
pub refs-without_absent : (map : RefMap) (name : List ℕ) → map name ≡ None → map ≡ without_ref map name
refs-without_absent map name none i q = without_at map name none q i

no_value : {A : Type 0} (o : Option A) → is_none o ≡ true → o ≡ None
no_value None h = refl
no_value (Some x) h = cc

pub absent_from_expected : (map : RefMap) (name : List ℕ) (expected : Option ObjectId) → map name ≡ expected → is_none expected ≡ true → map name ≡ None
absent_from_expected map name expected is none = is ∙ no_value expected none
