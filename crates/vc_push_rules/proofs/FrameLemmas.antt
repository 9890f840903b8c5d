-- What a change of one part of a repository's files leaves of the others: for the steps of a push, and for those who run them.
use Rattle.std.proofs.Common.{arith, ◌≡◌, ℕ, ◌<◌, true, false, cond, nat_eq, List, ◌∷◌, ◌++◌, None, take, drop, ◌^◌, sym, ap, refl, ◌∙◌, subst, []}
use Rattle.std.specs.Prelude.{◌≢◌, codes, decimal}
use Rattle.std.specs.FinMap as files
use Rattle.std.specs.List.{starts_with}
use Rattle.std.specs.Result.{result_ok}
use Rattle.std.specs.Str.Parse.{AllDigits}
use Rattle.std.proofs.lemmas.Bool.{and_parts, eqb-true, false_from_ne_true}
use Rattle.std.proofs.lemmas.Fmt.{decimal_injective, decimal_is_IsNumeral}
use Rattle.hex.specs.Hex.{encode_lower}
use Rattle.vc_files.specs.FileMap.{FileMap, SameOutside}
use Rattle.vc_lemmas.proofs.Texts.{starts_with-append, split_from_starts}
use Rattle.vc_object.specs.ObjectId.{is_id}
use Rattle.vc_object.specs.declared.id.ObjectId.{ObjectId}
use Rattle.vc_refs.proofs.LayeredLemmas.{refs-of_files}
use Rattle.vc_refs.specs.Head.{KeepsOutside, KeepsTheRest}
use Rattle.vc_refs.specs.Refs.{packed_path, refs}
use Rattle.vc_object_map.specs.Store.{IsDamaged, object_path, objects, stored_in}
use Rattle.vc_push_rules.proofs.QuarantineLemmas.{quarantined-none, same_at}
use Rattle.vc_push_rules.specs.Quarantine.{IsDropped, quarantine_folder, quarantine_path, quarantined}

-- ---- what each part is read from
-- an object, from its file
pub objects-same : (old new : FileMap) (id : ObjectId) → files.get new (object_path id.0) ≡ files.get old (object_path id.0) → objects new id ≡ objects old id
unfolding objects
objects-same old new id same = ap (λ found. cond (is_id id) (result_ok (stored_in id found)) None) same

pub damage-same : (old new : FileMap) (id : ObjectId) → files.get new (object_path id.0) ≡ files.get old (object_path id.0) → IsDamaged new id → IsDamaged old id
damage-same old new id same damaged = ap (stored_in id) (sym same) ∙ damaged

-- the refs, from the files in `refs/` and the packed one
pub refs-kept : (old new : FileMap) → ((q : List ℕ) → starts_with nat_eq q (codes "refs/") ≡ true → files.get new q ≡ files.get old q) → files.get new packed_path ≡ files.get old packed_path → refs new ≡ refs old
refs-kept old new same packed = refs-of_files old new same packed

-- ---- the folders are apart
no_slash : (y : ℕ) (ds : List ℕ) → y ≡ 47 → AllDigits 10 (y ∷ ds) → ⊥
no_slash y ds is digits = let slash = subst (λ n. AllDigits 10 (n ∷ ds)) is digits in omega (arith, slash.0)

-- digits up to a slash are those of one number
parted : (a b rest : List ℕ) → AllDigits 10 a → AllDigits 10 b → starts_with nat_eq ((a ++ 47 ∷ []) ++ rest) (b ++ 47 ∷ []) ≡ true → a ≡ b
parted [] [] rest p q h = refl
parted [] (y ∷ b) rest p q h = absurd (no_slash y b (eqb-true y 47 (and_parts (nat_eq y 47) (starts_with nat_eq rest (b ++ 47 ∷ [])) h).0) q)
parted (x ∷ a) [] rest p q h = absurd (no_slash x a (sym (eqb-true 47 x (and_parts (nat_eq 47 x) (starts_with nat_eq ((a ++ 47 ∷ []) ++ rest) []) h).0)) p)
parted (x ∷ a) (y ∷ b) rest p q h =
    let parts = and_parts (nat_eq y x) (starts_with nat_eq ((a ++ 47 ∷ []) ++ rest) (b ++ 47 ∷ [])) h in
    ap (λ z. z ∷ a) (sym (eqb-true y x parts.0)) ∙ ap (λ ds. y ∷ ds) (parted a b rest p.1 q.1 parts.1)

-- a path in a slot's folder is of that slot
pub slot_of : (slot other : ℕ) (rest : List ℕ) → slot < 2 ^ 64 → other < 2 ^ 64 → starts_with nat_eq (quarantine_folder other ++ rest) (quarantine_folder slot) ≡ true → other ≡ slot
slot_of slot other rest small fits h =
    decimal_injective other slot fits small (parted (decimal other) (decimal slot) rest (decimal_is_IsNumeral other fits).0.1 (decimal_is_IsNumeral slot small).0.1 h)

pub other_slot : (slot other : ℕ) (rest : List ℕ) → slot < 2 ^ 64 → other < 2 ^ 64 → other ≢ slot → starts_with nat_eq (quarantine_folder other ++ rest) (quarantine_folder slot) ≡ false
other_slot slot other rest small fits apart = false_from_ne_true _ (λ h. apart (slot_of slot other rest small fits h))

-- no file in `refs/` lies in another part
pub ref_no_object : (q : List ℕ) → starts_with nat_eq q (codes "refs/") ≡ true → starts_with nat_eq q (codes "objects/") ≡ false
ref_no_object q h = ap (λ p. starts_with nat_eq p (codes "objects/")) (split_from_starts q (codes "refs/") h)

pub ref_not_there : (slot : ℕ) (q : List ℕ) → starts_with nat_eq q (codes "refs/") ≡ true → starts_with nat_eq q (quarantine_folder slot) ≡ false
ref_not_there slot q h = ap (λ p. starts_with nat_eq p (quarantine_folder slot)) (split_from_starts q (codes "refs/") h)

-- ---- a change in one slot's quarantine
module _ (slot : ℕ) (old new : FileMap) (same : SameOutside (quarantine_folder slot) old new) where
  pub objects-of_slot : (id : ObjectId) → objects new id ≡ objects old id
  objects-of_slot id = objects-same old new id (same.at (object_path id.0) refl)

  pub damage-of_slot : (id : ObjectId) → IsDamaged new id → IsDamaged old id
  damage-of_slot id = damage-same old new id (same.at (object_path id.0) refl)

  pub refs-of_slot : refs new ≡ refs old
  refs-of_slot = refs-kept old new (λ q h. same.at q (ref_not_there slot q h)) (same.at packed_path refl)

  pub head_file-of_slot : files.get new (codes "HEAD") ≡ files.get old (codes "HEAD")
  head_file-of_slot = same.at (codes "HEAD") refl

  -- what the other slots hold
  pub quarantined-of_slot : (other : ℕ) (id : ObjectId) → slot < 2 ^ 64 → other < 2 ^ 64 → other ≢ slot → quarantined new other id ≡ quarantined old other id
  quarantined-of_slot other id small fits apart =
      same_at old new other id (λ _. same.at (quarantine_path other id.0) (other_slot slot other (encode_lower (take 1 id.0) ++ 47 ∷ encode_lower (drop 1 id.0)) small fits apart))

-- ---- a change of stored objects, which keeps every quarantine by quarantined-same
module _ (old new : FileMap) (same : SameOutside (codes "objects/") old new) where
  pub refs-of_objects : refs new ≡ refs old
  refs-of_objects = refs-kept old new (λ q h. same.at q (ref_no_object q h)) (same.at packed_path refl)

  pub head_file-of_objects : files.get new (codes "HEAD") ≡ files.get old (codes "HEAD")
  head_file-of_objects = same.at (codes "HEAD") refl

-- ---- a change of a ref
module _ (name : List ℕ) (old new : FileMap) (rest : KeepsTheRest name old new) where
  pub objects-of_ref : (id : ObjectId) → objects new id ≡ objects old id
  objects-of_ref id = objects-same old new id (rest.outside.at (object_path id.0) refl refl)

  pub quarantined-of_ref : (slot : ℕ) (id : ObjectId) → quarantined new slot id ≡ quarantined old slot id
  quarantined-of_ref slot id = same_at old new slot id (λ _. rest.outside.at (quarantine_path slot id.0) refl refl)

-- ---- a change of the files in which refs stand
pub objects-of_packed : (old new : FileMap) → KeepsOutside old new → (id : ObjectId) → objects new id ≡ objects old id
objects-of_packed old new rest id = objects-same old new id (rest.at (object_path id.0) refl refl)

pub quarantined-of_packed : (old new : FileMap) → KeepsOutside old new → (slot : ℕ) (id : ObjectId) → quarantined new slot id ≡ quarantined old slot id
quarantined-of_packed old new rest slot id = same_at old new slot id (λ _. rest.at (quarantine_path slot id.0) refl refl)

-- an empty folder holds nothing
pub dropped-none : (content : FileMap) (slot : ℕ) → IsDropped slot content → (id : ObjectId) → quarantined content slot id ≡ None
dropped-none content slot dropped id = quarantined-none content slot id (dropped (quarantine_path slot id.0) (starts_with-append (quarantine_folder slot) (encode_lower (take 1 id.0) ++ 47 ∷ encode_lower (drop 1 id.0))))
