-- The verdict on a command at its update, from what its ref's files are.
use Rattle.std.proofs.Common.{◌≡◌, ℕ, Bool, true, false, cond, subst, ◌&&◌, ◌||◌, ◌⊎◌, nat_eq, List, [], ◌∷◌, ◌++◌, inl, inr, Option, Some, None, is_some, sym, ap, refl, ◌∙◌, true≢false}
use Rattle.std.specs.Prelude.{bytes_eq, codes, length, nat_le, not, string_bytes, Result, Err, IfOk, IfErr, IsErrOf}
use Rattle.std.specs.List.{starts_with}
use Rattle.std.specs.Str.{is_utf8}
use Rattle.std.proofs.lemmas.Bool.{and_from, and_parts}
use Rattle.vc_files.specs.FileMap.{FileMap}
use Rattle.vc_lemmas.proofs.Texts.{split_from_starts}
use Rattle.vc_object.specs.declared.id.ObjectId.{ObjectId}
use Rattle.vc_push.specs.Push.{CommandText}
use Rattle.vc_push.specs.declared.reason.Reason.TheVariants.{AlreadyExists, NameConflict, Stale}
use Rattle.vc_refname.specs.RefName.{is_ref_name, max_branch}
use Rattle.vc_refs.proofs.LayeredChangeLemmas.{refs_free}
use Rattle.vc_refs.proofs.LayeredLemmas.{decides-loose, decides-packed, packed_map-same}
use Rattle.vc_files.specs.declared.faults.Fault.TheVariants.{Device}
use Rattle.vc_refs.specs.RefFault.{BlamesRef, BlamesSet, IsStale, MaySet}
use Rattle.vc_refs.specs.declared.faults.RefFault.{RefFault}
use Rattle.vc_refs.specs.declared.faults.RefFault.TheVariants as fault
use Rattle.vc_refs.specs.Refs.{ChangesOnly, is_taken, packed_path, refs}
use Rattle.vc_refs.specs.Obstacle.{IsFirstInTheWay, IsFree}
use Rattle.vc_quarantine.specs.Clean.{KeepsPacked}
use Rattle.vc_session.specs.Updating.{BlamesUpdate, reason_of}
use Rattle.vc_push_rules.specs.Verdict.{IsVerdictAtUpdate, MayBeSet, UpdateNeeds, expected, is_branch, is_tag}

shorter : (xs front back : List ℕ) → starts_with nat_eq xs (front ++ back) ≡ true → starts_with nat_eq xs front ≡ true
shorter [] [] back h = refl
shorter (x ∷ xs) [] back h = refl
shorter [] (b ∷ front) back h = h
shorter (x ∷ xs) (b ∷ front) back h =
    let parts = and_parts (nat_eq b x) (starts_with nat_eq xs (front ++ back)) h in
    and_from (nat_eq b x) (starts_with nat_eq xs front) parts.0 (shorter xs front back parts.1)

pub in_refs : (name : List ℕ) (branch : Bool) → is_branch name ≡ branch → (branch || is_tag name) ≡ true → starts_with nat_eq name (codes "refs/") ≡ true
in_refs name true is inside = shorter name (codes "refs/") (codes "heads/") is
in_refs name false is inside = shorter name (codes "refs/") (codes "tags/") inside

-- what may be set is the name of a ref
pub legal_parts : (name : List ℕ) → MayBeSet name → (is_utf8 name ≡ true) × (is_ref_name name ≡ true)
legal_parts name may =
    let short : Bool = not (starts_with nat_eq name (codes "refs/heads/")) || nat_le (length name) max_branch in
    let text = and_parts (is_utf8 name) (is_ref_name name && short) may.legal in
    (text.0, (and_parts (is_ref_name name) short text.1).0)

pub none_there : (o : Option ObjectId) → is_some o ≡ true → o ≡ None → ⊥
none_there None some none = true≢false (sym some)
none_there (Some id) some none = cc none

pub not_there : (tag : Bool) (o : Option ObjectId) → (tag && is_some o) ≡ false → tag ≡ true → o ≡ None
not_there true None h is = refl
not_there true (Some id) h is = absurd (true≢false h)
not_there false o h is = absurd (true≢false (sym is))

module _ (content : FileMap) (c : CommandText) where
  module _ (no_tag : (is_tag c.name && is_some (refs content c.name)) ≡ false) where
    absent : UpdateNeeds (refs content) c AlreadyExists
    absent = not_there (is_tag c.name) (refs content c.name) no_tag

    pub in_the_way : (other : List ℕ) → IsFirstInTheWay content c.name other → is_some (refs content other) ≡ true → IsVerdictAtUpdate (refs content) c (Some NameConflict)
    in_the_way other first some = inr (absent, inl ((λ needs. true≢false (sym first.here.conflict ∙ needs other some)), refl))

    free : IsFree content c.name → UpdateNeeds (refs content) c NameConflict
    free is = refs_free content c.name is

    pub stale : (current : Option ObjectId) → IsFree content c.name → IsStale content c.name (expected c.old) current → IsVerdictAtUpdate (refs content) c (Some Stale)
    stale current is s = inr (absent, inr (free is, inl ((λ needs. s.other (sym s.is ∙ needs)), refl)))

    pub passes : MaySet content c.name (expected c.old) → IsVerdictAtUpdate (refs content) c None
    passes may = (absent, (free may.free, (may.value.current, tt)))

    -- what refuses the value of the ref gives the verdict
    pub refused_verdict : (e : RefFault) → BlamesSet content c.name (expected c.old) e → IfOk (reason_of e) (IsVerdictAtUpdate (refs content) c)
    refused_verdict (fault.Stale current) b = stale current b.0 b.1
    refused_verdict (fault.Conflict other) b = in_the_way other b.1 b.2
    refused_verdict (fault.BadRefFile path) b = tt
    refused_verdict fault.HeadLoop b = tt
    refused_verdict (fault.Fault f) b = tt

  pub refused_blames : (e : RefFault) → BlamesSet content c.name (expected c.old) e → IfErr (reason_of e) (BlamesUpdate content c.name)
  refused_blames (fault.Stale current) b = tt
  refused_blames (fault.Conflict other) b = tt
  refused_blames (fault.BadRefFile path) b = elim b [
    | inl packed ↦ (inr packed, inr (inr packed.0))
    | inr own ↦ (inl own.1, elim own.2 [ inl first ↦ inl first | inr is ↦ inr (inl is.0) ])
  ]
  refused_blames fault.HeadLoop b = b
  refused_blames (fault.Fault f) b = tt

-- what refuses the look at a tag
pub tag_blames : (content : FileMap) (name : List ℕ) (e : RefFault) → BlamesRef content name e → BlamesUpdate content name e
tag_blames content name (fault.Stale current) b = b
tag_blames content name (fault.Conflict other) b = b
tag_blames content name (fault.BadRefFile path) b = (b.1, inr (by (is_taken content name) refl))
  where
    by : (t : Bool) → is_taken content name ≡ t → (string_bytes path ≡ name) ⊎ (string_bytes path ≡ packed_path)
    by true taken = inl (b.0 ∙ decides-loose content name taken)
    by false free = inr (b.0 ∙ decides-packed content name free)
tag_blames content name fault.HeadLoop b = b
tag_blames content name (fault.Fault f) b = tt

pub device_told : (T : Type 0) (e : RefFault) → ◌≡◌ {A = Result T RefFault} (Err e) (Err (fault.Fault Device)) → IsErrOf (reason_of e) (fault.Fault Device)
device_told T (fault.Stale current) h = absurd (cc h)
device_told T (fault.Conflict other) h = absurd (cc h)
device_told T (fault.BadRefFile path) h = absurd (cc h)
device_told T fault.HeadLoop h = absurd (cc h)
device_told T (fault.Fault f) h =
    let same : f ≡ Device = cc in
    ap (λ x. Err (fault.Fault x)) same

pub device_meant : (T : Type 0) (e : RefFault) → IsErrOf (reason_of e) (fault.Fault Device) → ◌≡◌ {A = Result T RefFault} (Err e) (Err (fault.Fault Device))
device_meant T (fault.Stale current) h = absurd (cc h)
device_meant T (fault.Conflict other) h = absurd (cc h)
device_meant T (fault.BadRefFile path) h = absurd (cc h)
device_meant T fault.HeadLoop h = absurd (cc h)
device_meant T (fault.Fault f) h =
    let same : f ≡ Device = cc in
    ap (λ x. Err (fault.Fault x)) same

-- ---- what is said of the same files, name and value
pub only_name : (b : Bool) (n m : List ℕ) → ◌≡◌ {A = Option (List ℕ)} (Some m) (cond b (Some n) None) → m ≡ n
only_name true n m h = cc
only_name false n m h = absurd (cc h)

pub moved : (P : FileMap → List ℕ → Option ObjectId → Type 0) {m k : FileMap} {n l : List ℕ} {e f : Option ObjectId} → m ≡ k → n ≡ l → e ≡ f → P m n e → P k l f
moved P {m = m} {k = k} {n = n} {l = l} {e = e} {f = f} files name value h =
    subst (λ (x : Option ObjectId). P k l x) value (subst (λ (x : List ℕ). P k x e) name (subst (λ (x : FileMap). P x n e) files h))

-- a ref that is set leaves the packed refs
pub packed_set : (old new : FileMap) (name : List ℕ) → starts_with nat_eq name (codes "refs/") ≡ true → ChangesOnly name old new → KeepsPacked old new
packed_set old new name inside only = packed_map-same old new (only.at packed_path (ap (λ n. bytes_eq packed_path n) (split_from_starts name (codes "refs/") inside)))
