-- The blobs that are due, path by path.
use Rattle.std.proofs.Common.{◌≡◌, ℕ, List, [], ◌∷◌, map, Option, Some, None, sym, ap, refl, ◌∙◌, subst}
use Rattle.std.specs.Prelude.{Vec}
use Rattle.std.specs.Global.{Global}
use Rattle.std.specs.Cmp.Lexicographic.{slice_cmp}
use Rattle.std.specs.FinMap.{entries, entries_sorted, get}
use Rattle.std.specs.List.Sorted.{IsStrictlySortedBy}
use Rattle.std.specs.Ordering.{nat_cmp}
use Rattle.vc_files.proofs.KeyLemmas.{keys_rise}
use Rattle.vc_files.specs.FileMap.{FileMap}
use Rattle.vc_object.specs.Decoding.{StoredObject, stored_object}
use Rattle.vc_object.specs.ObjectMap.{ObjectMap}
use Rattle.vc_object.specs.declared.id.ObjectId.{ObjectId}
use Rattle.vc_object.specs.declared.kind.Kind.TheVariants as kinds
use Rattle.vc_object_map.specs.Store.{objects}
use Rattle.vc_object_map.specs.declared.faults.StoreFault.TheVariants.{Absent, BadObject, Damaged, Fault}
use Rattle.vc_store.proofs.StoreLemmas.{objects-absent}
use Rattle.vc_index.specs.IndexMap.{IndexMap}
use Rattle.vc_index.specs.declared.entry.IndexEntry.{IndexEntry}
use Rattle.vc_index.specs.declared.faults.IndexFault.{IndexFault}
use Rattle.vc_index.specs.declared.faults.IndexFault.TheVariants.{BadPath, PathConflict, BadIndex, WrongEntry, Missing, Store}
use Rattle.vc_checkout.specs.Blobs.{BlamesBlob, BlamesBlobs, BlamesDue, HasDueBlob}
use Rattle.vc_checkout.proofs.ClearLemmas.{Holds, holds_before}

-- ---- one blob
other_kind : (o : Option StoredObject) (object : StoredObject) (body : List ℕ) → o ≡ Some object → o ≡ Some (stored_object kinds.Blob body) → object.kind ≡ kinds.Blob
other_kind o object body is there = ap (λ (x : StoredObject). x.kind) (same object (stored_object kinds.Blob body) (sym is ∙ there))
  where
    same : (x y : StoredObject) → Some x ≡ Some y → x ≡ y
    same x y e = cc e

-- one that is there is not to blame
pub no_blame : (content : FileMap) (path : List ℕ) (id : ObjectId) (body : List ℕ) (e : IndexFault) → objects content id ≡ Some (stored_object kinds.Blob body) → BlamesBlob content path id e → ⊥
no_blame content path id body BadPath there told = told
no_blame content path id body PathConflict there told = told
no_blame content path id body (BadIndex place) there told = told
no_blame content path id body (WrongEntry at) there (same, object, is, other) = other (other_kind (objects content id) object body is there)
no_blame content path id body (Missing absent) there (same, none) = cc (none, there)
no_blame content path id body (Store (BadObject fault)) there told = told
no_blame content path id body (Store (Absent absent)) there told = told
no_blame content path id body (Store (Damaged damaged)) there (same, is) = let none = objects-absent content id (Damaged id) is in cc (none, there)
no_blame content path id body (Store (Fault fault)) there told = told

-- ---- one path
module _ (objects : ObjectMap) (old new : Option IndexEntry) where
  pub no_due : new ≡ None → HasDueBlob objects old new
  no_due none entry is apart file = absurd (cc (none, is))

  same_entry : (x y : IndexEntry) → new ≡ Some x → new ≡ Some y → x ≡ y
  same_entry x y p q = cc (p, q)

-- ---- all paths
-- the paths of an index are in order
pub paths_rise : (es : List (Vec ℕ Global × IndexEntry)) (m : IndexMap) → map (λ e. (e.0.items, e.1)) es ≡ entries m → IsStrictlySortedBy (slice_cmp nat_cmp) (map (λ e. e.0.items) es)
paths_rise es m is = subst (IsStrictlySortedBy (slice_cmp nat_cmp)) (sym (firsts es ∙ ap (map (λ (e : List ℕ × IndexEntry). e.0)) is)) (keys_rise (entries m) (entries_sorted m))
  where
    firsts : (es : List (Vec ℕ Global × IndexEntry)) → map (λ e. e.0.items) es ≡ map (λ (e : List ℕ × IndexEntry). e.0) (map (λ e. (e.0.items, e.1)) es)
    firsts [] = refl
    firsts (e ∷ es) = ap (λ rest. e.0.items ∷ rest) (firsts es)

-- the first blob that is not there
pub first_blamed : (content : FileMap) (index tree : IndexMap) (before rest : List (List ℕ)) (k : List ℕ) (cause : IndexFault) → before ≡ k ∷ rest → IsStrictlySortedBy (slice_cmp nat_cmp) before
    → Holds (λ q. HasDueBlob (objects content) (get index q) (get tree q)) before → BlamesDue content (get index k) (get tree k) k cause → BlamesBlobs content index tree cause
first_blamed content index tree before rest k cause first sorted so blames = (k, blames, holds_before (λ q. HasDueBlob (objects content) (get index q) (get tree q)) before rest k first sorted so)
