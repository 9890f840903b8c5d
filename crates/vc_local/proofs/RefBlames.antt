-- What refuses the change of a ref at a node, from what refuses it over its files: for the calls that set and remove refs whatever they are.
use Rattle.std.proofs.Common.{◌≡◌, ◌⊎◌, true, ℕ, List, Option, inl, inr, refl, sym, ◌∙◌, subst}
use Rattle.std.specs.Prelude.{string_bytes}
use Rattle.vc_files.specs.FileMap.{FileMap}
use Rattle.vc_object.specs.declared.id.ObjectId.{ObjectId}
use Rattle.vc_refs.proofs.LayeredLemmas.{decides-loose}
use Rattle.vc_refs.specs.RefFault.{BlamesRef, BlamesRemove, BlamesSet, BlamesObstacle, IsFault}
use Rattle.vc_refs.specs.Refs.{IsBadRef, is_taken, refs}
use Rattle.vc_refs.specs.declared.faults.RefFault.{RefFault}
use Rattle.vc_refs.specs.declared.faults.RefFault.TheVariants as ref
use Rattle.vc_local.proofs.CommitReads.{its_file}
use Rattle.vc_local.specs.Blames.{BlamesPut, BlamesRemoved}
use Rattle.vc_local.specs.NodeFault.{is_fault}
use Rattle.vc_local.specs.Reads.{IsAtName, IsItsFile, NoneRead, TellsRead}
use Rattle.vc_local.specs.declared.fault.NodeFault.TheVariants.{Ref}

module _ (content : FileMap) (name : List ℕ) where
  -- a look at it
  pub look_put : (e : RefFault) → BlamesRef content name e → BlamesPut content name (Ref e)
  look_put (ref.Stale current) b = absurd b
  look_put (ref.Conflict other) b = absurd b
  look_put (ref.BadRefFile path) b = inr b
  look_put ref.HeadLoop b = absurd b
  look_put (ref.Fault f) b = tt

  pub look_removed : (e : RefFault) → BlamesRef content name e → BlamesRemoved content (Ref e)
  look_removed (ref.Stale current) b = absurd b
  look_removed (ref.Conflict other) b = absurd b
  look_removed (ref.BadRefFile path) b = b.1
  look_removed ref.HeadLoop b = absurd b
  look_removed (ref.Fault f) b = tt

  pub look_file : (e : RefFault) → BlamesRef content name e → TellsRead NoneRead (IsItsFile name) (Ref e)
  look_file (ref.Stale current) b = tt
  look_file (ref.Conflict other) b = tt
  look_file (ref.BadRefFile path) b = its_file content name (string_bytes path) b.0
  look_file ref.HeadLoop b = tt
  look_file (ref.Fault f) b = tt

  pub look_at_name : (e : RefFault) → BlamesRef content name e → TellsRead NoneRead (IsAtName content name) (Ref e)
  look_at_name (ref.Stale current) b = tt
  look_at_name (ref.Conflict other) b = tt
  look_at_name (ref.BadRefFile path) b = inl (its_file content name (string_bytes path) b.0)
  look_at_name ref.HeadLoop b = tt
  look_at_name (ref.Fault f) b = tt

  -- what stands in its way
  pub way_at_name : (e : RefFault) → BlamesObstacle content name e → TellsRead NoneRead (IsAtName content name) (Ref e)
  way_at_name (ref.Stale current) b = tt
  way_at_name (ref.Conflict other) b = tt
  way_at_name (ref.BadRefFile path) b = elim b [ inl packed ↦ inl (inr packed.0) | inr first ↦ inr first.2 ]
  way_at_name ref.HeadLoop b = tt
  way_at_name (ref.Fault f) b = tt

  -- the change, where the value that it expects is the ref's
  module _ (current : Option ObjectId) (is : refs content name ≡ current) where
    pub set_put : (e : RefFault) → BlamesSet content name current e → BlamesPut content name (Ref e)
    set_put (ref.Stale other) b = absurd (b.1.other (sym b.1.is ∙ is))
    set_put (ref.Conflict other) b = b
    set_put (ref.BadRefFile path) b = elim b [
      | inl packed ↦ inl (inl packed)
      | inr own ↦ elim own.2 [
        | inl first ↦ inl (inr (own.0, own.1, first))
        | inr same ↦
            inr (same.0 ∙ sym (decides-loose content name (subst (λ (n : List ℕ). is_taken content n ≡ true) same.0 own.1.taken)), inl own.1)
      ]
    ]
    set_put ref.HeadLoop b = absurd b
    set_put (ref.Fault f) b = tt

    pub remove_removed : (e : RefFault) → BlamesRemove content name current e → BlamesRemoved content (Ref e)
    remove_removed (ref.Stale other) b = absurd (b.other (sym b.is ∙ is))
    remove_removed (ref.Conflict other) b = absurd b
    remove_removed (ref.BadRefFile path) b = elim b [ inl packed ↦ inr packed | inr own ↦ subst (IsBadRef content) (sym own.1) (inl own.2) ]
    remove_removed ref.HeadLoop b = absurd b
    remove_removed (ref.Fault f) b = tt

  pub set_at_name : (expected : Option ObjectId) (e : RefFault) → BlamesSet content name expected e → TellsRead NoneRead (IsAtName content name) (Ref e)
  set_at_name expected (ref.Stale current) b = tt
  set_at_name expected (ref.Conflict other) b = tt
  set_at_name expected (ref.BadRefFile path) b = elim b [ inl packed ↦ inl (inr packed.0) | inr own ↦ elim own.2 [ inl first ↦ inr first | inr same ↦ inl (inl same.0) ] ]
  set_at_name expected ref.HeadLoop b = tt
  set_at_name expected (ref.Fault f) b = tt

  pub remove_file : (expected : Option ObjectId) (e : RefFault) → BlamesRemove content name expected e → TellsRead NoneRead (IsItsFile name) (Ref e)
  remove_file expected (ref.Stale current) b = tt
  remove_file expected (ref.Conflict other) b = tt
  remove_file expected (ref.BadRefFile path) b = elim b [ inl packed ↦ inr packed.0 | inr own ↦ inl own.1 ]
  remove_file expected ref.HeadLoop b = tt
  remove_file expected (ref.Fault f) b = tt

-- a packing that is refused, and did not fail, wrote nothing
pub packing_unwritten : {Same : Type 0} (e : RefFault) → IsFault e ⊎ Same → (is_fault (Ref e) ≡ true) ⊎ Same
packing_unwritten e (inr same) = inr same
packing_unwritten (ref.Fault f) (inl fault) = inl refl
packing_unwritten (ref.Stale current) (inl never) = absurd never
packing_unwritten (ref.Conflict other) (inl never) = absurd never
packing_unwritten (ref.BadRefFile path) (inl never) = absurd never
packing_unwritten ref.HeadLoop (inl never) = absurd never
