-- A refusal of a walk over some names is one over more.
use Rattle.vc_object.specs.declared.id.ObjectId.{ObjectId}
use Rattle.vc_object_map.specs.StoreFault.{IsMet, IsRefused}
use Rattle.vc_object_map.specs.declared.faults.StoreFault.{StoreFault}
use Rattle.vc_object_map.specs.declared.faults.StoreFault.TheVariants.{BadObject, Absent, Damaged, Fault}
use Rattle.std.proofs.Common.{sym, subst}

-- a name that was met among some was met among more
pub IsMet-more : (Meets More IsDamaged : ObjectId → Type 0) → ((id : ObjectId) → Meets id → More id) → (e : StoreFault) → IsMet Meets IsDamaged e → IsMet More IsDamaged e
IsMet-more Meets More IsDamaged more (BadObject fault) h = h
IsMet-more Meets More IsDamaged more (Absent id) h = h
IsMet-more Meets More IsDamaged more (Damaged id) h = (more id h.0, h.1)
IsMet-more Meets More IsDamaged more (Fault fault) h = h

-- what a look at one name says of a walk that has met it
pub IsMet-from_refused : (Meets IsDamaged : ObjectId → Type 0) (Honest : Type 0) (id : ObjectId) (e : StoreFault) → IsRefused id (Honest → IsDamaged id) e → Meets id → Honest → IsMet Meets IsDamaged e
IsMet-from_refused Meets IsDamaged Honest id (BadObject fault) refused met honest = refused
IsMet-from_refused Meets IsDamaged Honest id (Absent absent) refused met honest = refused
IsMet-from_refused Meets IsDamaged Honest id (Damaged damaged) refused met honest = (subst Meets (sym refused.0) met, subst IsDamaged (sym refused.0) (refused.1 honest))
IsMet-from_refused Meets IsDamaged Honest id (Fault fault) refused met honest = tt
