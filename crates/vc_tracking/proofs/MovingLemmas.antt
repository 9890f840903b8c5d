-- What refuses the value of a ref that moves, and what is left then.
use Rattle.std.proofs.Common.{◌≡◌, ℕ, Bool, true, false, cond, inl, inr, List, Option, Some, None, Result, Err, sym, ap, refl, ◌∙◌, subst, true≢false}
use Rattle.std.specs.Prelude.{IfErr, IfOk, IsErrOf}
use Rattle.std.proofs.lemmas.Option.{same_Some}
use Rattle.vc_files.specs.FileMap.{FileMap}
use Rattle.vc_files.specs.declared.faults.Fault.TheVariants.{Device}
use Rattle.vc_object.specs.declared.id.ObjectId.{ObjectId}
use Rattle.vc_refs.proofs.LayeredChangeLemmas.{refs_free}
use Rattle.vc_refs.specs.RefFault.{BlamesSet}
use Rattle.vc_refs.specs.Refs.{refs}
use Rattle.vc_refs.specs.Obstacle.{IsFree}
use Rattle.vc_refs.specs.declared.faults.RefFault.{RefFault}
use Rattle.vc_refs.specs.declared.faults.RefFault.TheVariants as fault
use Rattle.vc_object_map.specs.Store.{objects}
use Rattle.vc_tracking.specs.Faults.{BlamesRefs}
use Rattle.vc_tracking.specs.Moving.{IsDecided, IsFreeAmong, IsMove, IsSetWhereFree, MayFollow, MayMove, passed_over}
use Rattle.vc_tracking.specs.declared.moving.Followed.{Followed}

-- a name that no file is in the way of is free
pub free_among : (content : FileMap) (to : List ℕ) → IsFree content to → IsFreeAmong (refs content) to
free_among content to free = refs_free content to free

module _ (content : FileMap) (to : List ℕ) (current : Option ObjectId) where
  pub passed_set : (now : FileMap) (id : ObjectId) (e : RefFault) → now ≡ content → BlamesSet content to current e → IfOk (passed_over e) (IsSetWhereFree content now to id)
  passed_set now id (fault.Stale other) same b = tt
  passed_set now id (fault.Conflict other) same b = ((λ free. true≢false (sym b.1.here.conflict ∙ free other b.2)), same)
  passed_set now id (fault.BadRefFile path) same b = tt
  passed_set now id fault.HeadLoop same b = tt
  passed_set now id (fault.Fault f) same b = tt

  pub passed_blames : (e : RefFault) → refs content to ≡ current → BlamesSet content to current e → IfErr (passed_over e) (BlamesRefs content)
  passed_blames (fault.Stale other) is b = b.1.other (sym b.1.is ∙ is)
  passed_blames (fault.Conflict other) is b = tt
  passed_blames (fault.BadRefFile path) is b = elim b [ inl packed ↦ inr packed | inr own ↦ inl own.1 ]
  passed_blames fault.HeadLoop is b = b
  passed_blames (fault.Fault f) is b = tt

pub device_meant : (T : Type 0) (e : RefFault) → IsErrOf (passed_over e) (fault.Fault Device) → ◌≡◌ {A = Result T RefFault} (Err e) (Err (fault.Fault Device))
device_meant T (fault.Stale current) h = absurd (cc h)
device_meant T (fault.Conflict other) h = absurd (cc h)
device_meant T (fault.BadRefFile path) h = absurd (cc h)
device_meant T fault.HeadLoop h = absurd (cc h)
device_meant T (fault.Fault f) h =
    let same : f ≡ Device = cc in
    ap (λ x. Err (fault.Fault x)) same

-- ---- what was found
pub legal_found : (b : Bool) (n m : List ℕ) → ◌≡◌ {A = Option (List ℕ)} (Some m) (cond b (Some n) None) → (b ≡ true) × (m ≡ n)
legal_found true n m e = (refl, cc e)
legal_found false n m e = absurd (cc e)

pub undecided : (b : Bool) (P : Type 0) → b ≡ false → IsDecided b P → P → ⊥
undecided true P e d p = absurd (true≢false e)
undecided false P e d p = d p

-- ---- what was set where its name is free
-- a ref that may follow, where what was known is so, moved if its name is free
module _ (known : Type 0) (followed : Followed) (content : FileMap) (name : List ℕ) (id : ObjectId) (to : List ℕ) (may : known → MayFollow followed (objects content) (refs content) name id to) where
  pub free_moves : IsFreeAmong (refs content) to → known → (t : List ℕ) × MayMove followed content name id t
  free_moves free so = (to, (may so, free))

  pub set_moves : (new : FileMap) (moved : Bool) → IsSetWhereFree content new to id moved → IsMove known followed content new name id moved
  set_moves new true (free, set) = (to, (λ so. (may so, free)), set)
  set_moves new false (taken, same) = ((λ so t moves. taken (subst (IsFreeAmong (refs content)) (same_Some t to (sym moves.0.follows ∙ (may so).follows)) moves.1)), same)
