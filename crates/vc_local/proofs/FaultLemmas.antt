-- A fault of a layer below as a node tells it: what it says of the device.
use Rattle.std.proofs.Common.{◌≡◌, ◌⊎◌, ℕ, Option, Result, Ok, Err, refl, sym, ap, ◌∙◌, subst, false, true≢false}
use Rattle.std.specs.Prelude.{IfErr, IsErrAnd, IsErrOf}
use Rattle.vc_files.proofs.WearLemmas.{writes_told}
use Rattle.vc_files.specs.Failures.{Wears, Writes}
use Rattle.vc_files.specs.FileMap.{FileMap}
use Rattle.vc_files.specs.declared.faults.Fault.TheVariants.{Device, Memory}
use Rattle.vc_model.specs.Exchange.{IsUndone}
use Rattle.vc_refs.specs.declared.faults.RefFault.{RefFault}
use Rattle.vc_refs.specs.declared.faults.RefFault.TheVariants as refs
use Rattle.vc_rev.specs.declared.refusal.SourceFault.{SourceFault}
use Rattle.vc_rev.specs.declared.refusal.SourceFault.TheVariants as source
use Rattle.vc_object_map.specs.declared.faults.StoreFault.{StoreFault}
use Rattle.vc_object_map.specs.declared.faults.StoreFault.TheVariants as store
use Rattle.vc_local.proofs.LookLemmas.{or_told}
use Rattle.vc_local.specs.NodeFault.{IsOfDevice, is_fault, of_source, refused_by_refs, refused_by_store, takes_down}
use Rattle.vc_local.specs.declared.fault.NodeFault.{NodeFault}
use Rattle.vc_local.specs.declared.fault.NodeFault.TheVariants.{Store, Ref, Missing, NotACommit, BadPath, PathConflict, BadIndex, WrongEntry, Down}
use Rattle.vc_local.specs.Machine.{store_answer, ref_answer, fault_answer}

-- ---- what is none of the device
-- a refusal
pub refusal_calm : (fault : NodeFault) → is_fault fault ≡ false → IsOfDevice fault → ⊥
refusal_calm (Store (store.Fault f)) calm device = true≢false calm
refusal_calm (Store (store.BadObject f)) calm device = device
refusal_calm (Store (store.Absent id)) calm device = device
refusal_calm (Store (store.Damaged id)) calm device = device
refusal_calm (Ref (refs.Fault f)) calm device = true≢false calm
refusal_calm (Ref (refs.Stale current)) calm device = device
refusal_calm (Ref (refs.Conflict name)) calm device = device
refusal_calm (Ref (refs.BadRefFile path)) calm device = device
refusal_calm (Ref refs.HeadLoop) calm device = device
refusal_calm (Missing id) calm device = device
refusal_calm (NotACommit id) calm device = device
refusal_calm BadPath calm device = device
refusal_calm PathConflict calm device = device
refusal_calm (BadIndex place) calm device = device
refusal_calm (WrongEntry at) calm device = device
refusal_calm Down calm device = device

-- what leaves the node up
pub up_is_calm : (fault : NodeFault) → takes_down fault ≡ false → is_fault fault ≡ false
up_is_calm (Store (store.Fault f)) up = up
up_is_calm (Store (store.BadObject f)) up = refl
up_is_calm (Store (store.Absent id)) up = refl
up_is_calm (Store (store.Damaged id)) up = refl
up_is_calm (Ref (refs.Fault f)) up = up
up_is_calm (Ref (refs.Stale current)) up = refl
up_is_calm (Ref (refs.Conflict name)) up = refl
up_is_calm (Ref (refs.BadRefFile path)) up = refl
up_is_calm (Ref refs.HeadLoop) up = refl
up_is_calm (Missing id) up = refl
up_is_calm (NotACommit id) up = refl
up_is_calm BadPath up = refl
up_is_calm PathConflict up = refl
up_is_calm (BadIndex place) up = refl
up_is_calm (WrongEntry at) up = refl
up_is_calm Down up = refl

-- what a layer below refuses by
pub store_calm : (e : StoreFault) → IsOfDevice (refused_by_store e) → ⊥
store_calm (store.BadObject f) device = device
store_calm (store.Absent id) device = device
store_calm (store.Damaged id) device = device
store_calm (store.Fault f) device = true≢false (sym device)

pub refs_calm : (e : RefFault) → IsOfDevice (refused_by_refs e) → ⊥
refs_calm (refs.Stale current) device = device
refs_calm (refs.Conflict name) device = device
refs_calm (refs.BadRefFile path) device = device
refs_calm refs.HeadLoop device = device
refs_calm (refs.Fault f) device = true≢false (sym device)

-- ---- the one that is
pub source_alone : (e : SourceFault) → IsOfDevice (of_source e) → e ≡ source.Store (store.Fault Device)
source_alone (source.Store (store.BadObject e)) never = absurd never
source_alone (source.Store (store.Absent id)) never = absurd never
source_alone (source.Store (store.Damaged id)) never = absurd never
source_alone (source.Store (store.Fault Device)) is = refl
source_alone (source.Store (store.Fault Memory)) is = absurd (true≢false (sym is))
source_alone (source.BadRefFile path) never = absurd never
source_alone source.HeadLoop never = absurd never
source_alone (source.BadIndex place) never = absurd never

-- A layer's faults `L` are told by a node as its own, `N`. One of them, `device`, says that the device failed, and it alone is told so.
module _ {L N : Type 0} (IsOf : N → Type 0) (tell : L → N) (device : L) (alone : (e : L) → IsOf (tell e) → e ≡ device) (tells : IsOf (tell device))
    {X T : Type 0} (r : Result X L) (e : L) (was : r ≡ Err e) where
  pub told_from : (q : Result T N) → IsErrAnd q (λ x. x ≡ tell e) → IsErrAnd q IsOf → IsErrOf r device
  told_from (Ok x) is told = absurd is
  told_from (Err x) is told = was ∙ ap Err (alone e (subst IsOf is told))

  told_to : (q : Result T N) → IsErrAnd q (λ x. x ≡ tell e) → IsErrOf r device → IsErrAnd q IsOf
  told_to (Ok x) is failed = absurd is
  told_to (Err x) is failed =
      let same : e ≡ device = let both : ◌≡◌ {A = Result X L} (Err e) (Err device) = sym was ∙ failed in cc both in
      subst IsOf (sym is) (subst (λ (f : L). IsOf (tell f)) (sym same) tells)

  pub writes_by : {D : Type 0} {honest : Type 0} {content : D → FileMap} {failed : D → ℕ} {can_fail : D → Type 0} {left : D → Option ℕ} {old new : D} (q : Result T N) → IsErrAnd q (λ x. x ≡ tell e)
      → Writes honest content failed can_fail left old new (IsErrOf r device) → Writes honest content failed can_fail left old new (IsErrAnd q IsOf)
  writes_by q is w = writes_told w (told_to q is) (told_from q is)

  pub looks_by : {D : Type 0} {failed : D → ℕ} {can_fail : D → Type 0} {left : D → Option ℕ} {old new : D} {May : Type 0} (q : Result T N) → IsErrAnd q (λ x. x ≡ tell e) → May ⊎ Wears failed can_fail left old new (IsErrOf r device)
      → May ⊎ Wears failed can_fail left old new (IsErrAnd q IsOf)
  looks_by q is may = or_told may (λ m. m) (told_from q is)

-- ---- what is told
pub err_as : {T N : Type 0} (P : N → Type 0) (fault : N) (r : Result T N) → IsErrAnd r (λ e. e ≡ fault) → P fault → IfErr r P
err_as P fault (Ok x) is holds = tt
err_as P fault (Err e) is holds = subst P (sym is) holds

-- ---- a call that ends in a fault is no success
store_undone : (e : StoreFault) → IsUndone (store_answer e)
store_undone (store.BadObject e) = tt
store_undone (store.Absent id) = tt
store_undone (store.Damaged id) = tt
store_undone (store.Fault f) = tt

ref_undone : (e : RefFault) → IsUndone (ref_answer e)
ref_undone (refs.Stale current) = tt
ref_undone (refs.Conflict other) = tt
ref_undone (refs.BadRefFile path) = tt
ref_undone refs.HeadLoop = tt
ref_undone (refs.Fault f) = tt

pub node_undone : (e : NodeFault) → IsUndone (fault_answer e)
node_undone (Store e) = store_undone e
node_undone (Ref e) = ref_undone e
node_undone (Missing id) = tt
node_undone (NotACommit id) = tt
node_undone BadPath = tt
node_undone PathConflict = tt
node_undone (BadIndex place) = tt
node_undone (WrongEntry at) = tt
node_undone Down = tt
