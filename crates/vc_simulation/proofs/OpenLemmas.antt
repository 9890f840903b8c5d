-- Nodes that are opened.
use Rattle.std.proofs.Common.{◌≡◌, ℕ, Bool, true, false, IsTrue, Option, Some, None, Result, Ok, Err, inl, inr, refl, sym, ◌∙◌, subst}
use Rattle.std.specs.FinMap.{empty}
use Rattle.std.specs.Prelude.{IfErr, IfOk}
use Rattle.vc_files.specs.Failures.{Writes}
use Rattle.vc_files.specs.FileMap.{FileMap}
use Rattle.vc_files.specs.declared.faults.Fault.TheVariants as files
use Rattle.vc_model.specs.Clone.Awaited.{Nothing}
use Rattle.vc_model.specs.Repository.{Repository}
use Rattle.vc_model.specs.World.{empty_repository}
use Rattle.vc_local.proofs.OpeningLaws.{new_files_open}
use Rattle.vc_node.specs.Awaited.{AwaitedText, IsAwaited, nothing}
use Rattle.vc_node.specs.Held.{Held}
use Rattle.vc_local.specs.Machine.{HoldsNode}
use Rattle.vc_local.specs.NodeFault.{IsOfDevice, is_fault}
use Rattle.vc_local.specs.Opening.{IsOpenable, opened_node}
use Rattle.vc_local.specs.declared.fault.NodeFault.{NodeFault}
use Rattle.vc_local.specs.declared.fault.NodeFault.TheVariants as node
use Rattle.vc_refs.specs.declared.faults.RefFault.{RefFault}
use Rattle.vc_refs.specs.declared.faults.RefFault.TheVariants as ref
use Rattle.vc_shared.specs.Holding.{HoldsShared, SharedText}
use Rattle.vc_local.proofs.BurnLemmas.{spent_none}
use Rattle.vc_simulation.specs.Nodes.{BeginsAs, IsFaultOf, IsMemoryUnless, IsReady, fault_of, opened_shared, seen_clone, seen_shared}
use Rattle.vc_object_map.specs.declared.faults.StoreFault.{StoreFault}
use Rattle.vc_object_map.specs.declared.faults.StoreFault.TheVariants as store

pub in_ok : {T E : Type 0} (P : T → Type 0) (r : Result T E) (x : T) → r ≡ Ok x → IfOk r P → P x
in_ok {T} {E} P r x is holds = subst (λ (r : Result T E). IfOk r P) is holds

pub in_err : {T E : Type 0} (P : E → Type 0) (r : Result T E) (e : E) → r ≡ Err e → IfErr r P → P e
in_err {T} {E} P r e is holds = subst (λ (r : Result T E). IfErr r P) is holds

-- ---- a fault that ends an opening

no_fault : {X : Type 0} → IsTrue false → X
no_fault is = let f : false ≡ true = is in absurd (cc f)

by_store : (frail : Bool) (e : StoreFault) → IsTrue (is_fault (node.Store e)) → (IsOfDevice (node.Store e) → IsTrue frail) → IsFaultOf frail (node.Store e)
by_store frail (store.Fault files.Memory) only calm = inl refl
by_store frail (store.Fault files.Device) only calm = inr (calm refl)
by_store frail (store.BadObject fault) only calm = no_fault only
by_store frail (store.Absent id) only calm = no_fault only
by_store frail (store.Damaged id) only calm = no_fault only

by_ref : (frail : Bool) (e : RefFault) → IsTrue (is_fault (node.Ref e)) → (IsOfDevice (node.Ref e) → IsTrue frail) → IsFaultOf frail (node.Ref e)
by_ref frail (ref.Fault files.Memory) only calm = inl refl
by_ref frail (ref.Fault files.Device) only calm = inr (calm refl)
by_ref frail (ref.Stale current) only calm = no_fault only
by_ref frail (ref.Conflict other) only calm = no_fault only
by_ref frail (ref.BadRefFile path) only calm = no_fault only
by_ref frail ref.HeadLoop only calm = no_fault only

by_node : (frail : Bool) (e : NodeFault) → IsTrue (is_fault e) → (IsOfDevice e → IsTrue frail) → IsFaultOf frail e
by_node frail (node.Store fault) only calm = by_store frail fault only calm
by_node frail (node.Ref fault) only calm = by_ref frail fault only calm
by_node frail (node.BadIndex place) only calm = no_fault only
by_node frail (node.Missing id) only calm = no_fault only
by_node frail (node.NotACommit id) only calm = no_fault only
by_node frail node.BadPath only calm = no_fault only
by_node frail node.PathConflict only calm = no_fault only
by_node frail (node.WrongEntry at) only calm = no_fault only
by_node frail node.Down only calm = no_fault only

-- the fault for which a node was not opened is the one that is told
pub memory_unless : (frail : Bool) (e : NodeFault) → IsFaultOf frail e → IsMemoryUnless frail (fault_of e)
memory_unless frail (node.Store (store.Fault fault)) is = is
memory_unless frail (node.Store (store.BadObject fault)) is = absurd is
memory_unless frail (node.Store (store.Absent id)) is = absurd is
memory_unless frail (node.Store (store.Damaged id)) is = absurd is
memory_unless frail (node.Ref (ref.Fault fault)) is = is
memory_unless frail (node.Ref (ref.Stale current)) is = absurd is
memory_unless frail (node.Ref (ref.Conflict other)) is = absurd is
memory_unless frail (node.Ref (ref.BadRefFile path)) is = absurd is
memory_unless frail (node.Ref ref.HeadLoop) is = absurd is
memory_unless frail _ is = absurd is

-- no files can be opened as a new repository
pub new_openable : (content : FileMap) → content ≡ empty → IsOpenable content empty_repository
new_openable content none = subst (λ (c : FileMap). IsOpenable c empty_repository) (sym none) new_files_open

module _ {F : Type 0} (honest : Type 0) (content : F → FileMap) (failed : F → ℕ) (can_fail : F → Type 0) (left : F → Option ℕ) (frail : Bool) (files : F) (ready : IsReady can_fail left frail files) where
  -- so many writes later no stop is set, and the device is no frailer
  module _ (after : F) (wear : Writes honest content failed can_fail left files after ⊥) where
    still_calm : can_fail after → IsTrue frail
    still_calm can = elim (wear.calm can) [
      | inl before ↦ ready.calm before
      | inr never ↦ absurd never
    ]

    still_unstopped : left after ≡ None
    still_unstopped = spent_none wear.made (left files) (left after) ready.unstopped wear.spent

  pub shared_opened : (node : SharedText F) (r : Repository) → HoldsShared (content node.files) node.slots true (opened_shared r)
      → node.is_up ≡ true → Writes honest content failed can_fail left files node.files ⊥ → BeginsAs (seen_shared content can_fail left) frail node (opened_shared r)
  shared_opened node r opens up wear = record {
    may_be = record { holds = subst (λ b. HoldsShared (content node.files) node.slots b (opened_shared r)) (sym up) opens; calm = λ there can. still_calm node.files wear can };
    unstopped = still_unstopped node.files wear;
  }

  pub clone_opened : (node : Held F) (r : Repository) → HoldsNode (content node.files) true Nothing (opened_node r)
      → node.is_up ≡ true → node.awaited ≡ nothing → Writes honest content failed can_fail left files node.files ⊥ → BeginsAs (seen_clone content can_fail left) frail node (opened_node r)
  clone_opened node r opens up awaits wear = record {
    may_be = record {
      awaited = Nothing;
      is_awaited = subst (λ (w : AwaitedText). IsAwaited w Nothing) (sym awaits) refl;
      holds = subst (λ b. HoldsNode (content node.files) b Nothing (opened_node r)) (sym up) opens;
      calm = λ there can. still_calm node.files wear can;
    };
    unstopped = still_unstopped node.files wear;
  }

  -- what ends the opening of files that can be opened is a fault, and one of the device only if it is frail
  pub fault_of_opening : (back : F) (e : NodeFault) → IsTrue (is_fault e) → Writes honest content failed can_fail left files back (IsOfDevice e) → IsFaultOf frail e
  fault_of_opening back e only wear =
      by_node frail e only
      (λ device. elim (wear.could device) [
        | inl can ↦ ready.calm can
        | inr stopped ↦ let e : ◌≡◌ {A = Option ℕ} None (Some wear.made) = sym ready.unstopped ∙ stopped in absurd (cc e)
      ])
