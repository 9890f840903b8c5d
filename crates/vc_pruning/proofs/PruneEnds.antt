-- What a prune answers and leaves is the machine's, at either node.
use Rattle.std.proofs.Common.{arith, ◌≡◌, ◌-◌, ℕ, Bool, true, cond, None, Result, Ok, Err, ◌⊎◌, inl, inr, refl, ap}
use Rattle.std.specs.Prelude.{IfErr, IfOk}
use Rattle.std.specs.FinMap.{len}
use Rattle.vc_files.specs.FileMap.{FileMap}
use Rattle.vc_files.specs.declared.faults.Fault.{Fault as FilesFault}
use Rattle.vc_local.proofs.CleanLemmas.{still_clean}
use Rattle.vc_local.proofs.IndexLemmas.{no_bad_index, spells_index}
use Rattle.vc_local.proofs.RefusalLemmas.{no_head, of_head}
use Rattle.vc_local.specs.Clean.{IsClean}
use Rattle.vc_local.specs.Machine.{Spells, failure_of, fault_answer, up_after}
use Rattle.vc_local.specs.NodeFault.{takes_down}
use Rattle.vc_local.specs.Shown.{shown}
use Rattle.vc_local.specs.declared.fault.NodeFault.{NodeFault}
use Rattle.vc_local.specs.declared.fault.NodeFault.TheVariants.{BadIndex, BadPath, Down, Missing, NotACommit, PathConflict, Ref, Store, WrongEntry}
use Rattle.vc_model.specs.Node.{Node, PruneEnds}
use Rattle.vc_model.specs.Node.Answer.{Fault}
use Rattle.vc_model.specs.Node.Reply.{Removed}
use Rattle.vc_model.specs.Object.{Id, Objects}
use Rattle.vc_model.specs.Repository.{Repository, with_objects}
use Rattle.vc_object_map.specs.declared.faults.StoreFault.TheVariants as store
use Rattle.vc_pruning.proofs.PruningLemmas.{clean_of}
use Rattle.vc_pruning.specs.Pruning.{Prunes, PrunesSome, prune_answer}
use Rattle.vc_pruning.specs.Roots.{BlamesPrune}
use Rattle.vc_refs.specs.declared.faults.RefFault.{RefFault}
use Rattle.vc_refs.specs.declared.faults.RefFault.TheVariants as ref
use Rattle.vc_refs.specs.RefFault.{BlamesHead, BlamesList}

-- The fault that ended it, if clean files showed a repository: it was want of memory or the device, and takes the node down.
pub record IsEnd (e : NodeFault) : Type 0 where
  pub fault : FilesFault
  pub answer : fault_answer e ≡ Fault (failure_of fault)
  pub down : takes_down e ≡ true

module _ (content : FileMap) (r : Repository) (spells : Spells (shown content) r) (clean : IsClean content) where
  end_of_refs : (e : RefFault) → BlamesList content e ⊎ BlamesHead content e → IsEnd (Ref e)
  end_of_refs (ref.Fault f) why = record { fault = f; answer = refl; down = refl }
  end_of_refs (ref.BadRefFile path) why = absurd (elim why [
    | inl first ↦ clean.refs _ first.bad
    | inr head ↦ elim (of_head content (ref.BadRefFile path) head) [ inl none ↦ no_head content spells.head spells.head_shown none | inr bad ↦ clean.refs _ bad ]
  ])
  end_of_refs ref.HeadLoop why = absurd (elim why [ inl never ↦ never | inr head ↦ no_head content spells.head spells.head_shown (of_head content ref.HeadLoop head) ])
  end_of_refs (ref.Stale current) why = absurd (elim why [ inl never ↦ never | inr never ↦ never ])
  end_of_refs (ref.Conflict other) why = absurd (elim why [ inl never ↦ never | inr never ↦ never ])

  pub end_of : (e : NodeFault) → BlamesPrune content e → IsEnd e
  end_of (Store (store.Fault f)) why = record { fault = f; answer = refl; down = refl }
  end_of (Store (store.Damaged id)) why = absurd (clean.objects id why)
  end_of (Store (store.Absent id)) why = absurd why
  end_of (Store (store.BadObject fault)) why = absurd why
  end_of (Ref e) why = end_of_refs e why
  end_of (BadIndex place) why = absurd (no_bad_index content place why spells.map (spells_index content r spells))
  end_of (Missing id) why = absurd why
  end_of (NotACommit id) why = absurd why
  end_of BadPath why = absurd why
  end_of PathConflict why = absurd why
  end_of (WrongEntry at) why = absurd why
  end_of Down why = absurd why

-- a node after a prune: other objects, and down after a fault
abbrev pub pruned_node : {V : Type 0} → Node V → Bool → Objects → Node V
pruned_node n up s = record { repository = with_objects n.repository s; live = cond up n.live None }

-- The node that is shown then, by clean files, is the machine's after the answer.
pub prune_ends : {V : Type 0} (needed : Repository → Id → Type 0) (old new : FileMap) (n : Node V) (result : Result ℕ NodeFault) → Spells (shown old) n.repository → IsClean old
    → IfOk result (Prunes needed old new) → PrunesSome needed old new → IfErr result (BlamesPrune old)
    → (s : Objects) × Spells (shown new) (with_objects n.repository s) × IsClean new × PruneEnds (prune_answer result) (needed n.repository) n (pruned_node n (up_after result) s)
prune_ends needed old new n (Ok count) spells clean all some why =
    let after = all.each n.repository spells in
    let counted : count ≡ len n.repository.objects - len after.0 = omega (arith, after.3) in
    (after.0, after.1, still_clean old new (clean_of old new all.spares) clean, (after.2, refl, refl, ap Removed counted))
prune_ends needed old new n (Err e) spells clean all some why =
    let after = some.each n.repository spells in
    let end = end_of old n.repository spells clean e why in (
      after.0,
      after.1,
      still_clean old new (clean_of old new some.spares) clean,
      rw (end.answer, end.down) (after.2, refl, refl),
    )
