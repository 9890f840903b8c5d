-- What refuses a commit, from what its walks tell.
use Rattle.std.proofs.Common.{◌≡◌, List, [], ◌∷◌, Option, Some, None, sym, ◌∙◌, subst, Contains, inl, inr, arith}
use Rattle.std.specs.Prelude.{IsSome}
use Rattle.std.proofs.lemmas.List.Elements.{Contains-push_cases}
use Rattle.vc_history.proofs.LinkLemmas.{Reaches-ancestor}
use Rattle.vc_history.specs.HistoryFault.{IsTold}
use Rattle.vc_history.specs.declared.fault.HistoryFault.{HistoryFault}
use Rattle.vc_history.specs.declared.fault.HistoryFault.TheVariants as base
use Rattle.vc_files.specs.FileMap.{FileMap}
use Rattle.vc_object_map.specs.Graph.{Reaches, ReachedFrom}
use Rattle.vc_object.specs.ObjectMap.{links_in, parents_in}
use Rattle.vc_object.specs.declared.id.ObjectId.{ObjectId}
use Rattle.vc_object.proofs.ObjectMaps.{links_in-none}
use Rattle.vc_object_map.specs.Store.{objects, IsDamaged}
use Rattle.vc_object_map.specs.declared.faults.StoreFault.TheVariants as store
use Rattle.vc_local.specs.GoodCommit.{IsComplete, BlamesCommitBeyond}
use Rattle.vc_local.specs.NodeFault.{of_history}
use Rattle.vc_local.specs.declared.fault.NodeFault.{NodeFault}
use Rattle.vc_local.specs.declared.fault.NodeFault.TheVariants.{Store, Ref, Missing, NotACommit, BadPath, PathConflict, BadIndex, WrongEntry, Down}

no_some : {X : Type 0} (o : Option X) → o ≡ None → IsSome o → ⊥
no_some None e h = cc
no_some (Some x) e h = cc

-- what one root reaches
pub only_root : (graph : ObjectId → Option (List ObjectId)) (root y : ObjectId) → ReachedFrom graph (root ∷ []) y → Reaches graph root y
only_root graph root y r = subst (λ (x : ObjectId). Reaches graph x y) (lone r.is_root) r.reaches
  where
    lone : {x : ObjectId} → Contains (root ∷ []) x → x ≡ root
    lone {x} h = elim (Contains-push_cases [] root x h) [ inl none ↦ absurd (let k = none.1 in omega arith) | inr same ↦ sym same ]

-- a refusal of the walk over the history of an id that is complete where what was known is so
pub told_commit : (IsKnown : Type 0) (content : FileMap) (id : ObjectId) (e : HistoryFault) → (IsKnown → IsComplete content id) → IsTold (objects content) (IsDamaged content) (id ∷ []) e → BlamesCommitBeyond IsKnown content id (of_history e)
told_commit IsKnown content id (base.Missing absent) complete told = λ known.
    absurd (no_some (links_in (objects content) absent) (links_in-none (objects content) absent told.1) (complete known absent (Reaches-ancestor (objects content) (only_root (parents_in (objects content)) id absent told.0))))
told_commit IsKnown content id (base.NotACommit other) complete told = λ known.
    (complete known, λ history. no_some (parents_in (objects content) other) told.1.1 (history other (only_root (parents_in (objects content)) id other told.0)))
told_commit IsKnown content id (base.Store (store.BadObject fault)) complete told = told
told_commit IsKnown content id (base.Store (store.Absent absent)) complete told = told
told_commit IsKnown content id (base.Store (store.Damaged damaged)) complete told = told.1
told_commit IsKnown content id (base.Store (store.Fault fault)) complete told = tt

-- what is blamed where something is known is blamed where that follows
pub blames_beyond : (IsKnown IsSo : Type 0) (content : FileMap) (id : ObjectId) (e : NodeFault) → (IsSo → IsKnown) → BlamesCommitBeyond IsKnown content id e → BlamesCommitBeyond IsSo content id e
blames_beyond IsKnown IsSo content id (Missing absent) known blames = λ is. blames (known is)
blames_beyond IsKnown IsSo content id (NotACommit other) known blames = λ is. blames (known is)
blames_beyond IsKnown IsSo content id (Store fault) known blames = blames
blames_beyond IsKnown IsSo content id (Ref fault) known blames = blames
blames_beyond IsKnown IsSo content id BadPath known blames = blames
blames_beyond IsKnown IsSo content id PathConflict known blames = blames
blames_beyond IsKnown IsSo content id (BadIndex place) known blames = blames
blames_beyond IsKnown IsSo content id (WrongEntry at) known blames = blames
blames_beyond IsKnown IsSo content id Down known blames = blames
