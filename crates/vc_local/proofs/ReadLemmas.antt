-- A bad file that is told is one that was read.
use Rattle.std.proofs.Common.{[], ◌∷◌}
use Rattle.vc_history.specs.HistoryFault.{IsTold}
use Rattle.vc_history.specs.declared.fault.HistoryFault.{HistoryFault}
use Rattle.vc_history.specs.declared.fault.HistoryFault.TheVariants as base
use Rattle.vc_files.specs.FileMap.{FileMap}
use Rattle.vc_object_map.specs.Graph.{ReachedFrom}
use Rattle.vc_object_map.specs.StoreFault.{IsMet}
use Rattle.vc_object.specs.ObjectMap.{parents_in}
use Rattle.vc_object.specs.declared.id.ObjectId.{ObjectId}
use Rattle.vc_object_map.specs.Store.{objects, IsDamaged}
use Rattle.vc_object_map.specs.declared.faults.StoreFault.{StoreFault}
use Rattle.vc_object_map.specs.declared.faults.StoreFault.TheVariants as store
use Rattle.vc_local.specs.NodeFault.{of_history}
use Rattle.vc_local.specs.Reads.{NoneRead, TellsRead, IsReached}
use Rattle.vc_local.specs.declared.fault.NodeFault.TheVariants.{Store}
use Rattle.vc_history.proofs.LinkLemmas.{Reaches-ancestor}

-- what a commit descends from it reaches
pub parent_read : (content : FileMap) (id : ObjectId) (e : StoreFault) → IsMet (ReachedFrom (parents_in (objects content)) (id ∷ [])) (IsDamaged content) e → TellsRead (IsReached content id) NoneRead (Store e)
parent_read content id (store.BadObject f) met = tt
parent_read content id (store.Absent x) met = tt
parent_read content id (store.Damaged x) met = record { root = met.0.root; is_root = met.0.is_root; reaches = Reaches-ancestor (objects content) met.0.reaches }
parent_read content id (store.Fault f) met = tt

pub told_read : (content : FileMap) (id : ObjectId) (e : HistoryFault) → IsTold (objects content) (IsDamaged content) (id ∷ []) e → TellsRead (IsReached content id) NoneRead (of_history e)
told_read content id (base.Missing x) told = tt
told_read content id (base.NotACommit x) told = tt
told_read content id (base.Store e) told = parent_read content id e told
