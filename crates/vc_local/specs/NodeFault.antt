-- What a fault of a node is of, and which are no refusals.
use Rattle.std.specs.Prelude.{ℕ, Bool, true, false, IsTrue, Result, IsErrAnd, ◌||◌, ◌==◌}
use Rattle.vc_history.specs.declared.fault.HistoryFault.{HistoryFault}
use Rattle.vc_history.specs.declared.fault.HistoryFault.TheVariants as base
use Rattle.vc_files.specs.declared.faults.Fault.{Fault as FilesFault}
use Rattle.vc_files.specs.declared.faults.Fault.TheVariants as files
use Rattle.vc_graph.specs.declared.fault.GraphFault.{GraphFault}
use Rattle.vc_graph.specs.declared.fault.GraphFault.TheVariants as graph
use Rattle.vc_index.specs.declared.faults.IndexFault.{IndexFault}
use Rattle.vc_index.specs.declared.faults.IndexFault.TheVariants as index
use Rattle.vc_refs.specs.declared.faults.RefFault.{RefFault}
use Rattle.vc_refs.specs.declared.faults.RefFault.TheVariants as ref
use Rattle.vc_rev.specs.declared.refusal.SourceFault.{SourceFault}
use Rattle.vc_rev.specs.declared.refusal.SourceFault.TheVariants as source
use Rattle.vc_object_map.specs.declared.faults.StoreFault.{StoreFault}
use Rattle.vc_object_map.specs.declared.faults.StoreFault.TheVariants as store
use Rattle.vc_local.specs.declared.fault.NodeFault.{NodeFault}
use Rattle.vc_local.specs.declared.fault.NodeFault.TheVariants.{Store, Ref, Missing, NotACommit, BadPath, PathConflict, BadIndex, WrongEntry}

-- a fault of histories, as a node tells it
abbrev pub of_history : HistoryFault → NodeFault
of_history (base.Missing id) = Missing id
of_history (base.NotACommit id) = NotACommit id
of_history (base.Store fault) = Store fault

-- a fault of an index, as a node tells it
abbrev pub of_index : IndexFault → NodeFault
of_index index.BadPath = BadPath
of_index index.PathConflict = PathConflict
of_index (index.BadIndex place) = BadIndex place
of_index (index.WrongEntry at) = WrongEntry at
of_index (index.Missing id) = Missing id
of_index (index.Store fault) = Store fault

-- why what an expression names can't be read, as a node tells it
abbrev pub of_source : SourceFault → NodeFault
of_source (source.Store fault) = Store fault
of_source (source.BadRefFile path) = Ref (ref.BadRefFile path)
of_source source.HeadLoop = Ref ref.HeadLoop
of_source (source.BadIndex place) = BadIndex place

-- The layers of an exchange and of a session tell a fault of the device in one place alone: one that stands in another is told as
-- want of memory, since no device is known to have failed.
abbrev pub refused_by_store : StoreFault → NodeFault
refused_by_store (store.Fault fault) = Store (store.Fault files.Memory)
refused_by_store (store.BadObject fault) = Store (store.BadObject fault)
refused_by_store (store.Absent id) = Store (store.Absent id)
refused_by_store (store.Damaged id) = Store (store.Damaged id)

abbrev pub refused_by_refs : RefFault → NodeFault
refused_by_refs (ref.Fault fault) = Store (store.Fault files.Memory)
refused_by_refs (ref.Stale current) = Ref (ref.Stale current)
refused_by_refs (ref.Conflict name) = Ref (ref.Conflict name)
refused_by_refs (ref.BadRefFile path) = Ref (ref.BadRefFile path)
refused_by_refs ref.HeadLoop = Ref ref.HeadLoop

abbrev pub refused_by_graph : GraphFault → NodeFault
refused_by_graph (graph.Missing id) = Missing id
refused_by_graph (graph.Store fault) = refused_by_store fault

abbrev pub is_store_fault : StoreFault → Bool
is_store_fault (store.Fault fault) = true
is_store_fault _ = false

abbrev pub is_ref_fault : RefFault → Bool
is_ref_fault (ref.Fault fault) = true
is_ref_fault _ = false

-- want of memory, or a device that failed
abbrev pub is_fault : NodeFault → Bool
is_fault (Store fault) = is_store_fault fault
is_fault (Ref fault) = is_ref_fault fault
is_fault _ = false

-- ---- what takes a node down
abbrev pub store_takes_down : StoreFault → Bool
store_takes_down (store.BadObject fault) = false
store_takes_down (store.Absent id) = true
store_takes_down (store.Damaged id) = true
store_takes_down (store.Fault fault) = true

abbrev pub ref_takes_down : RefFault → Bool
ref_takes_down (ref.BadRefFile path) = true
ref_takes_down (ref.Fault fault) = true
ref_takes_down _ = false

-- a file of the node's own that is damaged or gone, want of memory, or a device that failed
abbrev pub takes_down : NodeFault → Bool
takes_down (Store fault) = store_takes_down fault
takes_down (Ref fault) = ref_takes_down fault
takes_down _ = false

-- the numbers that tell of such a file
abbrev pub is_of_own_file : ℕ → Bool
is_of_own_file number = number == 11 || (number == 12 || number == 33)

-- ---- the device
-- it failed
abbrev pub is_device : FilesFault → Bool
is_device files.Device = true
is_device files.Memory = false

abbrev pub IsOfDevice : NodeFault → Type 0
IsOfDevice (Store (store.Fault fault)) = IsTrue (is_device fault)
IsOfDevice (Ref (ref.Fault fault)) = IsTrue (is_device fault)
IsOfDevice _ = ⊥

-- the call tells a fault of the device
abbrev pub TellsDevice : {T : Type 0} → Result T NodeFault → Type 0
TellsDevice result = IsErrAnd result IsOfDevice
