-- What a refusal is printed as: its number and its name.
use Rattle.std.specs.Prelude.{ℕ, List, codes}
use Rattle.vc_local.specs.declared.fault.NodeFault.{NodeFault}
use Rattle.vc_local.specs.declared.fault.NodeFault.TheVariants.{Store, Ref, Missing, NotACommit, BadPath, PathConflict, BadIndex, WrongEntry, Down}
use Rattle.vc_object_map.specs.Printed.{store_fault_text}
use Rattle.vc_refs.specs.Printed.{ref_fault_text}

abbrev pub node_fault_text : NodeFault → List ℕ
node_fault_text (Store fault) = store_fault_text fault
node_fault_text (Ref fault) = ref_fault_text fault
node_fault_text (Missing id) = codes "40 Missing"
node_fault_text (NotACommit id) = codes "41 NotACommit"
node_fault_text BadPath = codes "60 BadPath"
node_fault_text PathConflict = codes "61 PathConflict"
node_fault_text (BadIndex place) = codes "62 BadIndex"
node_fault_text (WrongEntry path) = codes "63 WrongEntry"
node_fault_text Down = codes "112 Down"
