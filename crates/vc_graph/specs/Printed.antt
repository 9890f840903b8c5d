-- What a refusal is printed as: its number and its name.
use Rattle.std.specs.Prelude.{ℕ, List, codes}
use Rattle.vc_graph.specs.declared.fault.GraphFault.{GraphFault}
use Rattle.vc_graph.specs.declared.fault.GraphFault.TheVariants.{Missing, Store}
use Rattle.vc_object_map.specs.Printed.{store_fault_text}

abbrev pub graph_fault_text : GraphFault → List ℕ
graph_fault_text (Missing id) = codes "40 Missing"
graph_fault_text (Store fault) = store_fault_text fault
