-- What a refusal is printed as: its number and its name.
use Rattle.std.specs.Prelude.{ℕ, List, codes}
use Rattle.vc_history.specs.declared.fault.HistoryFault.{HistoryFault}
use Rattle.vc_history.specs.declared.fault.HistoryFault.TheVariants.{Missing, NotACommit, Store}
use Rattle.vc_object_map.specs.Printed.{store_fault_text}

abbrev pub history_fault_text : HistoryFault → List ℕ
history_fault_text (Missing id) = codes "40 Missing"
history_fault_text (NotACommit id) = codes "41 NotACommit"
history_fault_text (Store fault) = store_fault_text fault
