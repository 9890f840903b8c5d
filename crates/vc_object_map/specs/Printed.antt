-- What a refusal is printed as: its number and its name.
use Rattle.std.specs.Prelude.{ℕ, List, codes}
use Rattle.vc_files.specs.Printed.{fault_text}
use Rattle.vc_object.specs.Printed.{object_fault_text}
use Rattle.vc_object_map.specs.declared.faults.StoreFault.{StoreFault}
use Rattle.vc_object_map.specs.declared.faults.StoreFault.TheVariants.{Absent, BadObject, Damaged, Fault}

abbrev pub store_fault_text : StoreFault → List ℕ
store_fault_text (BadObject fault) = object_fault_text fault
store_fault_text (Absent id) = codes "11 Absent"
store_fault_text (Damaged id) = codes "12 Damaged"
store_fault_text (Fault fault) = fault_text fault
