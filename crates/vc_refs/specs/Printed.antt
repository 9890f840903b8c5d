-- What a refusal is printed as: its number and its name.
use Rattle.std.specs.Prelude.{ℕ, List, codes}
use Rattle.vc_files.specs.Printed.{fault_text}
use Rattle.vc_refs.specs.declared.faults.RefFault.{RefFault}
use Rattle.vc_refs.specs.declared.faults.RefFault.TheVariants.{BadRefFile, Conflict, Fault, HeadLoop, Stale}

abbrev pub ref_fault_text : RefFault → List ℕ
ref_fault_text (Stale value) = codes "31 Stale"
ref_fault_text (Conflict name) = codes "32 Conflict"
ref_fault_text (BadRefFile path) = codes "33 BadRefFile"
ref_fault_text HeadLoop = codes "34 HeadLoop"
ref_fault_text (Fault fault) = fault_text fault
