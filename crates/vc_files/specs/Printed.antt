-- What a fault is printed as.
use Rattle.std.specs.Prelude.{ℕ, List, codes}
use Rattle.vc_files.specs.declared.faults.Fault.{Fault}
use Rattle.vc_files.specs.declared.faults.Fault.TheVariants.{Device, Memory}

abbrev pub fault_text : Fault → List ℕ
fault_text Memory = codes "memory"
fault_text Device = codes "device"
