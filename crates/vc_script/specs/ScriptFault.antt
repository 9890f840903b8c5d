-- What is printed where a script is not played to its end.
use Rattle.std.specs.Prelude.{ℕ, List, codes}
use Rattle.vc_files.specs.Printed.{fault_text}
use Rattle.vc_script.specs.declared.fault.ScriptFault.{ScriptFault}
use Rattle.vc_script.specs.declared.fault.ScriptFault.TheVariants.{BadScript, Fault}

abbrev pub script_fault_text : ScriptFault → List ℕ
script_fault_text BadScript = codes "114 BadScript"
script_fault_text (Fault fault) = fault_text fault
