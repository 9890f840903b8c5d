-- What a refusal is printed as: its number and its name.
use Rattle.std.specs.Prelude.{ℕ, List, codes}
use Rattle.vc_expression.specs.declared.fault.ParseFault.{ParseFault}
use Rattle.vc_expression.specs.declared.fault.ParseFault.TheVariants.{BadSyntax, Memory}

abbrev pub parse_fault_text : ParseFault → List ℕ
parse_fault_text (BadSyntax place) = codes "50 BadSyntax"
parse_fault_text Memory = codes "memory"
