-- What a refusal is printed as: its number and its name.
use Rattle.std.specs.Prelude.{ℕ, List, codes}
use Rattle.vc_files.specs.Printed.{fault_text}
use Rattle.vc_graph.specs.Printed.{graph_fault_text}
use Rattle.vc_pack.specs.declared.fault.AnswerFault.{AnswerFault}
use Rattle.vc_pack.specs.declared.fault.AnswerFault.TheVariants.{Fault, Graph, Incomplete, NotOurs, Refs}
use Rattle.vc_refs.specs.Printed.{ref_fault_text}

abbrev pub answer_fault_text : AnswerFault → List ℕ
answer_fault_text (NotOurs id) = codes "90 NotOurs"
answer_fault_text (Incomplete id) = codes "92 Incomplete"
answer_fault_text (Refs fault) = ref_fault_text fault
answer_fault_text (Graph fault) = graph_fault_text fault
answer_fault_text (Fault fault) = fault_text fault
