-- The machine's answer where an expression has no value, and what is told of an expression over clean files that spell a repository.
use Rattle.std.specs.Prelude.{ℕ, Bool, true, false, not, List, Result, Ok, Err, IfOk, IfErr}
use Rattle.vc_files.specs.FileMap.{FileMap}
use Rattle.vc_format.specs.Git.{bytes_of_id}
use Rattle.vc_model.specs.Node.{Answer}
use Rattle.vc_model.specs.Node.Answer.{Declined}
use Rattle.vc_model.specs.Repository.{Repository}
use Rattle.vc_object.specs.declared.id.ObjectId.{ObjectId}
use Rattle.vc_repository.specs.Resolving.{DenotesIn, IsOfExpr}
use Rattle.vc_expression.specs.Grammar.{ExprText, IsExpr}
use Rattle.vc_rev.specs.Value.{refusal_number}
use Rattle.vc_rev.specs.declared.refusal.RevFault.{RevFault}
use Rattle.vc_rev.specs.declared.refusal.RevFault.TheVariants.{Refused, Missing, NotACommit, Source}
use Rattle.vc_rev.specs.declared.refusal.SourceFault.TheVariants.{Store}
use Rattle.vc_values.specs.Values.{DenotesAt}
use Rattle.vc_object_map.specs.declared.faults.StoreFault.TheVariants as store
use Rattle.vc_local.specs.Clean.{IsClean}
use Rattle.vc_local.specs.Machine.{Spells, fault_answer}
use Rattle.vc_local.specs.NodeFault.{of_source, takes_down}
use Rattle.vc_local.specs.Shown.{shown}

-- the machine's answer where an expression has no value
abbrev pub rev_answer : RevFault → Answer
rev_answer (Refused refusal) = Declined (refusal_number refusal)
rev_answer (Missing id) = Declined 40
rev_answer (NotACommit id) = Declined 41
rev_answer (Source fault) = fault_answer (of_source fault)

-- what takes the node down
abbrev pub value_takes_down : RevFault → Bool
value_takes_down (Source fault) = takes_down (of_source fault)
value_takes_down _ = false

-- whether the node is up after the call
abbrev pub up_after_value : Result ObjectId RevFault → Bool
up_after_value (Ok id) = true
up_after_value (Err e) = not (value_takes_down e)

-- what the text denotes at the repository is told: its value, or the refusal that it has. A fault tells nothing of it.
abbrev pub TellsValue : Repository → List ℕ → Result ObjectId RevFault → Type 0
TellsValue r text (Ok id) = DenotesAt r text (Ok (bytes_of_id id))
TellsValue r text (Err (Refused refusal)) = DenotesAt r text (Err (refusal_number refusal))
TellsValue r text (Err (Source (Store (store.Fault fault)))) = Unit {0}
TellsValue r text (Err _) = ⊥

-- over clean files that spell a repository: an expression is told what its text denotes there
abbrev pub ValuesAreTold : Type 0
ValuesAreTold = (content : FileMap) (r : Repository) (text : List ℕ) (e : ExprText) (result : Result ObjectId RevFault)
    → IsClean content → Spells (shown content) r → IsExpr text e
    → IfOk result (λ id. DenotesIn content e (Ok id)) → IfErr result (IsOfExpr content e) → TellsValue r text result
