-- That the value of an expression over a node's files, or why there is none, is the machine's answer to the question for it.
use Rattle.std.specs.Prelude.{◌≡◌, ◌≢◌, ℕ, Bool, true, false, List, Option, Result, Ok, IfOk, IfErr}
use Rattle.vc_files.specs.FileMap.{FileMap}
use Rattle.vc_rules.specs.Told.{Quietly}
use Rattle.vc_model.specs.Node.Answer.{Declined}
use Rattle.vc_model.specs.Question.Question.{Resolve}
use Rattle.vc_model.specs.SharedCall.{SharedCall}
use Rattle.vc_model.specs.SharedCall.SharedCall.{Asks, Open}
use Rattle.vc_local.specs.Told.{FoundAs}
use Rattle.vc_local.specs.Values.{rev_answer, up_after_value}
use Rattle.vc_object.specs.declared.id.ObjectId.{ObjectId}
use Rattle.vc_repository.specs.Resolving.{DenotesIn, IsOfExpr}
use Rattle.vc_expression.specs.Grammar.{ExprText, IsExpr}
use Rattle.vc_rev.specs.declared.refusal.RevFault.{RevFault}
use Rattle.vc_push_rules.specs.Session.{SessionText}
use Rattle.vc_shared.specs.Calls.{AnswersShared}
use Rattle.vc_shared.specs.Faults.{of_rev}
use Rattle.vc_shared.specs.declared.fault.SharedFault.{SharedFault}

-- over any files: why an expression has no value, as the shared node tells it
abbrev pub IsRefusedValue : FileMap → ExprText → SharedFault → Type 0
IsRefusedValue content e fault = (f : RevFault) × (fault ≡ of_rev f) × IsOfExpr content e f

-- of a node that is up: the value of the expression that the text is, or why there is none, is told
abbrev pub ValuesAnswer : Type 0
ValuesAnswer = (old new : FileMap) (slots after : List (Option SessionText)) (text : List ℕ) (e : ExprText) (was_up is_up : Bool) (result : Result ObjectId RevFault)
    → IsExpr text e → IfOk result (λ id. DenotesIn old e (Ok id)) → IfErr result (IsOfExpr old e) → new ≡ old → after ≡ slots
    → was_up ≡ true → is_up ≡ up_after_value result → AnswersShared (Asks (Resolve text)) (FoundAs rev_answer result) old new slots after was_up is_up

-- of a node that is down, to whatever call but one that opens it
abbrev pub DownDeclines : Type 0
DownDeclines = (old new : FileMap) (slots after : List (Option SessionText)) (call : SharedCall) (was_up is_up : Bool)
    → call ≢ Open → new ≡ old → after ≡ slots → is_up ≡ was_up → was_up ≡ false → AnswersShared call (Quietly (Declined 112)) old new slots after was_up is_up
