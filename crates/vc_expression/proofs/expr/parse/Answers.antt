use Rattle.std.proofs.Common.{◌≡◌, List, ℕ, Result, Ok, Err, IfOk, IfErr, MatchResult}
use Rattle.vc_expression.specs.Grammar.{ExprText, IsExpr}
use Rattle.vc_expression.specs.Views.{expr_view}
use Rattle.vc_expression.specs.Faults.{ReadsExpr, ExprError}
use Rattle.vc_expression.specs.declared.fault.ParseFault.{ParseFault}
use Rattle.vc_expression.specs.declared.fault.ParseFault.TheVariants as errors
use Rattle.std.proofs.lemmas.Result.{IfOk-weaker}
use Rattle.vc_expression.proofs.ExprLemmas.{expr_from_read, expr_again, expr_same, error_none, result_only}
use Rattle.vc_expression.proofs.expr.parse.Goals as goal

pub returns-clause-ok : goal.returns-clause-ok
returns-clause-ok c = IfOk-weaker c.read.result _ _ (λ expr h. expr_from_read c.args.source.now (expr_view expr) h) c.read.ensures.ok

-- by cases on what was read
found : {E : Type 0} (view : E → ExprText) (text : List ℕ) (r : Result E ParseFault) → IfOk r (λ e. ReadsExpr text (view e)) → IfErr r (ExprError text) → (expr : ExprText) → IsExpr text expr → MatchResult r (λ e. view e ≡ expr) (λ e. e ≡ errors.Memory)
found view text (Ok e) ok err expr i = expr_same text (view e) expr ok (expr_again text expr i)
found view text (Err e) ok err expr i = error_none text e expr err (expr_again text expr i)

pub returns-clause-found : goal.returns-clause-found
returns-clause-found c = found expr_view c.args.source.now c.read.result c.read.ensures.ok c.read.ensures.fault

pub returns-clause-only : goal.returns-clause-only
returns-clause-only c = result_only expr_view c.args.source.now c.read.result c.read.ensures.ok c.read.ensures.fault
