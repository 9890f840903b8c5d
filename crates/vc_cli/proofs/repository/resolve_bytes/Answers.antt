use Rattle.vc_expression.specs.Views.{expr_view}
use Rattle.vc_cli.proofs.repository.resolve_bytes.Goals as goal

pub returns-in-Ok-resolve-clause-value : goal.returns-in-Ok-resolve-clause-value
returns-in-Ok-resolve-clause-value g c = λ honest. (expr_view c.in-Ok.expr, c.in-Ok.ensures.ok, c.in-Ok-resolve.ensures.value honest)

pub returns-clause-refused : goal.returns-clause-refused
returns-clause-refused g c = λ honest. (expr_view c.in-Ok.expr, c.in-Ok.ensures.ok, c.in-Err-resolve.ensures.refused honest)
