use Rattle.vc_rev.specs.Asking.{ExprAsks}
use Rattle.vc_rev.specs.Meaning.{Denotes}
use Rattle.vc_expression.specs.Views.{expr_view}
use Rattle.vc_rev.proofs.SameAnswer.{denotes_one, only_answer}
use Rattle.std.proofs.lemmas.Result.{IfOk-weaker, IfErr-weaker}
use Rattle.vc_rev.proofs.value.resolve.Goals as goal

pub returns-clause-only : goal.returns-clause-only
returns-clause-only g c honest =
    let s = g.R.Repository.source (g.R.Repository.view_of c.args.repo.now) in
    let blames = g.R.Repository.blames (g.R.Repository.view_of c.args.repo.now) in
    only_answer blames (ExprAsks s (expr_view c.args.expr.now)) (Denotes s (expr_view c.args.expr.now)) c.expr_value.result (denotes_one s (expr_view c.args.expr.now))
    (IfOk-weaker c.expr_value.result _ _ (λ found h. h honest) c.expr_value.ensures.ok)
    (IfErr-weaker c.expr_value.result _ _ (λ e h. h honest) c.expr_value.ensures.refused)
