use Rattle.std.proofs.Common.{Ok}
use Rattle.std.proofs.lemmas.Result.{err_from_is_err_and, IfOk-weaker, IfErr-weaker}
use Rattle.vc_rev.specs.Asking.{PathAsks, RevAsks}
use Rattle.vc_rev.specs.Meaning.{RevGives, PathGives}
use Rattle.vc_expression.specs.Views.{rev_view}
use Rattle.vc_rev.proofs.AnswerLemmas.{told_first, told_next}
use Rattle.vc_rev.proofs.value.in_tree.Goals as goal

pub returns-in_err-id-clause-refused : goal.returns-in_err-id-clause-refused
returns-in_err-id-clause-refused g c =
    let s = g.R.Repository.source (g.R.Repository.view_of c.args.repo.now) in
    let blames = g.R.Repository.blames (g.R.Repository.view_of c.args.repo.now) in
    let p = err_from_is_err_and c.from_residual.result c.from_residual.ensures.1 in
    rw (p.1, p.2) (λ honest. told_first blames (RevAsks s (rev_view c.args.rev.now)) (RevGives s (rev_view c.args.rev.now)) (PathAsks s c.args.path.now) (PathGives s c.args.path.now) c.in_err-id.field-0.0 (c.in_err-id.ensures.refused honest))

pub returns-clause-ok : goal.returns-clause-ok
returns-clause-ok g c =
    let then = rw c.in_ok-id.ensures.seen at c.path_value.ensures.ok in
    IfOk-weaker c.path_value.result _ _ (λ found h honest. (Ok c.in_ok-id.id, c.in_ok-id.ensures.ok honest, h honest)) then

pub returns-clause-refused : goal.returns-clause-refused
returns-clause-refused g c =
    let s = g.R.Repository.source (g.R.Repository.view_of c.args.repo.now) in
    let blames = g.R.Repository.blames (g.R.Repository.view_of c.args.repo.now) in
    let then = rw c.in_ok-id.ensures.seen at c.path_value.ensures.refused in
    IfErr-weaker c.path_value.result _ _ (λ e h honest. told_next blames (RevAsks s (rev_view c.args.rev.now)) (RevGives s (rev_view c.args.rev.now)) (PathAsks s c.args.path.now) (PathGives s c.args.path.now) c.in_ok-id.id e (c.in_ok-id.ensures.ok honest) (h honest)) then
