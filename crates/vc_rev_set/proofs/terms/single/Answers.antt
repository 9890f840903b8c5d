use Rattle.std.proofs.Common.{◌≡◌, Ok, ap}
use Rattle.std.proofs.lemmas.Result.{err_from_is_err_and}
use Rattle.vc_rev_set.specs.Selection.{CommitAsks, CommitGives}
use Rattle.vc_rev_set.specs.Uses.{used}
use Rattle.vc_expression.specs.Views.{rev_view}
use Rattle.vc_rev.proofs.AnswerLemmas.{told_only}
use Rattle.vc_rev_set.proofs.terms.single.Goals as goal

pub returns-in_err-id-clause-refused : goal.returns-in_err-id-clause-refused
returns-in_err-id-clause-refused g c =
    let s = g.R.Repository.source (g.R.Repository.view_of c.args.repo.now) in
    let blames = g.R.Repository.blames (g.R.Repository.view_of c.args.repo.now) in
    let p = err_from_is_err_and c.from_residual.result c.from_residual.ensures.1 in
    rw (p.1, p.2) (λ honest. told_only blames (CommitAsks s (rev_view c.args.rev.now)) (CommitGives s (rev_view c.args.rev.now)) (λ f a. a ≡ Ok (used c.args.way f)) c.in_err-id.field-0.0 (c.in_err-id.ensures.refused honest))

pub returns-clause-ok : goal.returns-clause-ok
returns-clause-ok g c honest = (Ok (c.in_ok-id.id, c.in_ok-id.parents.items), c.in_ok-id.ensures.ok honest, ap Ok c.in_ok-used.ensures)
