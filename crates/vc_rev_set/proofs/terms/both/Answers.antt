use Rattle.std.proofs.Common.{◌≡◌, Ok, refl}
use Rattle.std.proofs.lemmas.Result.{err_from_is_err_and}
use Rattle.vc_rev.specs.Answer.{After}
use Rattle.vc_rev_set.specs.Selection.{CommitAsks, CommitGives, CommitRead}
use Rattle.vc_expression.specs.Views.{rev_view}
use Rattle.vc_rev.proofs.AnswerLemmas.{told_first, told_next, told_only}
use Rattle.vc_rev_set.proofs.terms.both.Goals as goal

pub returns-in_err-first-clause-refused : goal.returns-in_err-first-clause-refused
returns-in_err-first-clause-refused g c =
    let s = g.R.Repository.source (g.R.Repository.view_of c.args.repo.now) in
    let blames = g.R.Repository.blames (g.R.Repository.view_of c.args.repo.now) in
    let p = err_from_is_err_and c.from_residual.result c.from_residual.ensures.1 in
    rw (p.1, p.2) (λ honest.
    told_first blames (CommitAsks s (rev_view c.args.from.now)) (CommitGives s (rev_view c.args.from.now)) (λ a. CommitAsks s (rev_view c.args.to.now)) (λ a. After (CommitGives s (rev_view c.args.to.now)) (λ b r. r ≡ Ok (a.0, b.0))) c.in_err-first.field-0.0 (c.in_err-first.ensures.refused honest))

pub returns-in_err-second-clause-refused : goal.returns-in_err-second-clause-refused
returns-in_err-second-clause-refused g c =
    let s = g.R.Repository.source (g.R.Repository.view_of c.args.repo.now) in
    let blames = g.R.Repository.blames (g.R.Repository.view_of c.args.repo.now) in
    let told = rw c.in_ok-first.ensures.seen at c.in_err-second.ensures.refused in
    let first : CommitRead = (c.in_ok-first.first, c.in_ok-first.field-0-1.items) in
    let p = err_from_is_err_and c.from_residual-in_err-second.result c.from_residual-in_err-second.ensures.1 in
    rw (p.1, p.2) (λ honest.
    told_next blames (CommitAsks s (rev_view c.args.from.now)) (CommitGives s (rev_view c.args.from.now)) (λ a. CommitAsks s (rev_view c.args.to.now)) (λ a. After (CommitGives s (rev_view c.args.to.now)) (λ b r. r ≡ Ok (a.0, b.0))) first c.in_err-second.field-0.0 (c.in_ok-first.ensures.ok honest)
    (told_only blames (CommitAsks s (rev_view c.args.to.now)) (CommitGives s (rev_view c.args.to.now)) (λ b r. r ≡ Ok (first.0, b.0)) c.in_err-second.field-0.0 (told honest)))

pub returns-clause-ok : goal.returns-clause-ok
returns-clause-ok g c honest =
    let next = rw c.in_ok-first.ensures.seen at c.in_ok-second.ensures.ok in
    (Ok (c.in_ok-first.first, c.in_ok-first.field-0-1.items), c.in_ok-first.ensures.ok honest, (Ok (c.in_ok-second.second, c.in_ok-second.field-0-1.items), next honest, refl))
