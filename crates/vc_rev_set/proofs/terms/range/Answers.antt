use Rattle.std.proofs.Common.{◌≡◌, [], ◌∷◌, Ok, ap}
use Rattle.std.proofs.lemmas.Result.{err_from_is_err_and}
use Rattle.vc_rev_set.specs.Selection.{BothAsk, BothGive, selection, first_of, second_of}
use Rattle.vc_expression.specs.SetViews.{ends_view}
use Rattle.vc_rev.proofs.AnswerLemmas.{told_only}
use Rattle.vc_rev_set.proofs.terms.range.Goals as goal

pub returns-in_err-first-clause-refused : goal.returns-in_err-first-clause-refused
returns-in_err-first-clause-refused g c =
    let s = g.R.Repository.source (g.R.Repository.view_of c.args.repo.now) in
    let blames = g.R.Repository.blames (g.R.Repository.view_of c.args.repo.now) in
    let told = c.in_err-first.ensures.refused in
    let p = err_from_is_err_and c.from_residual.result c.from_residual.ensures.1 in
    rw (p.1, p.2) (λ honest. told_only blames (BothAsk s (first_of (ends_view c.args.ends.now)) (second_of (ends_view c.args.ends.now))) (BothGive s (first_of (ends_view c.args.ends.now)) (second_of (ends_view c.args.ends.now))) (λ ends r. r ≡ Ok (selection (ends.1 ∷ []) (ends.0 ∷ []) [])) c.in_err-first.field-0.0 (told honest))

pub returns-clause-ok : goal.returns-clause-ok
returns-clause-ok g c honest =
    let both = c.in_ok-first.ensures.ok in
    (Ok (c.in_ok-first.first, c.in_ok-first.second), both honest, ap Ok c.in_ok-between.ensures)
