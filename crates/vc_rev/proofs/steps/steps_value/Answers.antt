use Rattle.std.proofs.lemmas.Result.{err_from_is_err_and}
use Rattle.vc_rev.proofs.StepsLemmas.{steps_told}
use Rattle.vc_rev.proofs.steps.steps_value.Goals as goal

pub returns-in_err-at-clause-refused : goal.returns-in_err-at-clause-refused
returns-in_err-at-clause-refused g c =
    let s = g.R.Repository.source (g.R.Repository.view_of c.args.repo.now) in
    let blames = g.R.Repository.blames (g.R.Repository.view_of c.args.repo.now) in
    let i = c.steps.invariant in
    let told = rw i.seen at c.in_err-at.ensures.refused in
    let p = err_from_is_err_and c.from_residual.result c.from_residual.ensures.1 in
    rw (p.1, p.2) (λ honest. steps_told s blames c.args.steps.now c.steps.token-index _ c.steps.at c.args.id c.in_err-at.field-0.0 c.steps-test.true (i.asked honest) (i.onward honest) (told honest))
