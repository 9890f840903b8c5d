use Rattle.std.proofs.lemmas.Result.{err_from_is_err_and}
use Rattle.vc_object.specs.declared.mode.Mode.TheVariants as modes
use Rattle.vc_rev.proofs.StepsLemmas.{entries_told}
use Rattle.vc_rev.proofs.value.entry_value.Goals as goal

pub returns-in_err-found-clause-refused : goal.returns-in_err-found-clause-refused
returns-in_err-found-clause-refused g c =
    let s = g.R.Repository.source (g.R.Repository.view_of c.args.repo.now) in
    let blames = g.R.Repository.blames (g.R.Repository.view_of c.args.repo.now) in
    let i = c.loop-part.invariant in
    let told = rw i.seen at c.in_err-found.ensures.refused in
    let p = err_from_is_err_and c.from_residual.result c.from_residual.ensures.1 in
    rw (p.1, p.2) (λ honest. entries_told s blames c.args.parts.now c.loop-part.part-index _ c.loop-part.mode c.loop-part.at modes.Tree c.args.tree c.in_err-found.field-0.0 c.loop-part-test.true (i.asked honest) (i.onward honest) (told honest))
