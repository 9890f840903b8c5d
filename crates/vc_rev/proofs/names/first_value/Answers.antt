use Rattle.std.proofs.Common.{ℕ, Vec, Global, subst}
use Rattle.std.proofs.lemmas.Result.{err_from_is_err_and}
use Rattle.vc_rev.specs.Answer.{IsTold, IsNoAnswer}
use Rattle.vc_rev.specs.Asking.{RefAsks}
use Rattle.vc_rev.proofs.NamesLemmas.{names_told}
use Rattle.vc_rev.proofs.names.first_value.Goals as goal

pub returns-in_err-id-clause-refused : goal.returns-in_err-id-clause-refused
returns-in_err-id-clause-refused g c =
    let s = g.R.Repository.source (g.R.Repository.view_of c.args.repo.now) in
    let blames = g.R.Repository.blames (g.R.Repository.view_of c.args.repo.now) in
    let i = c.loop-name.invariant in
    let told = rw (i.seen, c.deref.ensures.value) at c.in_err-id.ensures.refused in
    let p = err_from_is_err_and c.from_residual.result c.from_residual.ensures.1 in
    rw (p.1, p.2) (λ honest. names_told s blames c.args.names.now c.loop-name.name-index c.name-item.result c.in_err-id.field-0.0 c.loop-name-test.true (i.asked honest)
    (subst (λ (v : Vec ℕ Global). IsTold blames (RefAsks v.items) IsNoAnswer c.in_err-id.field-0.0) c.name-item.is (told honest)))
