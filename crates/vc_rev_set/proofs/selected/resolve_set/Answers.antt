use Rattle.std.proofs.Common.{inr, sym}
use Rattle.std.proofs.lemmas.Result.{err_from_is_err_and, IfErr-weaker}
use Rattle.vc_rev_set.specs.RootsView.{roots_view}
use Rattle.vc_expression.specs.SetViews.{terms_view}
use Rattle.vc_rev_set.proofs.SelectionLemmas.{not_both, ok_both, told_one}
use Rattle.vc_rev_set.proofs.selected.resolve_set.Goals as goal

pub returns-in_err-roots-clause-only : goal.returns-in_err-roots-clause-only
returns-in_err-roots-clause-only g c honest refusal gives =
    let s = g.R.Repository.source (g.R.Repository.view_of c.args.repo.now) in
    let blames = g.R.Repository.blames (g.R.Repository.view_of c.args.repo.now) in
    let p = err_from_is_err_and c.from_residual.result c.from_residual.ensures.1 in
    let told = rw c.deref.ensures.value at c.in_err-roots.ensures.refused in
    rw (p.1, p.2) (told_one s blames (terms_view c.args.set.now) refusal c.in_err-roots.field-0.0 gives (told honest))

pub returns-clause-ok : goal.returns-clause-ok
returns-clause-ok g c =
    let gives = rw c.deref.ensures.value at c.in_ok-roots.ensures.ok in
    let same = sym (g.met.R.Repository.same_objects c.args.repo.now) in
    let selected = rw (c.in_ok-roots.ensures.kept, same) at c.selected.ensures.selected in
    let closed = rw (c.in_ok-roots.ensures.kept, same) at c.selected.ensures.closed in
    ok_both c.selected.result _ _ _ (λ ids is walked honest. (roots_view c.in_ok-roots.roots, gives honest, walked honest, is honest)) selected closed

pub returns-clause-refused : goal.returns-clause-refused
returns-clause-refused g c =
    let gives = rw c.deref.ensures.value at c.in_ok-roots.ensures.ok in
    let same = sym (g.met.R.Repository.same_objects c.args.repo.now) in
    let told = rw (c.in_ok-roots.ensures.kept, same) at c.selected.ensures.refused in
    IfErr-weaker c.selected.result _ _ (λ e h honest. inr (roots_view c.in_ok-roots.roots, gives honest, h honest)) told

pub returns-clause-only : goal.returns-clause-only
returns-clause-only g c honest refusal gives =
    let s = g.R.Repository.source (g.R.Repository.view_of c.args.repo.now) in
    let chosen = rw c.deref.ensures.value at c.in_ok-roots.ensures.ok in
    absurd (not_both s (terms_view c.args.set.now) (roots_view c.in_ok-roots.roots) refusal (chosen honest) gives)
