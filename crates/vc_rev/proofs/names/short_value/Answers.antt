use Rattle.std.proofs.Common.{ℕ, List, ◌++◌, codes, ap, subst, ◌∙◌}
use Rattle.std.proofs.lemmas.Result.{err_from_is_err_and}
use Rattle.vc_rev.specs.Answer.{IsTold, IsNoAnswer}
use Rattle.vc_rev.specs.Asking.{FirstValueAsks}
use Rattle.vc_rev.specs.Meaning.{FirstValue}
use Rattle.vc_rev.proofs.NamesLemmas.{places_same}
use Rattle.vc_rev.proofs.names.short_value.Goals as goal

pub returns-clause-ok : goal.returns-clause-ok
returns-clause-ok g c = λ honest.
    let s = g.R.Repository.source (g.R.Repository.view_of c.args.repo.now) in
    subst (λ (names : List (List ℕ)). FirstValue s names c.in_ok-value.value) (places_same c.args.name.now c.in_ok-whole.whole.items c.in_ok-below.below.items c.in_ok-tag.tag.items c.in_ok-branch.branch.items c.in_ok-remote.remote.items c.in_ok-remote_head.remote_head.items
    c.in_ok-whole.ensures c.in_ok-below.ensures c.in_ok-tag.ensures c.in_ok-branch.ensures c.in_ok-remote.ensures
    (c.in_ok-remote_head.ensures ∙ ap (λ t. codes "refs/remotes/" ++ t) (c.deref.ensures.value ∙ c.in_ok-head.ensures)))
    (c.in_ok-value.ensures.ok honest)

pub returns-in_err-value-clause-refused : goal.returns-in_err-value-clause-refused
returns-in_err-value-clause-refused g c =
    let s = g.R.Repository.source (g.R.Repository.view_of c.args.repo.now) in
    let blames = g.R.Repository.blames (g.R.Repository.view_of c.args.repo.now) in
    let p = err_from_is_err_and c.from_residual-in_err-value.result c.from_residual-in_err-value.ensures.1 in
    rw (p.1, p.2) (λ honest.
    subst (λ (names : List (List ℕ)). IsTold blames (FirstValueAsks s names) IsNoAnswer c.in_err-value.field-0.0) (places_same c.args.name.now c.in_ok-whole.whole.items c.in_ok-below.below.items c.in_ok-tag.tag.items c.in_ok-branch.branch.items c.in_ok-remote.remote.items c.in_ok-remote_head.remote_head.items
    c.in_ok-whole.ensures c.in_ok-below.ensures c.in_ok-tag.ensures c.in_ok-branch.ensures c.in_ok-remote.ensures
    (c.in_ok-remote_head.ensures ∙ ap (λ t. codes "refs/remotes/" ++ t) (c.deref.ensures.value ∙ c.in_ok-head.ensures)))
    (c.in_err-value.ensures.refused honest))
