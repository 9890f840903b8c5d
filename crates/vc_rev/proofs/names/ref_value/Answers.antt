use Rattle.std.proofs.Common.{inl, inr, refl, ap, ◌∙◌}
use Rattle.vc_rev.proofs.names.ref_value.Goals as goal

pub returns-in_default-clause-ok : goal.returns-in_default-clause-ok
returns-in_default-clause-ok g c = λ honest. inr (rw c.in_default.is at c.in_ok-name.ensures.ok, refl)

pub ref_value-requires : goal.ref_value-requires
ref_value-requires g c = let f = rw c.in-Some.is at c.in_ok-name.ensures.ok in rw f.0 f.1.in_refs

pub returns-clause-ok : goal.returns-clause-ok
returns-clause-ok g c = λ honest.
    let f = rw c.in-Some.is at c.in_ok-name.ensures.ok in
    inl (f.1, c.in_ok-value.ensures.value honest ∙ ap (g.R.Repository.source (g.R.Repository.view_of c.args.repo.now)).names.ref f.0)
