use Rattle.std.proofs.Common.{Err, ap, sym, ◌∙◌}
use Rattle.vc_rev.specs.Meaning.{the_one}
use Rattle.vc_rev.proofs.NamesLemmas.{digits_gives}
use Rattle.vc_rev.proofs.names.digits_value.Goals as goal

pub returns-clause-refused : goal.returns-clause-refused
returns-clause-refused g c honest =
    let s = g.R.Repository.source (g.R.Repository.view_of c.args.repo.now) in
    digits_gives s c.args.name.now c.in_ok-ids.ids.items (Err c.in-Err.refusal) (sym c.is_prefix.ensures ∙ c.if-not-is_prefix.false) c.if-name-lt4.false (c.in_ok-ids.ensures.exact honest) (c.in_ok-ids.ensures.sorted honest)
    (sym c.in-Err.is ∙ c.the_one.ensures ∙ ap the_one c.deref.ensures.value)
