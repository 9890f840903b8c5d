use Rattle.std.proofs.Common.{codes, subst}
use Rattle.std.proofs.lemmas.Bool.Decides.{Decides-eqb}
use Rattle.std.proofs.lemmas.Slice.Eq.{strip_prefix_is}
use Rattle.vc_expression.specs.Views.{StandsRev}
use Rattle.vc_expression.proofs.Places.{end_on, place_of}
use Rattle.vc_expression.proofs.expr.read_object.Goals as goal

pub returns-clause-slices : goal.returns-clause-slices
returns-clause-slices c =
    let parts = strip_prefix_is Decides-eqb c.in_ok-rev.rest.now (codes ":") _ c.strip_prefix.ensures.cases in
    let behind = rw c.in-Some.is at parts in (
      subst (λ (r : _). StandsRev c.args.source.now c.args.source.now c.in_ok-rev.rev r) behind c.in_ok-rev.ensures.stands,
      place_of c.args.source.now c.in-Some.text.now (end_on c.args.source.now c.in_ok-rev.rest.now (codes ":") c.in-Some.text.now c.in_ok-rev.ensures.rest behind),
    )
