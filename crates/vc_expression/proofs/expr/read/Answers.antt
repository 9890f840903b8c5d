use Rattle.std.proofs.Common.{codes}
use Rattle.std.proofs.lemmas.Bool.Decides.{Decides-eqb}
use Rattle.std.proofs.lemmas.Slice.Eq.{strip_prefix_is}
use Rattle.vc_expression.proofs.Places.{index_stands}
use Rattle.vc_expression.proofs.expr.read.Goals as goal

pub returns-in-Some-index_path-clause-slices : goal.returns-in-Some-index_path-clause-slices
returns-in-Some-index_path-clause-slices c =
    let parts = strip_prefix_is Decides-eqb c.args.source.now (codes ":") _ c.strip_prefix.ensures.cases in
    index_stands c.args.source.now c.in-Some.path.now c.in-Some-index_path.text.now c.in-Some-index_path.start (rw c.in-Some.is at parts) (rw c.in-Some-index_path.is at c.index_path.ensures)
