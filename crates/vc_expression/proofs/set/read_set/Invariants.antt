use Rattle.std.proofs.Common.{List, ◌++◌, length, map}
use Rattle.vc_expression.specs.SetGrammar.{TermText}
use Rattle.vc_expression.specs.SetReading.{Ending, ReadsSet}
use Rattle.vc_expression.specs.SetViews.{term_view, StandTerms}
use Rattle.vc_expression.specs.declared.token.Term.{Term}
use Rattle.vc_expression.specs.Views.{IsEnd}
use Rattle.vc_expression.proofs.set.read_set.Given as goal

-- what the rest is read as comes behind the terms that were read, and stands behind them
abbrev pub invariant-terms : goal.invariant-terms
invariant-terms l = record {
  set : (others : List TermText) (ending : Ending) → ReadsSet l.rest others ending → ReadsSet l.source (map term_view l.terms.items ++ others) ending;
  rest : IsEnd l.rest l.source;
  slices : (others : List Term) → StandTerms l.source l.rest others → StandTerms l.source l.source (l.terms.items ++ others);
}

abbrev pub decreases-terms : goal.decreases-terms
decreases-terms l = length l.rest
