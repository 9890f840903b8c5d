use Rattle.vc_expression.specs.SetViews.{terms_view}
use Rattle.vc_expression.proofs.SetSame.{result_ok, result_found, result_only}
use Rattle.vc_expression.proofs.set.parse_set.Goals as goal

pub returns-clause-ok : goal.returns-clause-ok
returns-clause-ok c = result_ok terms_view c.args.source.now c.read_set.result c.read_set.ensures.ok

pub returns-clause-found : goal.returns-clause-found
returns-clause-found c = result_found terms_view c.args.source.now c.read_set.result c.read_set.ensures.ok c.read_set.ensures.fault

pub returns-clause-only : goal.returns-clause-only
returns-clause-only c = result_only terms_view c.args.source.now c.read_set.result c.read_set.ensures.ok c.read_set.ensures.fault
