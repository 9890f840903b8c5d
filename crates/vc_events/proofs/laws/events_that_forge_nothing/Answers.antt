use Rattle.vc_events.proofs.RunLemmas.{forges_nothing}
use Rattle.vc_events.proofs.laws.events_that_forge_nothing.Goals as goal

pub returns : goal.returns
returns c = forges_nothing
