use Rattle.vc_events.proofs.BoundLemmas.{never_sent_is_refused}
use Rattle.vc_events.proofs.laws.what_was_never_sent_is_refused.Goals as goal

pub returns : goal.returns
returns g c = never_sent_is_refused g.S.SharedCalls.seen g.C.CloneCalls.seen
