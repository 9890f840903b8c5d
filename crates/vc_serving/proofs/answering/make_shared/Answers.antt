use Rattle.vc_life.specs.Life.{opened_shared}
use Rattle.vc_shared.proofs.RestartLemmas.{held_open}
use Rattle.vc_serving.proofs.answering.make_shared.Goals as goal

pub returns-in-Ok-clause-made : goal.returns-in-Ok-clause-made
returns-in-Ok-clause-made g c = λ honest r openable. (c.in-Ok.shared.slots, rw c.close.ensures (c.in-Ok.ensures.opens honest r openable))

pub returns-in-Ok-clause-openable : goal.returns-in-Ok-clause-openable
returns-in-Ok-clause-openable g c = λ honest r openable. rw c.close.ensures (held_open _ c.in-Ok.shared.slots _ (opened_shared r) (c.in-Ok.ensures.opens honest r openable))
