use Rattle.std.proofs.Common.{refl}
use Rattle.vc_events.proofs.NewLemmas.{new_world}
use Rattle.vc_events.proofs.world.World.over.Goals as goal

pub returns-clause-new : goal.returns-clause-new
returns-clause-new g c shared clones frail fresh = new_world g.S.SharedCalls.seen g.C.CloneCalls.seen frail _ fresh c.requires.some c.new.ensures.items refl
