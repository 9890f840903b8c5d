use Rattle.std.proofs.Common.{rules, refl, vec_len}
use Rattle.std.proofs.lemmas.Option.{slice_get_read}
use Rattle.vc_events.specs.Calls.{IsOrdered}
use Rattle.vc_events.proofs.EventLemmas.{clone_event}
use Rattle.vc_events.proofs.world.World.order.Goals as goal

pub returns-clause-steps : goal.returns-clause-steps
returns-clause-steps g c shared clone = clone_event g.S.SharedCalls.seen g.C.CloneCalls.seen _ _ c.args.clone _ _ (IsOrdered c.args.order.now) c.obey-called.result _ _
    (slice_get_read c.args.self.now.clones.items (vec_len c.args.self.now.clones) _ _ (search rules) c.requires.there c.index_mut.ensures.value) refl refl refl (search rules)
    (c.obey-called.ensures.answers clone) c.from_clone.ensures (λ w n i is. (refl, is))
