use Rattle.std.proofs.Common.{ap, refl, rules, vec_len}
use Rattle.std.proofs.lemmas.Option.{slice_get_read}
use Rattle.vc_model.specs.ExactWorld.WorldEvent.{Stops}
use Rattle.vc_events.specs.Events.{party_of}
use Rattle.vc_events.proofs.EventLemmas.{stop_at_clone, stop_at_shared}
use Rattle.vc_events.proofs.RunLemmas.{other_event}
use Rattle.vc_events.proofs.world.World.stop.Goals as goal

pub returns-in-Shared-clause-steps : goal.returns-in-Shared-clause-steps
returns-in-Shared-clause-steps g c shared clone = other_event g.S.SharedCalls.seen g.C.CloneCalls.seen _ _ _ _ _ (ap (λ p. Stops (party_of p) c.args.writes) c.in-Shared.is)
    (stop_at_shared g.S.SharedCalls.seen g.C.CloneCalls.seen _ _ c.args.writes _ refl refl refl (c.stop.ensures.stops shared) refl)

pub returns-in-Clone-clause-steps : goal.returns-in-Clone-clause-steps
returns-in-Clone-clause-steps g c shared clone = other_event g.S.SharedCalls.seen g.C.CloneCalls.seen _ _ _ _ _ (ap (λ p. Stops (party_of p) c.args.writes) c.in-Clone.is)
    (stop_at_clone g.S.SharedCalls.seen g.C.CloneCalls.seen _ _ c.args.writes c.in-Clone.clone _ _ _
    (slice_get_read c.args.self.now.clones.items (vec_len c.args.self.now.clones) _ _ (search rules) (search rules) c.index_mut.ensures.value) refl refl refl refl (c.stop-in-Clone.ensures.stops clone) refl)
