use Rattle.std.proofs.Common.{rules, refl, sym, subst, vec_len}
use Rattle.std.proofs.lemmas.Option.{slice_get_read}
use Rattle.vc_wire.proofs.WireLaws.{message_wire}
use Rattle.vc_model.specs.ExactWorld.{CallsClone, CallsShared}
use Rattle.vc_model.specs.ExactWorld.WorldEvent.{Prunes}
use Rattle.vc_model.specs.CloneCall.CloneCall.{Prune}
use Rattle.vc_model.specs.SharedCall.SharedCall.{Prune as PruneShared}
use Rattle.vc_rules.specs.Git.{git}
use Rattle.vc_events.specs.Events.{party_of}
use Rattle.vc_events.specs.declared.events.Party.{Party}
use Rattle.vc_events.specs.Calls.{IsOnly}
use Rattle.vc_events.proofs.EventLemmas.{clone_event, shared_event}
use Rattle.vc_events.proofs.world.World.prune.Goals as goal

pub returns-in-Shared-clause-steps : goal.returns-in-Shared-clause-steps
returns-in-Shared-clause-steps g c shared clone = shared_event g.S.SharedCalls.seen g.C.CloneCalls.seen _ _ PruneShared c.prune-called.result _ _
    refl (search rules) (c.prune-called.ensures.answers shared) c.from_shared.ensures.posts c.from_shared.ensures.senders (λ w. subst (λ (p : Party). CallsShared git message_wire w.world (Prunes (party_of p)) 0 PruneShared) (sym c.in-Shared.is) (refl, refl))

pub returns-in-Clone-clause-steps : goal.returns-in-Clone-clause-steps
returns-in-Clone-clause-steps g c shared clone = clone_event g.S.SharedCalls.seen g.C.CloneCalls.seen _ _ c.in-Clone.clone _ _ (IsOnly Prune) c.prune-called-in-Clone.result _ _
    (slice_get_read c.args.self.now.clones.items (vec_len c.args.self.now.clones) _ _ (search rules) (search rules) c.index_mut.ensures.value) refl refl refl (search rules)
    (c.prune-called-in-Clone.ensures.answers clone) c.from_clone.ensures (λ w n i is. subst (λ (p : Party). CallsClone git message_wire w.world (Prunes (party_of p)) c.in-Clone.clone n i) (sym c.in-Clone.is) (refl, is))
