use Rattle.std.proofs.Common.{◌≡◌, ◌<◌, ℕ, List, length, rules, refl, sym, subst, ap}
use Rattle.std.proofs.lemmas.Option.{slice_get_read}
use Rattle.vc_message.specs.Machine.{IsUnread, Reads}
use Rattle.vc_model.specs.ExactWorld.WorldEvent.{Forges}
use Rattle.vc_events.specs.Events.{letter_of}
use Rattle.vc_events.proofs.EventLemmas.{forged_to_clone, forged_to_shared}
use Rattle.vc_events.proofs.RunLemmas.{other_event}
use Rattle.vc_events.proofs.world.World.forge.Goals as goal

pub returns-in-ToShared-clause-steps : goal.returns-in-ToShared-clause-steps
returns-in-ToShared-clause-steps g c shared clone =
    let eight : length c.args.self.now.senders ≡ 8 = search rules in
    let there : c.in-ToShared.from < length c.args.self.now.clones.items = search rules in
    other_event g.S.SharedCalls.seen g.C.CloneCalls.seen _ _ _ _ _ (ap (λ l. Forges (letter_of l)) c.in-ToShared.is)
    (forged_to_shared g.S.SharedCalls.seen g.C.CloneCalls.seen _ _ c.in-ToShared.from c.in-ToShared.bytes.items c.deliver-called.result _ refl eight there
    (λ m reads. c.deliver-called.ensures.answers shared m (subst (λ (b : List ℕ). Reads b m) (sym c.deref.ensures.value) reads))
    (λ k unread. c.deliver-called.ensures.unread shared k (subst (λ (b : List ℕ). IsUnread b k) (sym c.deref.ensures.value) unread))
    c.from_shared.ensures.posts c.from_shared.ensures.senders)

pub returns-in-ToClone-clause-steps : goal.returns-in-ToClone-clause-steps
returns-in-ToClone-clause-steps g c shared clone =
    let below : c.in-ToClone.to < length c.args.self.now.clones.items = search rules in
    other_event g.S.SharedCalls.seen g.C.CloneCalls.seen _ _ _ _ _ (ap (λ l. Forges (letter_of l)) c.in-ToClone.is)
    (forged_to_clone g.S.SharedCalls.seen g.C.CloneCalls.seen _ _ c.in-ToClone.to c.in-ToClone.bytes.items _ _ c.deliver-called-in-ToClone.result _
    (slice_get_read c.args.self.now.clones.items (length c.args.self.now.clones.items) _ _ refl below c.index_mut.ensures.value) refl refl refl below
    (λ m reads. c.deliver-called-in-ToClone.ensures.answers clone m (subst (λ (b : List ℕ). Reads b m) (sym c.deref-in-ToClone.ensures.value) reads))
    (λ k unread. c.deliver-called-in-ToClone.ensures.unread clone k (subst (λ (b : List ℕ). IsUnread b k) (sym c.deref-in-ToClone.ensures.value) unread))
    c.from_clone.ensures)
