use Rattle.std.proofs.Common.{◌≡◌, ◌<◌, ℕ, List, length, rules, refl, sym, subst, vec_len, arith}
use Rattle.std.proofs.lemmas.Option.{slice_get_read}
use Rattle.vc_message.specs.Machine.{Reads}
use Rattle.vc_events.proofs.EventLemmas.{found_at, none_at, nothing_steps, nobody_steps, accept_steps, receive_steps}
use Rattle.vc_events.proofs.world.World.deliver.Goals as goal

pub returns-in_default-clause-steps : goal.returns-in_default-clause-steps
returns-in_default-clause-steps g c shared clone = nothing_steps g.S.SharedCalls.seen g.C.CloneCalls.seen _ _ c.args.message _
    (none_at c.args.self.now.letters.items c.deref.result.now c.args.message (search rules) c.deref.ensures.value) refl refl

pub returns-then-to-len-clause-steps : goal.returns-then-to-len-clause-steps
returns-then-to-len-clause-steps g c shared clone =
    let count : vec_len c.args.self.now.clones ≡ length c.args.self.now.clones.items = search rules in
    nobody_steps g.S.SharedCalls.seen g.C.CloneCalls.seen _ _ c.args.message c.in-ToClone.to c.in-ToClone.bytes _
    (found_at c.args.self.now.letters.items c.deref.result.now c.args.message c.in-Some.letter.now _ (search rules) (search rules) c.deref.ensures.value c.in-ToClone.is)
    (omega (arith, count, c.len.ensures, c.if-to-len.true))

pub returns-in-ToShared-clause-steps : goal.returns-in-ToShared-clause-steps
returns-in-ToShared-clause-steps g c shared clone = accept_steps g.S.SharedCalls.seen g.C.CloneCalls.seen _ _ c.args.message c.in-ToShared.from c.in-ToShared.bytes c.deliver-called.result _
    (found_at c.args.self.now.letters.items c.deref.result.now c.args.message c.in-Some.letter.now _ (search rules) (search rules) c.deref.ensures.value c.in-ToShared.is)
    refl (search rules)
    (λ m reads. c.deliver-called.ensures.answers shared m (subst (λ (b : List ℕ). Reads b m) (sym c.deref-in-ToShared.ensures.value) reads)) c.from_shared.ensures.posts c.from_shared.ensures.senders

pub returns-else-to-len-clause-steps : goal.returns-else-to-len-clause-steps
returns-else-to-len-clause-steps g c shared clone =
    let count : vec_len c.args.self.now.clones ≡ length c.args.self.now.clones.items = search rules in
    let below : c.in-ToClone.to < length c.args.self.now.clones.items = omega (arith, count, c.len.ensures, c.if-to-len.false) in
    receive_steps g.S.SharedCalls.seen g.C.CloneCalls.seen _ _ c.args.message c.in-ToClone.to c.in-ToClone.bytes _ _ c.deliver-called-in-ToClone.result _
    (found_at c.args.self.now.letters.items c.deref.result.now c.args.message c.in-Some.letter.now _ (search rules) (search rules) c.deref.ensures.value c.in-ToClone.is)
    (slice_get_read c.args.self.now.clones.items (length c.args.self.now.clones.items) _ _ refl below c.index_mut.ensures.value) refl refl refl below
    (λ m reads. c.deliver-called-in-ToClone.ensures.answers clone m (subst (λ (b : List ℕ). Reads b m) (sym c.deref-in-ToClone.ensures.value) reads)) c.from_clone.ensures
