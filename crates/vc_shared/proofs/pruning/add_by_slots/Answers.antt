use Rattle.std.proofs.Common.{arith, ◌≡◌, ◌<◌, ◌≤◌, ◌∙◌, Err, Option, length, refl, rules, subst, sym}
use Rattle.vc_push_rules.specs.Session.{SessionText}
use Rattle.vc_shared.proofs.AddingLemmas.{adds_all, adds_first, adds_next, slot_at}
use Rattle.vc_shared.proofs.pruning.add_by_slots.Goals as goal
use Rattle.vc_shared.specs.Pruning.{AddsInSlot, BlamesSlot, BlamesSlots}
use Rattle.vc_shared.specs.Slots.{slot_of}

pub loop-i-init : goal.loop-i-init
loop-i-init g c = record { same = refl; wear = search rules; added = λ honest. adds_first _ _ _ }

pub loop-i-preserved : goal.loop-i-preserved
loop-i-preserved g c =
    let content = g.F.Files.content in
    let before = c.loop-i.invariant in
    let slots = c.args.slots.now in
    let i = c.loop-i.i in
    let below : i < length slots = omega (arith, c.loop-i-test.true) in
    let here : slot_of slots i ≡ c.index-slots-i.result = slot_at slots i c.index-slots-i.result below c.index-slots-i.is in
    record {
      same = c.in_ok-add_in_slot.ensures.same ∙ before.same;
      wear = search rules;
      added = λ honest.
          let next : AddsInSlot (content c.args.files.now) (slot_of slots i) c.loop-i.kept.keys c.add_in_slot.new.kept.keys =
          subst (λ (v : Option SessionText). AddsInSlot (content c.args.files.now) v c.loop-i.kept.keys c.add_in_slot.new.kept.keys) (sym c.index-slots-i.is ∙ sym here) (rw before.same at (c.in_ok-add_in_slot.ensures.added honest)) in
          adds_next (content c.args.files.now) slots c.args.kept.now.keys i c.loop-i.kept.keys c.add_in_slot.new.kept.keys (before.added honest) next;
    }

pub returns-in_err-add_in_slot-clause-refused : goal.returns-in_err-add_in_slot-clause-refused
returns-in_err-add_in_slot-clause-refused g c = λ honest.
    let before = c.loop-i.invariant in
    let slots = c.args.slots.now in
    let i = c.loop-i.i in
    let e = c.in_err-add_in_slot.field-0.0 in
    let below : i < length slots = omega (arith, c.loop-i-test.true) in
    let here : slot_of slots i ≡ c.index-slots-i.result = slot_at slots i c.index-slots-i.result below c.index-slots-i.is in
    let content = g.F.Files.content c.args.files.now in
    let blames : BlamesSlot content (slot_of slots i) e =
    subst (λ (v : Option SessionText). BlamesSlot content v e) (sym c.index-slots-i.is ∙ sym here) (rw before.same at (c.in_err-add_in_slot.ensures.refused honest)) in
    let told : BlamesSlots content slots e = record { slot = i; blames = blames } in
    let is : c.from_residual.result ≡ Err e = search rules in
    rw is told

pub returns-clause-added : goal.returns-clause-added
returns-clause-added g c = λ honest.
    let slots = c.args.slots.now in
    let all : length slots ≤ c.loop-i.i = omega (arith, c.loop-i-test.false) in
    adds_all (g.F.Files.content c.args.files.now) slots c.args.kept.now.keys c.loop-i.i c.loop-i.kept.keys c.loop-i.kept.keys (c.loop-i.invariant.added honest) all
