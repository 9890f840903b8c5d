use Rattle.std.proofs.Common.{◌≡◌, ◌<◌, ◌∙◌, ℕ, None, Option, ap, length, refl, rules, subst, sym}
use Rattle.std.proofs.lemmas.List.{length-set}
use Rattle.vc_history.proofs.StoredLemmas.{keeps_same}
use Rattle.vc_quarantine.specs.Learning.{learnt_in}
use Rattle.vc_shared.proofs.SlotLemmas.{open_within, put_back, same_slot, slot_steps, slot_unchanged, told_after, told_at}
use Rattle.vc_push_rules.specs.Session.{SessionText}
use Rattle.vc_shared.specs.Faults.{up_after}
use Rattle.vc_shared.specs.Learning.{LearnsIn}
use Rattle.vc_shared.specs.Stepping.{LeavesPackedIn, StepsWell, left_in}
use Rattle.vc_shared.proofs.stepping.step.Goals as goal

pub returns-in_default-clause-unchanged : goal.returns-in_default-clause-unchanged
returns-in_default-clause-unchanged g c = λ refusal. c.take.ensures.left ∙ same_slot c.args.slots.now c.args.slot None (sym c.take.ensures.push ∙ c.in_default.is)

pub step_push-did-requires : goal.step_push-did-requires
step_push-did-requires g c = record { tellable = told_at c.args.slots.now c.args.slot c.in-Some.push (sym c.take.ensures.push ∙ c.in-Some.is) c.requires.tellable; agrees = c.requires.agrees }

pub put-requires : goal.put-requires
put-requires g c =
    let within = open_within c.args.slots.now c.args.slot c.in-Some.push (sym c.take.ensures.push ∙ c.in-Some.is) in
    let whole : length c.take.new.slots ≡ length c.args.slots.now = ap length c.take.ensures.left ∙ length-set c.args.slots.now c.args.slot None in
    subst (λ (n : ℕ). c.args.slot < n) (sym whole) within

pub returns-clause-tellable : goal.returns-clause-tellable
returns-clause-tellable g c =
    let put = put_back c.args.slots.now c.take.new.slots c.put.new.slots c.args.slot c.left-left.result (left_in c.step_push-did.result c.step_push-did.new.push) c.take.ensures.left c.put.ensures c.left-left.ensures in
    told_after c.args.slots.now c.args.slot c.put.new.slots c.in-Some.push c.step_push-did.new.push c.step_push-did.result (sym c.take.ensures.push ∙ c.in-Some.is) put c.step_push-did.ensures.tellable c.requires.tellable

pub returns-clause-steps : goal.returns-clause-steps
returns-clause-steps g c = λ honest.
    let put = put_back c.args.slots.now c.take.new.slots c.put.new.slots c.args.slot c.left-left.result (left_in c.step_push-did.result c.step_push-did.new.push) c.take.ensures.left c.put.ensures c.left-left.ensures in
    slot_steps c.args.slots.now c.args.slot c.put.new.slots c.in-Some.push c.step_push-did.new.push c.step_push-did.result (sym c.take.ensures.push ∙ c.in-Some.is) put
    (g.F.Files.content c.args.files.now) (g.F.Files.content c.step_push-did.new.files) (c.step_push-did.ensures.steps honest)

pub returns-clause-unchanged : goal.returns-clause-unchanged
returns-clause-unchanged g c =
    let put = put_back c.args.slots.now c.take.new.slots c.put.new.slots c.args.slot c.left-left.result (left_in c.step_push-did.result c.step_push-did.new.push) c.take.ensures.left c.put.ensures c.left-left.ensures in
    slot_unchanged c.args.slots.now c.args.slot c.put.new.slots c.in-Some.push c.step_push-did.new.push c.step_push-did.result (sym c.take.ensures.push ∙ c.in-Some.is) put c.step_push-did.ensures.unchanged

pub returns-in_default-clause-good : goal.returns-in_default-clause-good
returns-in_default-clause-good g c honest = record {
  agrees = c.requires.agrees honest;
  objects = keeps_same _ _ refl;
  bad = search rules;
  packed = subst (λ (s : Option SessionText). LeavesPackedIn (g.F.Files.content c.args.files.now) (g.F.Files.content c.args.files.now) s) (sym c.in_default.is ∙ c.take.ensures.push) refl;
  learns = λ up. subst (λ (s : Option SessionText). LearnsIn (g.F.Files.content c.args.files.now) s (learnt_in c.args.generations.now c.args.due.now) (learnt_in c.args.generations.now c.args.due.now)) (sym c.in_default.is ∙ c.take.ensures.push) refl;
}

pub returns-clause-good : goal.returns-clause-good
returns-clause-good g c honest =
    subst (λ (s : Option SessionText). StepsWell (g.F.Files.content c.args.files.now) (g.F.Files.content c.step_push-did.new.files) s (learnt_in c.args.generations.now c.args.due.now)
    (learnt_in c.step_push-did.new.generations c.step_push-did.new.due) (up_after c.step_push-did.result)) (sym c.in-Some.is ∙ c.take.ensures.push) (c.step_push-did.ensures.good honest)
