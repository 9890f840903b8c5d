use Rattle.std.proofs.Common.{map, refl, subst, sym}
use Rattle.vc_desk.specs.Entry.{answer_text, entry_text}
use Rattle.vc_desk.specs.Entry.EventText.{Steps}
use Rattle.vc_desk.specs.Runs.{Held, Runs}
use Rattle.vc_desk.proofs.Adding.{adds, lengthens, logged, steps}
use Rattle.vc_desk.proofs.kept.Kept.step.Goals as goal

pub invariant_of-self-2 : goal.invariant_of-self-2
invariant_of-self-2 g c h =
    let i = c.self.invariant h in
    let log = logged _ _ _ _ c.args.connection (Steps c.args.slot) (answer_text c.of_step-answer.result) c.push_reserved.ensures.items c.in_ok-reserve.ensures.items refl refl refl in (
      subst (λ l. Runs (Held g.F.Files.content) c.self.inside.start.value l c.step.new.self) (sym log)
          (lengthens (Held g.F.Files.content) c.self.inside.start.value c.self.inside.shared c.step.new.self (map entry_text c.self.inside.log.items) _
          (steps g.F.Files.content c.args.slot c.step.result (answer_text c.of_step-answer.result) _ _ c.of_step-answer.ensures (c.step.ensures.answers h)) i.0),
      i.1,
    )

pub returns-clause-adds : goal.returns-clause-adds
returns-clause-adds g c =
    adds g.F.Files.honest (Held g.F.Files.content) c.args.connection (Steps c.args.slot) (answer_text c.of_step-answer.result) _ _ _ c.self.view_is
    (logged _ _ _ _ c.args.connection (Steps c.args.slot) (answer_text c.of_step-answer.result) c.push_reserved.ensures.items c.in_ok-reserve.ensures.items refl refl refl)
    (λ h. steps g.F.Files.content c.args.slot c.step.result (answer_text c.of_step-answer.result) _ _ c.of_step-answer.ensures (c.step.ensures.answers h))
    refl refl
