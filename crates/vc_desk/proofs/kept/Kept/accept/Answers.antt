use Rattle.std.proofs.Common.{map, refl, subst, sym}
use Rattle.vc_desk.specs.Entry.{answer_text, entry_text}
use Rattle.vc_desk.specs.Entry.EventText.{Accepts}
use Rattle.vc_desk.specs.Runs.{Held, Runs}
use Rattle.vc_desk.proofs.Adding.{adds, lengthens, logged, takes}
use Rattle.vc_desk.proofs.kept.Kept.accept.Goals as goal

pub invariant_of-self-2 : goal.invariant_of-self-2
invariant_of-self-2 g c h =
    let i = c.self.invariant h in
    let log = logged _ _ _ _ c.args.connection (Accepts c.args.bytes.now) (answer_text c.of_message-answer.result) c.push_reserved.ensures.items c.in_ok-reserve.ensures.items refl c.in_ok-event.ensures refl in (
      subst (λ l. Runs (Held g.F.Files.content) c.self.inside.start.value l c.accept-2.new.self) (sym log)
          (lengthens (Held g.F.Files.content) c.self.inside.start.value c.self.inside.shared c.accept-2.new.self (map entry_text c.self.inside.log.items) _
          (takes g.F.Files.content c.args.bytes.now c.accept-2.result (answer_text c.of_message-answer.result) _ _ c.of_message-answer.ensures (c.accept-2.ensures.answers h) (c.accept-2.ensures.unread h)) i.0),
      i.1,
    )

pub returns-clause-adds : goal.returns-clause-adds
returns-clause-adds g c =
    adds g.F.Files.honest (Held g.F.Files.content) c.args.connection (Accepts c.args.bytes.now) (answer_text c.of_message-answer.result) _ _ _ c.self.view_is
    (logged _ _ _ _ c.args.connection (Accepts c.args.bytes.now) (answer_text c.of_message-answer.result) c.push_reserved.ensures.items c.in_ok-reserve.ensures.items refl c.in_ok-event.ensures refl)
    (λ h. takes g.F.Files.content c.args.bytes.now c.accept-2.result (answer_text c.of_message-answer.result) _ _ c.of_message-answer.ensures (c.accept-2.ensures.answers h) (c.accept-2.ensures.unread h))
    refl refl
