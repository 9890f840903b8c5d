use Rattle.std.proofs.Common.{[], ◌∷◌, ◌++◌, refl}
use Rattle.vc_desk.specs.declared.entry.Entry.{Entry}
use Rattle.vc_desk.specs.declared.entry.Event.TheVariants.{Step}
use Rattle.vc_desk.specs.Entry.{answer_text, entry_text}
use Rattle.vc_desk.specs.Entry.EventText.{Steps}
use Rattle.vc_desk.specs.Runs.{Held}
use Rattle.vc_desk.proofs.Adding.{steps}
use Rattle.vc_desk.proofs.Making.{answered, counted, ends_run, length_more, notes, runs_more}
use Rattle.vc_desk.proofs.watched.WatchedDesk.step.Goals as goal

pub invariant_of-self : goal.invariant_of-self
invariant_of-self g c =
    let i = c.self.invariant in
    let e : Entry = record { connection = c.args.connection; event = Step c.args.slot; answer = c.of_step-answer.result } in
    let answers = answered g.F.Files.honest (Held g.F.Files.content) c.self.inside.shared c.step.new.self e (Steps c.args.slot) refl
    (λ h. steps g.F.Files.content c.args.slot c.step.result (answer_text c.of_step-answer.result) _ _ c.of_step-answer.ensures (c.step.ensures.answers h)) in (
      i.0,
      (
        i.1.0 ++ entry_text e ∷ [],
        length_more i.1.0 (entry_text e) _ _ i.1.1 (counted _ _ _ c.self.view_is c.in_ok-count.ensures),
        runs_more g.F.Files.honest (Held g.F.Files.content) c.self.inside.shared c.step.new.self e c.self.inside.start.value i.1.0 answers i.1.2,
      ),
    )

pub returns-clause-notes : goal.returns-clause-notes
returns-clause-notes g c =
    let e : Entry = record { connection = c.args.connection; event = Step c.args.slot; answer = c.of_step-answer.result } in
    notes g.F.Files.honest (Held g.F.Files.content) c.args.connection (Steps c.args.slot) e _ _ _ c.self.view_is refl refl
    (λ h. steps g.F.Files.content c.args.slot c.step.result (answer_text c.of_step-answer.result) _ _ c.of_step-answer.ensures (c.step.ensures.answers h)) c.in_ok-count.ensures refl

pub returns-clause-made : goal.returns-clause-made
returns-clause-made g c =
    let i = c.self.invariant in
    let e : Entry = record { connection = c.args.connection; event = Step c.args.slot; answer = c.of_step-answer.result } in
    let answers = answered g.F.Files.honest (Held g.F.Files.content) c.self.inside.shared c.step.new.self e (Steps c.args.slot) refl
    (λ h. steps g.F.Files.content c.args.slot c.step.result (answer_text c.of_step-answer.result) _ _ c.of_step-answer.ensures (c.step.ensures.answers h)) in
    ends_run g.F.Files.honest (Held g.F.Files.content) c.self.inside.shared c.step.new.self e c.self.inside.start.value i.1.0 answers i.1.2 g.J.Origin.held c.self.inside.count i.0 i.1.1
