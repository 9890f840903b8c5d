use Rattle.std.proofs.Common.{[], ◌∷◌, ◌++◌, refl}
use Rattle.vc_desk.specs.declared.entry.Entry.{Entry}
use Rattle.vc_desk.specs.Entry.{answer_text, entry_text}
use Rattle.vc_desk.specs.Entry.EventText.{Accepts}
use Rattle.vc_desk.specs.Runs.{Held}
use Rattle.vc_desk.proofs.Adding.{takes}
use Rattle.vc_desk.proofs.Making.{answered, counted, ends_run, length_more, notes, runs_more}
use Rattle.vc_desk.proofs.watched.WatchedDesk.accept.Goals as goal

pub invariant_of-self : goal.invariant_of-self
invariant_of-self g c =
    let i = c.self.invariant in
    let e : Entry = record { connection = c.args.connection; event = c.in_ok-event.event; answer = c.of_message-answer.result } in
    let answers = answered g.F.Files.honest (Held g.F.Files.content) c.self.inside.shared c.accept-2.new.self e (Accepts c.args.bytes.now) c.in_ok-event.ensures
    (λ h. takes g.F.Files.content c.args.bytes.now c.accept-2.result (answer_text c.of_message-answer.result) _ _ c.of_message-answer.ensures (c.accept-2.ensures.answers h) (c.accept-2.ensures.unread h)) in (
      i.0,
      (
        i.1.0 ++ entry_text e ∷ [],
        length_more i.1.0 (entry_text e) _ _ i.1.1 (counted _ _ _ c.self.view_is c.in_ok-count.ensures),
        runs_more g.F.Files.honest (Held g.F.Files.content) c.self.inside.shared c.accept-2.new.self e c.self.inside.start.value i.1.0 answers i.1.2,
      ),
    )

pub returns-clause-notes : goal.returns-clause-notes
returns-clause-notes g c =
    let e : Entry = record { connection = c.args.connection; event = c.in_ok-event.event; answer = c.of_message-answer.result } in
    notes g.F.Files.honest (Held g.F.Files.content) c.args.connection (Accepts c.args.bytes.now) e _ _ _ c.self.view_is refl c.in_ok-event.ensures
    (λ h. takes g.F.Files.content c.args.bytes.now c.accept-2.result (answer_text c.of_message-answer.result) _ _ c.of_message-answer.ensures (c.accept-2.ensures.answers h) (c.accept-2.ensures.unread h)) c.in_ok-count.ensures refl

pub returns-clause-made : goal.returns-clause-made
returns-clause-made g c =
    let i = c.self.invariant in
    let e : Entry = record { connection = c.args.connection; event = c.in_ok-event.event; answer = c.of_message-answer.result } in
    let answers = answered g.F.Files.honest (Held g.F.Files.content) c.self.inside.shared c.accept-2.new.self e (Accepts c.args.bytes.now) c.in_ok-event.ensures
    (λ h. takes g.F.Files.content c.args.bytes.now c.accept-2.result (answer_text c.of_message-answer.result) _ _ c.of_message-answer.ensures (c.accept-2.ensures.answers h) (c.accept-2.ensures.unread h)) in
    ends_run g.F.Files.honest (Held g.F.Files.content) c.self.inside.shared c.accept-2.new.self e c.self.inside.start.value i.1.0 answers i.1.2 g.J.Origin.held c.self.inside.count i.0 i.1.1
