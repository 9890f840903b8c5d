use Rattle.std.proofs.Common.{◌≡◌, ◌∙◌, ap, refl, inl, inr, Ok, Err, false, rules, subst, sym, true≢false}
use Rattle.vc_model.specs.SharedCall.SharedCall.{StepOf}
use Rattle.vc_local.proofs.CleanLemmas.{stays_same}
use Rattle.vc_local.proofs.LookLemmas.{looks_none}
use Rattle.vc_quarantine.specs.Learning.{Learnt, learnt_in}
use Rattle.vc_known.proofs.StoredLemmas.{known_kept}
use Rattle.vc_shared.proofs.CallLemmas.{answers_through, kept_through, looks_through, told_as}
use Rattle.vc_local.proofs.BesideLemmas.{stays_by}
use Rattle.vc_local.specs.Clean.{StaysClean}
use Rattle.vc_shared.proofs.SteppingLaws.{stepped_answers, stepped_down}
use Rattle.vc_shared.proofs.TellingLemmas.{written_report}
use Rattle.vc_shared.specs.Calls.{SteppedAs}
use Rattle.vc_shared.specs.Learning.{LearnsIn}
use Rattle.vc_shared.specs.Slots.{slot_of}
use Rattle.vc_shared.proofs.SlotLemmas.{packed_none}
use Rattle.vc_shared.specs.Stepping.{EndsSlotEarly, IsRefusedIn, LeavesPackedIn}
use Rattle.vc_shared.proofs.shared.Shared.step.Goals as goal

pub returns-then-not-self-clause-answers : goal.returns-then-not-self-clause-answers
returns-then-not-self-clause-answers g c = λ honest. stepped_down _ _ _ _ c.args.slot _ _ _ refl refl refl (search rules) refl

pub returns-in-Ok-clause-answers : goal.returns-in-Ok-clause-answers
returns-in-Ok-clause-answers g c = λ honest.
    let content = g.F.Files.content in
    rw (← c.self.view_is) (stepped_answers (content c.self.inside.files) (content c.step.new.files) c.self.inside.slots c.step.new.slots c.args.slot c.self.inside.is_up c.self.inside.is_up (Ok c.in-Ok.told)
    (c.in-Ok.ensures.steps honest) tt (λ held. tt) tt (c.in-Ok.ensures.good honest).bad c.self.invariant.0 written_report c.if-not-self.false c.if-not-self.false)

pub returns-in-Err-clause-answers : goal.returns-in-Err-clause-answers
returns-in-Err-clause-answers g c = λ honest.
    let content = g.F.Files.content in
    rw (← c.self.view_is) (answers_through (StepOf c.args.slot) SteppedAs (content c.self.inside.files) (content c.step.new.files) (content c.fail.new.self.files) c.self.inside.slots c.step.new.slots c.fail.new.self.slots
    c.self.inside.is_up c.fail.new.self.is_up c.in-Err.fault c.fail.result c.fail.ensures.fault (ap content c.fail.ensures.files) c.fail.ensures.slots
    (stepped_answers (content c.self.inside.files) (content c.step.new.files) c.self.inside.slots c.step.new.slots c.args.slot c.self.inside.is_up c.fail.new.self.is_up (Err c.in-Err.fault)
    (λ held. tt) c.in-Err.ensures.unchanged (c.in-Err.ensures.early honest) (c.in-Err.ensures.refused honest) (c.in-Err.ensures.good honest).bad c.self.invariant.0 written_report c.if-not-self.false (c.fail.ensures.up c.if-not-self.false)))

pub returns-then-not-self-clause-bad_file : goal.returns-then-not-self-clause-bad_file
returns-then-not-self-clause-bad_file g c = λ honest. inl refl

pub returns-in-Err-clause-bad_file : goal.returns-in-Err-clause-bad_file
returns-in-Err-clause-bad_file g c = λ honest.
    rw (← c.self.view_is) (inr (told_as (IsRefusedIn (g.F.Files.content c.self.inside.files) (slot_of c.self.inside.slots c.args.slot)) c.in-Err.fault c.fail.result c.fail.ensures.fault (c.in-Err.ensures.refused honest)))

pub returns-then-not-self-clause-early : goal.returns-then-not-self-clause-early
returns-then-not-self-clause-early g c =
    let down : c.args.self.now.is_up ≡ false = search rules in
    λ honest up. absurd (true≢false (sym up ∙ down))

pub returns-in-Err-clause-early : goal.returns-in-Err-clause-early
returns-in-Err-clause-early g c = λ honest.
    let content = g.F.Files.content in
    rw (← c.self.view_is) (λ up held. subst (λ d. EndsSlotEarly (content c.self.inside.files) (content d) (slot_of c.self.inside.slots c.args.slot)) (sym c.fail.ensures.files) (c.in-Err.ensures.early honest held))

pub returns-then-not-self-clause-clean : goal.returns-then-not-self-clause-clean
returns-then-not-self-clause-clean g c = λ honest. stays_same _ _ refl

pub returns-then-not-self-clause-packed : goal.returns-then-not-self-clause-packed
returns-then-not-self-clause-packed g c = λ honest. packed_none _ _

pub returns-in-Ok-clause-clean : goal.returns-in-Ok-clause-clean
returns-in-Ok-clause-clean g c = λ honest. rw (← c.self.view_is) (stays_by _ _ (c.in-Ok.ensures.good honest).bad)

pub returns-in-Ok-clause-packed : goal.returns-in-Ok-clause-packed
returns-in-Ok-clause-packed g c = λ honest. rw (← c.self.view_is) ((c.in-Ok.ensures.good honest).packed)

pub returns-in-Err-clause-clean : goal.returns-in-Err-clause-clean
returns-in-Err-clause-clean g c = λ honest.
    let content = g.F.Files.content in
    rw (← c.self.view_is) (kept_through StaysClean (content c.self.inside.files) (content c.step.new.files) (content c.fail.new.self.files) (ap content c.fail.ensures.files) (stays_by _ _ (c.in-Err.ensures.good honest).bad))

pub returns-in-Err-clause-packed : goal.returns-in-Err-clause-packed
returns-in-Err-clause-packed g c = λ honest.
    let content = g.F.Files.content in
    rw (← c.self.view_is) (kept_through (λ old new. LeavesPackedIn old new (slot_of c.self.inside.slots c.args.slot)) (content c.self.inside.files) (content c.step.new.files) (content c.fail.new.self.files) (ap content c.fail.ensures.files) (c.in-Err.ensures.good honest).packed)

pub returns-then-not-self-clause-looks : goal.returns-then-not-self-clause-looks
returns-then-not-self-clause-looks g c = λ honest held. inr (looks_none (λ told. told))

pub returns-in-Ok-clause-looks : goal.returns-in-Ok-clause-looks
returns-in-Ok-clause-looks g c = λ honest. rw (← c.self.view_is) (λ held. c.in-Ok.ensures.looks honest held)

pub returns-in-Err-clause-looks : goal.returns-in-Err-clause-looks
returns-in-Err-clause-looks g c = λ honest. rw (← c.self.view_is) (λ held. looks_through c.in-Err.fault c.fail.result c.fail.ensures.fault c.fail.ensures.files (c.in-Err.ensures.looks honest held))

pub step-requires : goal.step-requires
step-requires g c = record { tellable = c.self.invariant.0; agrees = λ honest. (c.self.invariant.1 honest).0 }

pub invariant_of-self : goal.invariant_of-self
invariant_of-self g c = (c.in-Ok.ensures.tellable, λ honest. ((c.in-Ok.ensures.good honest).agrees, known_kept _ _ c.self.inside.known (c.in-Ok.ensures.good honest).objects (c.self.invariant.1 honest).1))

pub invariant_of-self-in-Err : goal.invariant_of-self-in-Err
invariant_of-self-in-Err g c = (c.in-Err.ensures.tellable, λ honest. ((c.in-Err.ensures.good honest).agrees, known_kept _ _ c.self.inside.known (c.in-Err.ensures.good honest).objects (c.self.invariant.1 honest).1))

pub returns-in-Ok-clause-learns : goal.returns-in-Ok-clause-learns
returns-in-Ok-clause-learns g c = λ honest. rw (← c.self.view_is) (λ up. (c.in-Ok.ensures.good honest).learns refl)

pub returns-in-Err-clause-learns : goal.returns-in-Err-clause-learns
returns-in-Err-clause-learns g c = λ honest.
    let content = g.F.Files.content in
    rw (← c.self.view_is) (λ up. subst (λ (now : Learnt). LearnsIn (content c.self.inside.files) (slot_of c.self.inside.slots c.args.slot) (learnt_in c.self.inside.generations c.self.inside.due) now) (sym c.fail.ensures.learnt)
    ((c.in-Err.ensures.good honest).learns (sym (c.fail.ensures.up c.if-not-self.false) ∙ up)))
