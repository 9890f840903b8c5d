use Rattle.vc_local.specs.Machine.{machine_head}
use Rattle.vc_model.specs.Clone.Task.{MoveHead}
use Rattle.vc_local.proofs.MayLemmas.{set_head_may}
use Rattle.vc_local.proofs.LookLemmas.{looks_none, or_told, or_failed}
use Rattle.std.proofs.Common.{refl, rules, ap, ◌∙◌, inr}
use Rattle.vc_local.proofs.AnswerLemmas.{answers_down}
use Rattle.vc_local.proofs.BranchLemmas.{set_head_done, set_head_failed}
use Rattle.vc_local.proofs.CleanLemmas.{clean_same}
use Rattle.vc_node.proofs.HeldAnswers.{answered_if_sound}
use Rattle.vc_local.proofs.SoundAnswers.{answers_too, may_if_sound, or_same, sound_failed, sound_from}
use Rattle.vc_history.proofs.StoredLemmas.{keeps_same}
use Rattle.vc_node.proofs.KeepingLemmas.{both_kept, keeps_shown}
use Rattle.vc_node.proofs.node.CloneNode.set_head.Goals as goal

pub returns-then-not-self-clause-answers : goal.returns-then-not-self-clause-answers
returns-then-not-self-clause-answers g c = λ honest. answered_if_sound _ _ _ _ _ _ (inr (answers_too _ _ _ _ _ _ (answers_down _ _ _ (search rules)))) (clean_same _ _ refl)

pub returns-in-Ok-clause-answers : goal.returns-in-Ok-clause-answers
returns-in-Ok-clause-answers g c = λ honest. answered_if_sound _ _ _ _ _ _ (rw (← c.self.view_is) (inr (sound_from _ _ _ _ (g.F.Files.content c.self.inside.files) _ (set_head_done _ c.args.head.now _ c.requires (c.in-Ok.ensures.set honest) (c.in-Ok.ensures.may honest)) (search rules) (search rules)))) (search rules)

pub returns-in-Err-clause-answers : goal.returns-in-Err-clause-answers
returns-in-Err-clause-answers g c = λ honest.
    let content = g.F.Files.content in
    let same = ap content c.fail.ensures.files ∙ (c.in-Err.ensures.kept honest).err in
    answered_if_sound _ _ _ _ _ _ (rw (← c.self.view_is) (sound_failed _ _ _ _ _ (g.F.Files.content c.self.inside.files) _ (or_same _ _ _ _ _ _ (set_head_failed (content c.self.inside.files) c.args.head.now c.in-Err.fault (c.in-Err.ensures.refused honest)) same) c.fail.ensures.fault (search rules) (c.fail.ensures.up (search rules)))) (search rules)

pub returns-then-not-self-clause-looks : goal.returns-then-not-self-clause-looks
returns-then-not-self-clause-looks g c = λ honest awaited n holds. inr (looks_none (λ told. told))

pub returns-in-Ok-clause-looks : goal.returns-in-Ok-clause-looks
returns-in-Ok-clause-looks g c = λ honest. rw (← c.self.view_is) (may_if_sound (MoveHead (machine_head c.args.head.now)) _ _ (search rules) (λ awaited r p. or_told (c.in-Ok.ensures.looks honest) (λ may. set_head_may _ awaited r p c.args.head.now c.requires may) (search rules)))

pub returns-in-Err-clause-looks : goal.returns-in-Err-clause-looks
returns-in-Err-clause-looks g c = λ honest. rw (← c.self.view_is) (may_if_sound (MoveHead (machine_head c.args.head.now)) _ _ (search rules) (λ awaited r p. or_failed (c.in-Err.ensures.looks honest) (λ may. set_head_may _ awaited r p c.args.head.now c.requires may) c.fail.ensures.files c.fail.ensures.fault))

pub invariant_of-self : goal.invariant_of-self
invariant_of-self g c = λ honest. (both_kept _ _ c.self.inside.known c.self.inside.generations (keeps_shown _ _ _ (c.in-Ok.ensures.set honest) refl) (c.self.invariant honest).0, tt)

pub invariant_of-self-in-Err : goal.invariant_of-self-in-Err
invariant_of-self-in-Err g c = λ honest. (both_kept _ _ c.self.inside.known c.self.inside.generations (keeps_same _ _ (c.in-Err.ensures.kept honest).err) (c.self.invariant honest).0, tt)
