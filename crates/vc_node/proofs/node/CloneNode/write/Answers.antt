use Rattle.vc_rules.specs.Git.{machine_object}
use Rattle.vc_model.specs.Clone.Task.{Write}
use Rattle.vc_local.proofs.MayLemmas.{may_or, write_may}
use Rattle.vc_local.proofs.LookLemmas.{looks_none, or_told, or_failed}
use Rattle.std.proofs.Common.{[], refl, rules, ap, ◌∙◌, inr}
use Rattle.vc_local.specs.Shown.{Shown, shown}
use Rattle.vc_node.proofs.HeldAnswers.{answered}
use Rattle.vc_local.proofs.AnswerLemmas.{answers_down, answers_from, failed, or_unchanged}
use Rattle.vc_local.proofs.WriteLemmas.{write_done, write_failed}
use Rattle.vc_local.proofs.CleanLemmas.{clean_same}
use Rattle.vc_history.proofs.StoredLemmas.{keeps_put, keeps_same}
use Rattle.vc_node.proofs.KeepingLemmas.{both_kept}
use Rattle.vc_node.proofs.node.CloneNode.write.Goals as goal

pub returns-then-not-self-clause-answers : goal.returns-then-not-self-clause-answers
returns-then-not-self-clause-answers g c = λ honest. answered [] _ _ _ _ _ _ (inr (answers_down _ _ _ (search rules))) (clean_same _ _ refl)

pub returns-in-Ok-clause-answers : goal.returns-in-Ok-clause-answers
returns-in-Ok-clause-answers g c = λ honest. answered [] _ _ _ _ _ _ (rw (← c.self.view_is) (inr (answers_from _ _ _ _ _ _ (write_done c.args.kind c.args.body.now c.in-Ok.id _ _ (c.in-Ok.ensures.legal (search rules)) c.in-Ok.ensures.name (c.in-Ok.ensures.stored honest)) (search rules) (search rules)))) (search rules)

pub returns-in-Err-clause-answers : goal.returns-in-Err-clause-answers
returns-in-Err-clause-answers g c = λ honest.
    let content = g.F.Files.content in
    let same = ap content c.fail.ensures.files ∙ (c.in-Err.ensures.kept honest).err in
    answered [] _ _ _ _ _ _ (rw (← c.self.view_is) (failed _ _ _ _ _ _ _ _ (or_unchanged _ _ _ _ _ (write_failed (content c.self.inside.files) c.args.kind c.args.body.now c.in-Err.fault (shown (content c.self.inside.files)) (c.in-Err.ensures.refused honest)) same) c.fail.ensures.fault (search rules) (c.fail.ensures.up (search rules)))) (search rules)

pub returns-then-not-self-clause-looks : goal.returns-then-not-self-clause-looks
returns-then-not-self-clause-looks g c = λ honest awaited n holds. inr (looks_none (λ told. told))

pub returns-in-Ok-clause-looks : goal.returns-in-Ok-clause-looks
returns-in-Ok-clause-looks g c = λ honest. rw (← c.self.view_is) (may_or (Write (machine_object c.args.kind c.args.body.now)) _ _ (search rules) (λ awaited r p. or_told (c.in-Ok.ensures.looks) (λ may. write_may c.args.kind c.args.body.now may awaited r) (search rules)))

pub returns-in-Err-clause-looks : goal.returns-in-Err-clause-looks
returns-in-Err-clause-looks g c = λ honest. rw (← c.self.view_is) (may_or (Write (machine_object c.args.kind c.args.body.now)) _ _ (search rules) (λ awaited r p. or_failed (c.in-Err.ensures.looks) (λ may. write_may c.args.kind c.args.body.now may awaited r) c.fail.ensures.files c.fail.ensures.fault))

pub invariant_of-self : goal.invariant_of-self
invariant_of-self g c = λ honest. (both_kept _ _ c.self.inside.known c.self.inside.generations (keeps_put _ _ c.in-Ok.id _ (ap (λ (x : Shown). x.objects) (c.in-Ok.ensures.stored honest))) (c.self.invariant honest).0, tt)

pub invariant_of-self-in-Err : goal.invariant_of-self-in-Err
invariant_of-self-in-Err g c = λ honest. (both_kept _ _ c.self.inside.known c.self.inside.generations (keeps_same _ _ (c.in-Err.ensures.kept honest).err) (c.self.invariant honest).0, tt)
