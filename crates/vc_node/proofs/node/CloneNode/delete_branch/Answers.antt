use Rattle.vc_model.specs.Clone.Task.{DeleteBranch}
use Rattle.vc_local.proofs.MayLemmas.{may_or, delete_may}
use Rattle.vc_local.proofs.LookLemmas.{looks_none}
use Rattle.std.proofs.Common.{refl, rules, ap, ◌∙◌, inr, inl}
use Rattle.vc_node.proofs.HeldAnswers.{answered}
use Rattle.vc_local.proofs.AnswerLemmas.{answers_down, answers_from, failed, or_unshown}
use Rattle.vc_local.proofs.BranchLemmas.{delete_done, delete_failed}
use Rattle.vc_local.proofs.CleanLemmas.{clean_same}
use Rattle.vc_node.proofs.KeepingLemmas.{both_kept, keeps_shown}
use Rattle.vc_local.specs.Shown.{shown}
use Rattle.vc_node.proofs.node.CloneNode.delete_branch.Goals as goal

pub returns-then-not-self-clause-answers : goal.returns-then-not-self-clause-answers
returns-then-not-self-clause-answers g c = λ honest. answered c.args.branch.now _ _ _ _ _ _ (inr (answers_down _ _ _ (search rules))) (clean_same _ _ refl)

pub returns-in-Ok-clause-answers : goal.returns-in-Ok-clause-answers
returns-in-Ok-clause-answers g c = λ honest. answered c.args.branch.now _ _ _ _ _ _ (rw (← c.self.view_is) (inr (answers_from _ _ _ _ _ _ (delete_done c.args.branch.now _ _ (search rules) (c.in-Ok.ensures.removed honest)) (search rules) (search rules)))) (search rules)

pub returns-in-Err-clause-answers : goal.returns-in-Err-clause-answers
returns-in-Err-clause-answers g c = λ honest.
    let content = g.F.Files.content in
    let same = ap (λ d. shown (content d)) c.fail.ensures.files ∙ c.in-Err.ensures.err honest in
    answered c.args.branch.now _ _ _ _ _ _ (rw (← c.self.view_is) (failed _ _ _ _ _ _ _ _ (or_unshown _ _ _ _ _ (delete_failed (content c.self.inside.files) c.args.branch.now c.in-Err.fault (c.in-Err.ensures.refused honest)) same) c.fail.ensures.fault (search rules) (c.fail.ensures.up (search rules)))) (search rules)

pub returns-then-not-self-clause-looks : goal.returns-then-not-self-clause-looks
returns-then-not-self-clause-looks g c = λ honest awaited n holds. inr (looks_none (λ told. told))

pub returns-in-Ok-clause-looks : goal.returns-in-Ok-clause-looks
returns-in-Ok-clause-looks g c = λ honest. rw (← c.self.view_is) (may_or (DeleteBranch c.args.branch.now) _ _ (search rules) (λ awaited r p. inl (delete_may c.args.branch.now (search rules) awaited r)))

pub returns-in-Err-clause-looks : goal.returns-in-Err-clause-looks
returns-in-Err-clause-looks g c = λ honest. rw (← c.self.view_is) (may_or (DeleteBranch c.args.branch.now) _ _ (search rules) (λ awaited r p. inl (delete_may c.args.branch.now (search rules) awaited r)))

pub invariant_of-self : goal.invariant_of-self
invariant_of-self g c = λ honest. (both_kept _ _ c.self.inside.known c.self.inside.generations (keeps_shown _ _ _ (c.in-Ok.ensures.removed honest) refl) (c.self.invariant honest).0, tt)

pub invariant_of-self-in-Err : goal.invariant_of-self-in-Err
invariant_of-self-in-Err g c = λ honest. (both_kept _ _ c.self.inside.known c.self.inside.generations (keeps_shown _ _ _ (c.in-Err.ensures.err honest) refl) (c.self.invariant honest).0, tt)
