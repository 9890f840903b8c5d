use Rattle.vc_model.specs.Clone.Task.{LoadTree}
use Rattle.vc_local.proofs.MayLemmas.{may_or, load_may}
use Rattle.vc_local.proofs.LookLemmas.{looks_none, or_told, or_failed}
use Rattle.std.proofs.Common.{[], refl, rules, ap, ◌∙◌, inr}
use Rattle.vc_node.proofs.HeldAnswers.{answered}
use Rattle.vc_local.proofs.AnswerLemmas.{answers_down, answers_from, failed, or_unchanged}
use Rattle.vc_local.proofs.TreeLemmas.{load_done, load_failed}
use Rattle.vc_local.proofs.CleanLemmas.{clean_same}
use Rattle.vc_history.proofs.StoredLemmas.{keeps_same}
use Rattle.vc_node.proofs.KeepingLemmas.{both_kept, keeps_shown}
use Rattle.vc_node.proofs.node.CloneNode.load_tree.Goals as goal

pub returns-in-Ok-clause-loaded : goal.returns-in-Ok-clause-loaded
returns-in-Ok-clause-loaded g c = λ honest. rw (← c.self.view_is) (c.in-Ok.ensures.loaded honest)

pub returns-then-not-self-clause-answers : goal.returns-then-not-self-clause-answers
returns-then-not-self-clause-answers g c = λ honest. answered [] _ _ _ _ _ _ (inr (answers_down _ _ _ (search rules))) (clean_same _ _ refl)

pub returns-in-Ok-clause-answers : goal.returns-in-Ok-clause-answers
returns-in-Ok-clause-answers g c = λ honest. answered [] _ _ _ _ _ _ (rw (← c.self.view_is) (inr (answers_from _ _ _ _ _ _ (load_done _ _ c.args.id.now (c.in-Ok.ensures.loaded honest)) (search rules) (search rules)))) (search rules)

pub returns-in-Err-clause-answers : goal.returns-in-Err-clause-answers
returns-in-Err-clause-answers g c = λ honest.
    let content = g.F.Files.content in
    let same = ap content c.fail.ensures.files ∙ (c.in-Err.ensures.kept honest).err in
    answered [] _ _ _ _ _ _ (rw (← c.self.view_is) (failed _ _ _ _ _ _ _ _ (or_unchanged _ _ _ _ _ (load_failed (content c.self.inside.files) c.args.id.now c.in-Err.fault (c.in-Err.ensures.refused honest)) same) c.fail.ensures.fault (search rules) (c.fail.ensures.up (search rules)))) (search rules)

pub returns-in-Err-clause-refused : goal.returns-in-Err-clause-refused
returns-in-Err-clause-refused g c = λ honest. rw (← c.self.view_is, c.fail.ensures.fault) (inr (c.in-Err.ensures.refused honest))

pub returns-then-not-self-clause-looks : goal.returns-then-not-self-clause-looks
returns-then-not-self-clause-looks g c = λ honest awaited n holds. inr (looks_none (λ told. told))

pub returns-in-Ok-clause-looks : goal.returns-in-Ok-clause-looks
returns-in-Ok-clause-looks g c = λ honest. rw (← c.self.view_is) (may_or (LoadTree c.args.id.now.0) _ _ (search rules) (λ awaited r p. or_told (c.in-Ok.ensures.looks honest) (λ may. load_may _ awaited r p c.args.id.now may) (search rules)))

pub returns-in-Err-clause-looks : goal.returns-in-Err-clause-looks
returns-in-Err-clause-looks g c = λ honest. rw (← c.self.view_is) (may_or (LoadTree c.args.id.now.0) _ _ (search rules) (λ awaited r p. or_failed (c.in-Err.ensures.looks honest) (λ may. load_may _ awaited r p c.args.id.now may) c.fail.ensures.files c.fail.ensures.fault))

pub invariant_of-self : goal.invariant_of-self
invariant_of-self g c = λ honest. (both_kept _ _ c.self.inside.known c.self.inside.generations (keeps_shown _ _ _ (c.in-Ok.ensures.loaded honest).is refl) (c.self.invariant honest).0, tt)

pub invariant_of-self-in-Err : goal.invariant_of-self-in-Err
invariant_of-self-in-Err g c = λ honest. (both_kept _ _ c.self.inside.known c.self.inside.generations (keeps_same _ _ (c.in-Err.ensures.kept honest).err) (c.self.invariant honest).0, tt)
