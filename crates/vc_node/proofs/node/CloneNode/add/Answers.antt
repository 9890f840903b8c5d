use Rattle.vc_rules.specs.Git.{mode_number}
use Rattle.vc_model.specs.Clone.Task.{Stage}
use Rattle.vc_local.proofs.MayLemmas.{may_or, add_may}
use Rattle.vc_local.proofs.LookLemmas.{looks_none, or_told, or_failed}
use Rattle.std.proofs.Common.{[], ⊎_elim, refl, rules, ap, inr, sym, subst}
use Rattle.vc_files.specs.FileMap.{FileMap}
use Rattle.vc_index.specs.IndexMap.{IndexMap}
use Rattle.vc_local.specs.Adding.{LeftByAdd}
use Rattle.vc_local.specs.IndexFile.{SpellsIndex}
use Rattle.vc_node.proofs.HeldAnswers.{answered}
use Rattle.vc_local.proofs.AnswerLemmas.{answers_down, answers_from, failed}
use Rattle.vc_local.proofs.IndexLemmas.{add_done, add_failed, spells_index}
use Rattle.vc_local.proofs.CleanLemmas.{clean_same}
use Rattle.vc_history.proofs.StoredLemmas.{keeps_map, keeps_put}
use Rattle.vc_node.proofs.KeepingLemmas.{both_kept}
use Rattle.vc_node.proofs.node.CloneNode.add.Goals as goal

pub returns-then-not-self-clause-answers : goal.returns-then-not-self-clause-answers
returns-then-not-self-clause-answers g c = λ honest. answered [] _ _ _ _ _ _ (inr (answers_down _ _ _ (search rules))) (clean_same _ _ refl)

pub returns-in-Ok-clause-answers : goal.returns-in-Ok-clause-answers
returns-in-Ok-clause-answers g c = λ honest. answered [] _ _ _ _ _ _ (rw (← c.self.view_is)
    (inr (answers_from _ _ _ _ _ _ (add_done _ c.args.path.now c.args.bytes.now c.args.mode _ c.requires (c.in-Ok.ensures.added honest)) (search rules) (search rules)))) (search rules)

pub returns-in-Err-clause-answers : goal.returns-in-Err-clause-answers
returns-in-Err-clause-answers g c = λ honest.
    let content = g.F.Files.content in
    let old = content c.self.inside.files in
    let left : (m : IndexMap) → SpellsIndex old m → LeftByAdd old m c.args.path.now c.args.bytes.now c.in-Err.fault (content c.fail.new.self.files) =
    λ m spells. subst (λ (n : FileMap). LeftByAdd old m c.args.path.now c.args.bytes.now c.in-Err.fault n) (sym (ap content c.fail.ensures.files)) (c.in-Err.ensures.left honest m spells) in
    answered [] _ _ _ _ _ _ (rw (← c.self.view_is) (failed _ _ _ _ _ _ _ _
    (add_failed old c.args.path.now c.args.bytes.now c.args.mode c.in-Err.fault (content c.fail.new.self.files) (c.in-Err.ensures.refused honest) (c.in-Err.ensures.damaged honest) left)
    c.fail.ensures.fault (search rules) (c.fail.ensures.up (search rules)))) (search rules)

pub returns-then-not-self-clause-looks : goal.returns-then-not-self-clause-looks
returns-then-not-self-clause-looks g c = λ honest awaited n holds. inr (looks_none (λ told. told))

pub returns-in-Ok-clause-looks : goal.returns-in-Ok-clause-looks
returns-in-Ok-clause-looks g c = λ honest. rw (← c.self.view_is) (may_or (Stage c.args.path.now (mode_number c.args.mode) c.args.bytes.now) _ _ (search rules) (λ awaited r p. or_told (c.in-Ok.ensures.looks honest p.map (spells_index _ r p)) (λ may. add_may _ awaited r p c.args.path.now c.args.bytes.now c.args.mode may) (search rules)))

pub returns-in-Err-clause-looks : goal.returns-in-Err-clause-looks
returns-in-Err-clause-looks g c = λ honest. rw (← c.self.view_is) (may_or (Stage c.args.path.now (mode_number c.args.mode) c.args.bytes.now) _ _ (search rules) (λ awaited r p. or_failed (c.in-Err.ensures.looks honest p.map (spells_index _ r p)) (λ may. add_may _ awaited r p c.args.path.now c.args.bytes.now c.args.mode may) c.fail.ensures.files c.fail.ensures.fault))

pub invariant_of-self : goal.invariant_of-self
invariant_of-self g c = λ honest. (both_kept _ _ c.self.inside.known c.self.inside.generations (⊎_elim (keeps_map _ _) (keeps_put _ _ _ _) (c.in-Ok.ensures.stores honest).objects) (c.self.invariant honest).0, tt)

pub invariant_of-self-in-Err : goal.invariant_of-self-in-Err
invariant_of-self-in-Err g c = λ honest. (both_kept _ _ c.self.inside.known c.self.inside.generations (⊎_elim (keeps_map _ _) (keeps_put _ _ _ _) (c.in-Err.ensures.stores honest).objects) (c.self.invariant honest).0, tt)
