use Rattle.vc_format.specs.Git.{bytes_of_id}
use Rattle.vc_model.specs.Clone.Task.{MakeCommit}
use Rattle.vc_local.proofs.MayLemmas.{commit_may}
use Rattle.vc_local.proofs.LookLemmas.{looks_none, or_told, or_failed}
use Rattle.std.proofs.Common.{refl, rules, ap, inl, inr, sym, subst, map}
use Rattle.vc_files.specs.FileMap.{FileMap}
use Rattle.vc_files.proofs.FileMapLemmas.{outside_same}
use Rattle.vc_local.specs.Making.{EndsCommit, LeftByCommit}
use Rattle.vc_local.proofs.AnswerLemmas.{answers_down}
use Rattle.vc_local.proofs.CommitAnswers.{commit_done}
use Rattle.vc_local.proofs.CommitFailures.{commit_failed}
use Rattle.vc_local.proofs.CleanLemmas.{clean_same}
use Rattle.vc_node.proofs.HeldAnswers.{answered_if_sound}
use Rattle.vc_local.proofs.SoundAnswers.{answers_too, may_if_sound, sound_failed, sound_from}
use Rattle.vc_node.proofs.KeepingLemmas.{both_kept, keeps_committed, keeps_left}
use Rattle.vc_node.proofs.node.CloneNode.commit.Goals as goal

pub commit-requires : goal.commit-requires
commit-requires g c = λ honest. rw c.take-kept.ensures.value (c.self.invariant honest).1

pub returns-then-not-self-clause-answers : goal.returns-then-not-self-clause-answers
returns-then-not-self-clause-answers g c = λ honest. answered_if_sound _ _ _ _ _ _ (inr (answers_too _ _ _ _ _ _ (answers_down _ _ _ (search rules)))) (clean_same _ _ refl)

pub returns-in-Ok-clause-answers : goal.returns-in-Ok-clause-answers
returns-in-Ok-clause-answers g c = λ honest.
    let old = g.F.Files.content c.self.inside.files in
    answered_if_sound _ _ _ _ _ _ (rw (← c.self.view_is) (inr (sound_from _ _ _ _ (g.F.Files.content c.self.inside.files) _
    (commit_done old c.args.extra_parents.now c.args.author.now c.args.committer.now c.args.message.now c.in-Ok.id _ c.in-Ok.ensures.lines (c.in-Ok.ensures.committed honest)) (search rules) (search rules)))) (search rules)

pub returns-in-Err-clause-answers : goal.returns-in-Err-clause-answers
returns-in-Err-clause-answers g c = λ honest.
    let content = g.F.Files.content in
    let old = content c.self.inside.files in
    let left : LeftByCommit old c.args.extra_parents.now c.args.author.now c.args.committer.now c.args.message.now (content c.fail.new.self.files) =
    subst (λ (n : FileMap). LeftByCommit old c.args.extra_parents.now c.args.author.now c.args.committer.now c.args.message.now n) (sym (ap content c.fail.ensures.files)) (c.in-Err.ensures.left honest).left in
    answered_if_sound _ _ _ _ _ _ (rw (← c.self.view_is) (sound_failed _ _ _ _ _ (g.F.Files.content c.self.inside.files) _
    (commit_failed old c.args.extra_parents.now c.args.author.now c.args.committer.now c.args.message.now c.in-Err.refusal (content c.fail.new.self.files) (c.in-Err.ensures.refused honest) left)
    c.fail.ensures.fault (search rules) (c.fail.ensures.up (search rules)))) (search rules)

pub returns-then-not-self-clause-left : goal.returns-then-not-self-clause-left
returns-then-not-self-clause-left g c = λ honest. record { because = inl (refl, search rules); left = inl refl; outside = outside_same _ _ }

pub returns-in-Err-clause-left : goal.returns-in-Err-clause-left
returns-in-Err-clause-left g c = λ honest.
    let content = g.F.Files.content in
    let Ends : FileMap → Type 0 = λ n. EndsCommit c.self.inside.is_up (content c.self.inside.files) c.args.extra_parents.now c.args.author.now c.args.committer.now c.args.message.now n c.in-Err.refusal in
    let left = c.in-Err.ensures.left honest in
    let ends : Ends (content c.commit.new.files) = record { because = inr (c.in-Err.ensures.refused honest); left = left.left; outside = left.outside } in
    rw (← c.self.view_is, c.fail.ensures.fault) (subst Ends (sym (ap content c.fail.ensures.files)) ends)

pub returns-in-Err-clause-file : goal.returns-in-Err-clause-file
returns-in-Err-clause-file g c = λ honest. rw (← c.self.view_is, c.fail.ensures.fault) (c.in-Err.ensures.file honest)

pub returns-then-not-self-clause-looks : goal.returns-then-not-self-clause-looks
returns-then-not-self-clause-looks g c = λ honest awaited n holds. inr (looks_none (λ told. told))

pub returns-in-Ok-clause-looks : goal.returns-in-Ok-clause-looks
returns-in-Ok-clause-looks g c = λ honest. rw (← c.self.view_is) (may_if_sound (MakeCommit (map bytes_of_id c.args.extra_parents.now) c.args.author.now c.args.committer.now c.args.message.now) _ _ (search rules) (λ awaited r p. or_told (c.in-Ok.ensures.looks honest) (λ may. commit_may _ awaited r p c.args.extra_parents.now c.args.author.now c.args.committer.now c.args.message.now may) (search rules)))

pub returns-in-Err-clause-looks : goal.returns-in-Err-clause-looks
returns-in-Err-clause-looks g c = λ honest. rw (← c.self.view_is) (may_if_sound (MakeCommit (map bytes_of_id c.args.extra_parents.now) c.args.author.now c.args.committer.now c.args.message.now) _ _ (search rules) (λ awaited r p. or_failed (c.in-Err.ensures.looks honest) (λ may. commit_may _ awaited r p c.args.extra_parents.now c.args.author.now c.args.committer.now c.args.message.now may) c.fail.ensures.files c.fail.ensures.fault))

pub invariant_of-self : goal.invariant_of-self
invariant_of-self g c = λ honest. (both_kept _ _ c.self.inside.known c.self.inside.generations (keeps_committed _ _ _ _ _ _ c.in-Ok.id (c.in-Ok.ensures.committed honest)) (c.self.invariant honest).0, rw c.take-kept.ensures.after tt)

pub invariant_of-self-in-Err : goal.invariant_of-self-in-Err
invariant_of-self-in-Err g c = λ honest. (both_kept _ _ c.self.inside.known c.self.inside.generations (keeps_left (g.F.Files.content c.self.inside.files) (g.F.Files.content c.commit.new.files) c.args.extra_parents.now c.args.author.now c.args.committer.now c.args.message.now (c.in-Err.ensures.left honest).left) (c.self.invariant honest).0, rw c.take-kept.ensures.after tt)
