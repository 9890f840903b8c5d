use Rattle.std.proofs.Common.{refl, rules, ap, ◌∙◌, inr}
use Rattle.vc_history.proofs.StoredLemmas.{keeps_map}
use Rattle.vc_node.proofs.KeepingLemmas.{both_kept}
use Rattle.vc_local.proofs.CleanLemmas.{clean_same}
use Rattle.vc_local.proofs.IndexLemmas.{spells_index}
use Rattle.vc_local.proofs.LookLemmas.{looks_none, or_told, or_failed}
use Rattle.vc_local.proofs.StagingLemmas.{staging_done, staging_down, staging_failed, staging_may}
use Rattle.vc_node.proofs.HeldAnswers.{staged}
use Rattle.vc_node.proofs.node.CloneNode.stage_all.Goals as goal

pub returns-then-not-self-clause-answers : goal.returns-then-not-self-clause-answers
returns-then-not-self-clause-answers g c = λ honest. staged _ _ _ _ _ (staging_down _ _ _ (search rules)) (clean_same _ _ refl)

pub returns-in-Ok-clause-answers : goal.returns-in-Ok-clause-answers
returns-in-Ok-clause-answers g c = λ honest. staged _ _ _ _ _ (rw (← c.self.view_is) (staging_done _ c.args.files.now _ _ _ c.requires (c.in-Ok.ensures.staged honest) (search rules) (search rules))) (search rules)

pub returns-in-Err-clause-answers : goal.returns-in-Err-clause-answers
returns-in-Err-clause-answers g c = λ honest.
    let content = g.F.Files.content in
    let same = ap content c.fail.ensures.files ∙ (c.in-Err.ensures.kept honest).err in
    staged _ _ _ _ _ (rw (← c.self.view_is) (staging_failed (content c.self.inside.files) c.args.files.now _ _ (search rules) c.in-Err.fault _ (content c.fail.new.self.files) c.fail.ensures.fault same (c.in-Err.ensures.refused honest) (c.fail.ensures.up (search rules)))) (search rules)

pub returns-in-Err-clause-refused : goal.returns-in-Err-clause-refused
returns-in-Err-clause-refused g c = rw (← c.self.view_is, c.fail.ensures.fault) (λ honest up m spells. c.in-Err.ensures.refused honest m spells)

pub returns-then-not-self-clause-looks : goal.returns-then-not-self-clause-looks
returns-then-not-self-clause-looks g c = λ honest awaited n files holds are. inr (looks_none (λ told. told))

pub returns-in-Ok-clause-looks : goal.returns-in-Ok-clause-looks
returns-in-Ok-clause-looks g c = λ honest. rw (← c.self.view_is) (λ awaited n files holds are.
    or_told (c.in-Ok.ensures.looks honest holds.shows.spells.map (spells_index _ n.repository holds.shows.spells)) (λ may. staging_may _ c.args.files.now _ (search rules) awaited n files holds are may) (search rules))

pub returns-in-Err-clause-looks : goal.returns-in-Err-clause-looks
returns-in-Err-clause-looks g c = λ honest. rw (← c.self.view_is) (λ awaited n files holds are.
    or_failed (c.in-Err.ensures.looks honest holds.shows.spells.map (spells_index _ n.repository holds.shows.spells)) (λ may. staging_may _ c.args.files.now _ (search rules) awaited n files holds are may) c.fail.ensures.files c.fail.ensures.fault)

pub returns-in-Ok-clause-kept : goal.returns-in-Ok-clause-kept
returns-in-Ok-clause-kept g c = rw (← c.self.view_is) (λ honest. record { err = tt; clean = (c.in-Ok.ensures.kept honest).clean; objects = keeps_map _ _ (c.in-Ok.ensures.objects honest) })

pub returns-in-Err-clause-kept : goal.returns-in-Err-clause-kept
returns-in-Err-clause-kept g c = λ honest.
    let content = g.F.Files.content in
    rw (← c.self.view_is, ap content c.fail.ensures.files) (record { err = (c.in-Err.ensures.kept honest).err; clean = (c.in-Err.ensures.kept honest).clean; objects = keeps_map _ _ (c.in-Err.ensures.objects honest) })

pub invariant_of-self : goal.invariant_of-self
invariant_of-self g c = λ honest. (both_kept _ _ c.self.inside.known c.self.inside.generations (keeps_map _ _ (c.in-Ok.ensures.objects honest)) (c.self.invariant honest).0, tt)

pub invariant_of-self-in-Err : goal.invariant_of-self-in-Err
invariant_of-self-in-Err g c = λ honest. (both_kept _ _ c.self.inside.known c.self.inside.generations (keeps_map _ _ (c.in-Err.ensures.objects honest)) (c.self.invariant honest).0, tt)
