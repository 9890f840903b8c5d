use Rattle.vc_files.specs.FileMap.{FileMap}
use Rattle.vc_local.specs.GoodCommit.{IsGoodBeyondRefs}
use Rattle.vc_refs.specs.Obstacle.{IsFree}
use Rattle.vc_local.proofs.LookLemmas.{looks_told, looks_then, or_told, looks_or}
use Rattle.std.proofs.Common.{◌≡◌, rules, inr, subst}
use Rattle.vc_files.proofs.WearLemmas.{wears_then, wears_writes, writes_told}
use Rattle.vc_local.specs.Reads.{IsAtName, NoneRead, TellsRead}
use Rattle.vc_local.specs.declared.fault.NodeFault.TheVariants.{Ref}
use Rattle.vc_local.proofs.RefBlames.{way_at_name}
use Rattle.vc_local.proofs.local.set_branch.Goals as goal

pub returns-in_err-refuse_conflict-clause-wear : goal.returns-in_err-refuse_conflict-clause-wear
returns-in_err-refuse_conflict-clause-wear g c = writes_told (wears_writes c.in_err-refuse_conflict.ensures.wear (search rules)) (search rules) (search rules)

pub returns-in_err-refuse_bad_commit-clause-wear : goal.returns-in_err-refuse_bad_commit-clause-wear
returns-in_err-refuse_bad_commit-clause-wear g c = wears_then c.in_ok-refuse_conflict.ensures.wear (search rules) (search rules) (writes_told (wears_writes c.in_err-refuse_bad_commit.ensures.wear (search rules)) (search rules) (search rules))

pub returns-in_err-put_ref-clause-wear : goal.returns-in_err-put_ref-clause-wear
returns-in_err-put_ref-clause-wear g c = wears_then c.in_ok-refuse_conflict.ensures.wear (search rules) (search rules) (wears_then c.in_ok-refuse_bad_commit.ensures.wear (search rules) (search rules) (writes_told c.in_err-put_ref.ensures.wear (search rules) (search rules)))

pub returns-clause-wear : goal.returns-clause-wear
returns-clause-wear g c = wears_then c.in_ok-refuse_conflict.ensures.wear (search rules) (search rules) (wears_then c.in_ok-refuse_bad_commit.ensures.wear (search rules) (search rules) (writes_told c.in_ok-put_ref.ensures.wear (search rules) (search rules)))

pub returns-in_err-refuse_conflict-clause-looks : goal.returns-in_err-refuse_conflict-clause-looks
returns-in_err-refuse_conflict-clause-looks g c = λ honest. inr (looks_told c.in_err-refuse_conflict.ensures.wear (search rules))

pub returns-in_err-refuse_bad_commit-clause-looks : goal.returns-in_err-refuse_bad_commit-clause-looks
returns-in_err-refuse_bad_commit-clause-looks g c = λ honest. inr (looks_then c.in_ok-refuse_conflict.ensures.wear (looks_told c.in_err-refuse_bad_commit.ensures.wear (search rules)))

pub returns-in_err-put_ref-clause-looks : goal.returns-in_err-put_ref-clause-looks
returns-in_err-put_ref-clause-looks g c = λ honest.
    let content = g.F.Files.content in
    let name = c.args.branch.now in
    let free : IsFree (content c.args.files.now) name = search (rules, c.in_ok-refuse_conflict.ensures.free honest) in
    let same : content c.refuse_conflict.new.files ≡ content c.args.files.now = c.in_ok-refuse_conflict.ensures.same in
    let good : IsGoodBeyondRefs (content c.args.files.now) c.args.id.now = subst (λ (m : FileMap). IsGoodBeyondRefs m c.args.id.now) same (λ whole. (c.in_ok-refuse_bad_commit.ensures.complete honest whole, c.in_ok-refuse_bad_commit.ensures.history honest whole)) in
    looks_or c.in_ok-refuse_conflict.ensures.wear (looks_or c.in_ok-refuse_bad_commit.ensures.wear (or_told (c.in_err-put_ref.ensures.looks honest) (λ may. may) (search rules)) (λ may. may)) (λ may. (may.0, free, good))

pub returns-clause-looks : goal.returns-clause-looks
returns-clause-looks g c = λ honest.
    let content = g.F.Files.content in
    let name = c.args.branch.now in
    let free : IsFree (content c.args.files.now) name = search (rules, c.in_ok-refuse_conflict.ensures.free honest) in
    let same : content c.refuse_conflict.new.files ≡ content c.args.files.now = c.in_ok-refuse_conflict.ensures.same in
    let good : IsGoodBeyondRefs (content c.args.files.now) c.args.id.now = subst (λ (m : FileMap). IsGoodBeyondRefs m c.args.id.now) same (λ whole. (c.in_ok-refuse_bad_commit.ensures.complete honest whole, c.in_ok-refuse_bad_commit.ensures.history honest whole)) in
    looks_or c.in_ok-refuse_conflict.ensures.wear (looks_or c.in_ok-refuse_bad_commit.ensures.wear (or_told (c.in_ok-put_ref.ensures.looks honest) (λ may. may) (search rules)) (λ may. may)) (λ may. (may.0, free, good))

pub returns-in_err-refuse_conflict-clause-file : goal.returns-in_err-refuse_conflict-clause-file
returns-in_err-refuse_conflict-clause-file g c = λ honest.
    let told : TellsRead NoneRead (IsAtName (g.F.Files.content c.args.files.now) c.args.branch.now) (Ref c.in_err-refuse_conflict.field-0.0) = way_at_name _ _ _ (c.in_err-refuse_conflict.ensures.refused honest) in
    search (rules, told)
