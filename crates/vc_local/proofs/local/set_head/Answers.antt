use Rattle.vc_local.specs.Blames.{MayHead}
use Rattle.vc_local.proofs.LookLemmas.{looks_told, or_told, looks_or, looks_from}
use Rattle.vc_files.proofs.WearLemmas.{wears_then, wears_writes, writes_from, writes_told}
use Rattle.std.proofs.Common.{rules, ◌≡◌, ap, ◌∙◌, inr}
use Rattle.vc_local.proofs.ShownLemmas.{shown_head_from}
use Rattle.vc_local.proofs.local.set_head.Goals.{in-Id+in_ok-refuse_bad_commit, in_default}
use Rattle.vc_local.proofs.CleanLemmas.{clean_from, clean_head}
use Rattle.vc_local.proofs.local.set_head.Goals as goal

pub returns-clause-set : goal.returns-clause-set
returns-clause-set g c = λ honest.
    let content = g.F.Files.content in
    let same : content c.match-head.files ≡ content c.args.files.now =
    elim c.match-head.branch [ in-Id+in_ok-refuse_bad_commit w ↦ ap content w.files-is ∙ w.in_ok-refuse_bad_commit.ensures.same | in_default w ↦ ap content w.files-is ] in
    shown_head_from _ _ _ c.args.head.now same (c.in_ok-set_head.ensures.sets.only honest) (c.in_ok-set_head.ensures.sets.refs honest) (c.in_ok-set_head.ensures.sets.set honest)

pub returns-clause-kept : goal.returns-clause-kept
returns-clause-kept g c = λ honest.
    let content = g.F.Files.content in
    let same : content c.match-head.files ≡ content c.args.files.now =
    elim c.match-head.branch [ in-Id+in_ok-refuse_bad_commit w ↦ ap content w.files-is ∙ w.in_ok-refuse_bad_commit.ensures.same | in_default w ↦ ap content w.files-is ] in
    record { err = tt; clean = clean_from _ _ _ same (clean_head _ _ (c.in_ok-set_head.ensures.sets.only honest)) }

pub returns-in_err-refuse_bad_commit-clause-wear : goal.returns-in_err-refuse_bad_commit-clause-wear
returns-in_err-refuse_bad_commit-clause-wear g c = writes_told (wears_writes c.in_err-refuse_bad_commit.ensures.wear (search rules)) (search rules) (search rules)

pub returns-clause-wear : goal.returns-clause-wear
returns-clause-wear g c =
    elim c.match-head.branch [
      | in-Id+in_ok-refuse_bad_commit w ↦ wears_then w.in_ok-refuse_bad_commit.ensures.wear (search rules) (search rules) (writes_from w.files-is (writes_told c.in_ok-set_head.ensures.wear (search rules) (search rules)))
      | in_default w ↦ writes_from w.files-is (writes_told c.in_ok-set_head.ensures.wear (search rules) (search rules))
    ]

pub returns-in_err-refuse_bad_commit-clause-looks : goal.returns-in_err-refuse_bad_commit-clause-looks
returns-in_err-refuse_bad_commit-clause-looks g c = λ honest. inr (looks_told c.in_err-refuse_bad_commit.ensures.wear (search rules))

pub returns-in_err-set_head-clause-looks : goal.returns-in_err-set_head-clause-looks
returns-in_err-set_head-clause-looks g c = λ honest.
    let content = g.F.Files.content in
    let may : MayHead (content c.args.files.now) c.args.head.now = search rules in
    elim c.match-head.branch [
      | in-Id+in_ok-refuse_bad_commit w ↦
          looks_or w.in_ok-refuse_bad_commit.ensures.wear (looks_from w.files-is (or_told c.in_err-set_head.ensures.looks (λ legal. legal) (search rules))) (λ legal. (legal, may))
      | in_default w ↦ looks_from w.files-is (or_told c.in_err-set_head.ensures.looks (λ legal. (legal, may)) (search rules))
    ]

pub returns-clause-looks : goal.returns-clause-looks
returns-clause-looks g c = λ honest.
    let content = g.F.Files.content in
    let may : MayHead (content c.args.files.now) c.args.head.now = search rules in
    elim c.match-head.branch [
      | in-Id+in_ok-refuse_bad_commit w ↦
          looks_or w.in_ok-refuse_bad_commit.ensures.wear (looks_from w.files-is (or_told c.in_ok-set_head.ensures.looks (λ legal. legal) (search rules))) (λ legal. (legal, may))
      | in_default w ↦ looks_from w.files-is (or_told c.in_ok-set_head.ensures.looks (λ legal. (legal, may)) (search rules))
    ]
