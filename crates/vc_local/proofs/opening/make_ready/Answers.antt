use Rattle.vc_files.proofs.WearLemmas.{wears_then, wears_writes, writes_told}
use Rattle.std.proofs.Common.{◌≡◌, rules, ap, ◌∙◌, true, false}
use Rattle.std.specs.Prelude.{is_some}
use Rattle.vc_refs.specs.Head.{head_of}
use Rattle.vc_local.proofs.CleanLemmas.{clean_from, clean_head}
use Rattle.vc_local.proofs.ShownLemmas.{ready_there, ready_made, ready_spells}
use Rattle.vc_local.proofs.opening.make_ready.Goals as goal

pub returns-then-is_some-clause-ready : goal.returns-then-is_some-clause-ready
returns-then-is_some-clause-ready g c = λ honest.
    let content = g.F.Files.content in
    let same = c.in_ok-index.ensures.same in
    let there : is_some c.in_ok-head.field-0 ≡ true = search rules in
    ready_there (content c.args.files.now) (content c.head.new.files) c.in_ok-head.field-0 (c.in_ok-head.ensures.found honest ∙ ap head_of same) there (c.in_ok-head.ensures.same ∙ same)
    (c.in_ok-index.index, c.in_ok-index.ensures.spelled honest)

pub returns-clause-ready : goal.returns-clause-ready
returns-clause-ready g c = λ honest.
    let content = g.F.Files.content in
    let same = c.in_ok-index.ensures.same in
    let none : is_some c.in_ok-head.field-0 ≡ false = search rules in
    ready_made (content c.args.files.now) (content c.head.new.files) (content c.set_head.new.files) c.in_ok-head.field-0 c.in-Ok.main (c.in_ok-head.ensures.found honest ∙ ap head_of same) none (c.in_ok-head.ensures.same ∙ same)
    c.in-Ok.ensures.ok (c.in_ok-set_head.ensures.sets.only honest) (c.in_ok-set_head.ensures.sets.refs honest) (c.in_ok-set_head.ensures.sets.set honest)
    (c.in_ok-index.index, c.in_ok-index.ensures.spelled honest)

pub returns-then-is_some-clause-spelled : goal.returns-then-is_some-clause-spelled
returns-then-is_some-clause-spelled g c = λ honest. ready_spells _ _ _ (returns-then-is_some-clause-ready g c honest) (c.in_ok-index.ensures.spelled honest)

pub returns-clause-spelled : goal.returns-clause-spelled
returns-clause-spelled g c = λ honest. ready_spells _ _ _ (returns-clause-ready g c honest) (c.in_ok-index.ensures.spelled honest)

pub returns-in_err-index-clause-wear : goal.returns-in_err-index-clause-wear
returns-in_err-index-clause-wear g c = writes_told (wears_writes c.in_err-index.ensures.wear (search rules)) (search rules) (search rules)

pub returns-in_err-head-clause-wear : goal.returns-in_err-head-clause-wear
returns-in_err-head-clause-wear g c = wears_then c.in_ok-index.ensures.wear (search rules) (search rules) (writes_told (wears_writes c.in_err-head.ensures.wear (search rules)) (search rules) (search rules))

pub returns-then-is_some-clause-wear : goal.returns-then-is_some-clause-wear
returns-then-is_some-clause-wear g c = wears_then c.in_ok-index.ensures.wear (search rules) (search rules) (writes_told (wears_writes c.in_ok-head.ensures.wear (search rules)) (search rules) (search rules))

pub returns-in_default-clause-wear : goal.returns-in_default-clause-wear
returns-in_default-clause-wear g c = wears_then c.in_ok-index.ensures.wear (search rules) (search rules) (writes_told (wears_writes c.in_ok-head.ensures.wear (search rules)) (search rules) (search rules))

pub returns-clause-wear : goal.returns-clause-wear
returns-clause-wear g c = wears_then c.in_ok-index.ensures.wear (search rules) (search rules) (wears_then c.in_ok-head.ensures.wear (search rules) (search rules) (writes_told c.in_ok-set_head.ensures.wear (search rules) (search rules)))

pub returns-in_err-set_head-clause-wear : goal.returns-in_err-set_head-clause-wear
returns-in_err-set_head-clause-wear g c = wears_then c.in_ok-index.ensures.wear (search rules) (search rules) (wears_then c.in_ok-head.ensures.wear (search rules) (search rules) (writes_told c.in_err-set_head.ensures.wear (search rules) (search rules)))

pub returns-clause-clean : goal.returns-clause-clean
returns-clause-clean g c = λ honest. clean_from _ _ _ (c.in_ok-head.ensures.same ∙ c.in_ok-index.ensures.same) (clean_head _ _ (c.in_ok-set_head.ensures.sets.only honest))
