use Rattle.vc_files.proofs.WearLemmas.{wears_then, wears_writes, writes_told}
use Rattle.std.proofs.Common.{rules, ap, ◌∙◌}
use Rattle.std.specs.FinMap as paths
use Rattle.vc_index.specs.IndexMap.{IndexMap}
use Rattle.vc_index.specs.IndexText.{index_text}
use Rattle.vc_local.proofs.ShownLemmas.{objects_index, shown_index_from}
use Rattle.vc_local.proofs.CleanLemmas.{clean_from, clean_index}
use Rattle.vc_local.proofs.local.unstage.Goals as goal

pub returns-clause-removed : goal.returns-clause-removed
returns-clause-removed g c = λ honest m spells.
    let path = c.args.path.now in
    shown_index_from _ _ _ _ _ c.in_ok-index.ensures.same (c.in_ok-write_index.ensures.written honest)
    (ap index_text (c.remove.ensures ∙ ap (λ (i : IndexMap). paths.remove i path) (c.in_ok-index.ensures.again honest m spells)))

pub returns-clause-kept : goal.returns-clause-kept
returns-clause-kept g c = λ honest. record { err = tt; clean = clean_from _ _ _ c.in_ok-index.ensures.same (clean_index _ _ _ (c.in_ok-write_index.ensures.written honest)) }

pub returns-in_err-index-clause-wear : goal.returns-in_err-index-clause-wear
returns-in_err-index-clause-wear g c = writes_told (wears_writes c.in_err-index.ensures.wear (search rules)) (search rules) (search rules)

pub returns-clause-wear : goal.returns-clause-wear
returns-clause-wear g c = wears_then c.in_ok-index.ensures.wear (search rules) (search rules) (writes_told c.in_ok-write_index.ensures.wear (search rules) (search rules))

pub returns-clause-objects : goal.returns-clause-objects
returns-clause-objects g c = λ honest. objects_index _ _ _ _ c.in_ok-index.ensures.same (c.in_ok-write_index.ensures.written honest)
