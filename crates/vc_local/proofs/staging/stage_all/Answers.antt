use Rattle.std.proofs.Common.{rules, ap, ◌∙◌, inr, map, subst}
use Rattle.vc_files.proofs.WearLemmas.{wears_then, wears_writes, writes_told}
use Rattle.vc_index.specs.IndexMap.{IndexMap}
use Rattle.vc_index.specs.IndexText.{index_text}
use Rattle.vc_local.specs.NodeFault.{of_index}
use Rattle.vc_local.specs.Reads.{NoneRead, TellsRead}
use Rattle.vc_local.specs.Staging.{BlamesStaging, MayStandAll, RefusesFirst, placed, with_all}
use Rattle.vc_local.proofs.CleanLemmas.{clean_from, clean_index}
use Rattle.vc_local.proofs.LookLemmas.{looks_told}
use Rattle.vc_local.proofs.MakingLemmas.{told_on}
use Rattle.vc_local.proofs.ShownLemmas.{objects_index, shown_index_from}
use Rattle.vc_local.proofs.StagingLemmas.{blamed_reads, first_blamed, look_blamed, some_placed, told_quiet}
use Rattle.vc_local.proofs.staging.stage_all.Goals as goal

pub returns-in_err-index-clause-refused : goal.returns-in_err-index-clause-refused
returns-in_err-index-clause-refused g c = λ honest m spells.
    let es = map placed c.args.staged.now in
    let fault = c.in_err-index.field-0.0 in
    told_on (BlamesStaging m es) fault c.from_residual.result (search rules)
    (look_blamed (g.F.Files.content c.args.files.now) m es fault spells (some_placed c.args.staged.now c.is_empty.result c.is_empty.ensures c.if-is_empty.false) (c.in_err-index.ensures.refused honest))

pub returns-in_err-index-clause-wear : goal.returns-in_err-index-clause-wear
returns-in_err-index-clause-wear g c = writes_told (wears_writes c.in_err-index.ensures.wear (search rules)) (search rules) (search rules)

pub returns-in_err-put_all-clause-refused : goal.returns-in_err-put_all-clause-refused
returns-in_err-put_all-clause-refused g c = λ honest m spells.
    let es = map placed c.args.staged.now in
    let fault = c.in_err-put_all.field-0.0 in
    let first : RefusesFirst m es fault = subst (λ (i : IndexMap). RefusesFirst i es fault) (c.in_ok-index.ensures.again honest m spells) c.in_err-put_all.ensures.refused in
    told_on (BlamesStaging m es) (of_index fault) c.from_residual-in_err-put_all.result (search rules) (first_blamed m es fault first)

pub returns-in_err-put_all-clause-file : goal.returns-in_err-put_all-clause-file
returns-in_err-put_all-clause-file g c =
    let es = map placed c.args.staged.now in
    let fault = c.in_err-put_all.field-0.0 in
    told_on (TellsRead NoneRead NoneRead) (of_index fault) c.from_residual-in_err-put_all.result (search rules) (blamed_reads c.in_ok-index.index es (of_index fault) (first_blamed c.in_ok-index.index es fault c.in_err-put_all.ensures.refused))

pub returns-in_err-put_all-clause-wear : goal.returns-in_err-put_all-clause-wear
returns-in_err-put_all-clause-wear g c =
    writes_told (wears_writes c.in_ok-index.ensures.wear (search rules)) (λ none. absurd none)
    (told_quiet c.from_residual-in_err-put_all.result c.in_ok-index.index (map placed c.args.staged.now) c.in_err-put_all.field-0.0 (search rules) c.in_err-put_all.ensures.refused)

pub returns-in_err-put_all-clause-looks : goal.returns-in_err-put_all-clause-looks
returns-in_err-put_all-clause-looks g c = λ honest m spells. inr (looks_told c.in_ok-index.ensures.wear
    (told_quiet c.from_residual-in_err-put_all.result c.in_ok-index.index (map placed c.args.staged.now) c.in_err-put_all.field-0.0 (search rules) c.in_err-put_all.ensures.refused))

pub returns-clause-staged : goal.returns-clause-staged
returns-clause-staged g c = λ honest m spells.
    let es = map placed c.args.staged.now in
    let again = c.in_ok-index.ensures.again honest m spells in record {
      may = subst (λ (i : IndexMap). MayStandAll i es) again (c.in_ok-put_all.ensures.may (search rules));
      is = shown_index_from _ _ _ _ _ c.in_ok-index.ensures.same (c.in_ok-write_index.ensures.written honest) (ap index_text (c.in_ok-put_all.ensures.put ∙ ap (λ (i : IndexMap). with_all i es) again));
    }

pub returns-clause-objects : goal.returns-clause-objects
returns-clause-objects g c = λ honest. objects_index _ _ _ _ c.in_ok-index.ensures.same (c.in_ok-write_index.ensures.written honest)

pub returns-clause-kept : goal.returns-clause-kept
returns-clause-kept g c = λ honest. record { err = tt; clean = clean_from _ _ _ c.in_ok-index.ensures.same (clean_index _ _ _ (c.in_ok-write_index.ensures.written honest)) }

pub returns-clause-wear : goal.returns-clause-wear
returns-clause-wear g c = wears_then c.in_ok-index.ensures.wear (search rules) (search rules) (writes_told c.in_ok-write_index.ensures.wear (search rules) (search rules))
