use Rattle.std.proofs.Common.{rules, map, drop, ◌+◌}
use Rattle.vc_local.specs.Staging.{RefusesFirst, placed}
use Rattle.vc_local.proofs.StagingLemmas.{leads_more, leads_stop, rest_at}
use Rattle.vc_local.proofs.staging.put_all.Goals as goal

pub loop-file-preserved : goal.loop-file-preserved
loop-file-preserved c =
    let files = c.args.files.now in
    let i = c.loop-file.file-index in
    let file = c.file-item.result in
    leads_more c.args.index.now c.loop-file.index (map placed files) (map placed (drop i files)) (map placed (drop (i + 1) files)) file c.deref.result.now c.loop-file.invariant
    (rest_at files i file c.loop-file-test.true c.file-item.is) c.deref.ensures.value c.add.new.self c.in_ok-add.ensures.ok (c.in_ok-add.ensures.legal (search rules)) (c.in_ok-add.ensures.free (search rules))

pub returns-in_err-add-clause-refused : goal.returns-in_err-add-clause-refused
returns-in_err-add-clause-refused c =
    let files = c.args.files.now in
    let i = c.loop-file.file-index in
    let file = c.file-item.result in
    let first : RefusesFirst c.args.index.now (map placed files) c.in_err-add.field-0.0 =
    leads_stop c.args.index.now c.loop-file.index (map placed files) (map placed (drop i files)) (map placed (drop (i + 1) files)) file c.deref.result.now c.loop-file.invariant
    (rest_at files i file c.loop-file-test.true c.file-item.is) c.deref.ensures.value c.in_err-add.field-0.0 c.in_err-add.ensures.refused in
    search (rules, first)
