use Rattle.std.proofs.Common.{rules}
use Rattle.vc_pack.specs.AnswerFault.{from_refs}
use Rattle.vc_refs.specs.RefFault.{BlamesHeadValue}
use Rattle.vc_shared.proofs.ServingFaults.{head_blames}
use Rattle.vc_shared.specs.Serving.{IsRefusedList}
use Rattle.vc_shared.proofs.serving.told_refs.Goals as goal

pub returns-in_err-head-clause-refused : goal.returns-in_err-head-clause-refused
returns-in_err-head-clause-refused g c = λ honest.
    let content = g.F.Files.content c.args.files.now in
    let blames : BlamesHeadValue content c.in_err-head.field-0.0 = rw c.in_ok-listed.ensures.same at (c.in_err-head.ensures.refused honest) in
    let told : IsRefusedList content (from_refs c.in_err-head.field-0.0) = head_blames content (c.in_ok-listed.ensures.good honest) c.in_err-head.field-0.0 blames in
    search (rules, told)
