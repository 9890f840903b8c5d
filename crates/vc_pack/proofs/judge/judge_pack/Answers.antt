use Rattle.std.proofs.Common.{rules}
use Rattle.vc_pack.proofs.AnswerLemmas.{refused_pack}
use Rattle.vc_pack.specs.AnswerFault.{IsRefusedPack, from_store}
use Rattle.vc_fetch.specs.PackObjects.{objects_in}
use Rattle.vc_pkt.specs.ObjectStreamView.{carried}
use Rattle.vc_pack.proofs.judge.judge_pack.Goals as goal

pub returns-in_err-found-clause-refused : goal.returns-in_err-found-clause-refused
returns-in_err-found-clause-refused g c honest =
    let content = g.F.Files.content c.args.files.now in
    let brought = objects_in (carried c.args.pack.now.objects) in
    let told : IsRefusedPack content brought c.args.wants.now (from_store c.in_err-found.field-0.0) =
    refused_pack content brought c.args.wants.now c.in_err-found.field-0.0 (c.in_err-found.ensures.refused honest) in
    search (rules, told)

pub returns-in-Err-clause-refused : goal.returns-in-Err-clause-refused
returns-in-Err-clause-refused g c honest = rw c.in-Err.is at (c.in_ok-found.ensures.first honest)

pub returns-in-Ok-clause-complete : goal.returns-in-Ok-clause-complete
returns-in-Ok-clause-complete g c honest whole = rw c.in-Ok.is at (c.in_ok-found.ensures.complete honest whole)

pub returns-in-Ok-clause-met : goal.returns-in-Ok-clause-met
returns-in-Ok-clause-met g c honest whole = rw c.in-Ok.is at (c.in_ok-found.ensures.met honest whole)
