use Rattle.std.proofs.Common.{rules, ◌<◌, length, arith}
use Rattle.vc_sending.proofs.SendingLemmas.{blamed_file, known_long}
use Rattle.vc_sending.specs.SendFault.{BlamesRefFile}
use Rattle.vc_sending.proofs.sending.known_value.Goals as goal

pub returns-then-as_str-gt-MAX_BRANCH-clause-known : goal.returns-then-as_str-gt-MAX_BRANCH-clause-known
returns-then-as_str-gt-MAX_BRANCH-clause-known g c honest =
    let long : 246 < length c.args.name.now = search (rules, arith) in
    known_long (g.F.Files.content c.args.files.now) c.args.name.now long

pub returns-in_err-id-clause-refused : goal.returns-in_err-id-clause-refused
returns-in_err-id-clause-refused g c honest =
    let content = g.F.Files.content c.args.files.now in
    let own : BlamesRefFile content c.in_err-id.field-0.0 = blamed_file content c.in_ok-tracking.tracking c.in_err-id.field-0.0 (c.in_err-id.ensures.refused honest) in
    search (rules, own)
