use Rattle.std.proofs.Common.{rules, ◌≤◌, length, refl, arith}
use Rattle.vc_sending.proofs.SendingLaws.{declines_push, refused_push, sends_made, short_commands}
use Rattle.vc_sending.specs.SentPush.{DeclinesPush}
use Rattle.vc_push.specs.PushView.{push_text}
use Rattle.vc_sending.proofs.sending.push_message.Goals as goal

pub returns-in_err-push-clause-declined : goal.returns-in_err-push-clause-declined
returns-in_err-push-clause-declined g c honest =
    let content = g.F.Files.content c.args.files.now in
    let items = c.args.items.now in
    let e = c.in_err-push.field-0.0 in
    let few : length items ≤ 256 = omega (arith, c.if-items-gt-MAX_COMMANDS.false) in
    let declined : DeclinesPush content items e = declines_push content items e (refused_push content items e few (c.in_err-push.ensures.refused honest)) in
    search (rules, declined)

pub write-requires : goal.write-requires
write-requires g c = record { short = short_commands c.in_ok-push.push.commands.items c.in_ok-push.ensures.legal }

pub returns-clause-sent : goal.returns-clause-sent
returns-clause-sent g c honest stands =
    let content = g.F.Files.content c.args.files.now in
    let items = c.args.items.now in
    let few : length items ≤ 256 = omega (arith, c.if-items-gt-MAX_COMMANDS.false) in
    sends_made content c.args.atomic items c.in_ok-push.push.commands.items (push_text c.in_ok-push.push) c.in_ok-bytes.bytes.items c.requires.some few (c.in_ok-push.ensures.push honest stands) c.in_ok-push.ensures.atomic refl
    c.in_ok-push.ensures.legal c.in_ok-bytes.ensures
