use Rattle.std.proofs.Common.{◌∙◌, Ok, ap}
use Rattle.vc_serving.proofs.InTurnLemmas.{serving_ended, serving_failed, serving_more, serving_none, serving_spent, serving_stopped}
use Rattle.vc_serving.proofs.in_turn.serve_in_turn.Goals as goal

pub messages-init : goal.messages-init
messages-init g c = serving_none g.F.Files.honest g.F.Files.content g.F.Files.failed g.F.Files.can_fail g.F.Files.left g.R.Source.remaining g.R.Source.failed g.R.Source.can_fail g.W.Write.contents g.C.Clients.heard c.args.files c.args.clients.now

pub messages-preserved : goal.messages-preserved
messages-preserved g c =
    serving_more g.F.Files.honest g.F.Files.content g.F.Files.failed g.F.Files.can_fail g.F.Files.left g.R.Source.remaining g.R.Source.failed g.R.Source.can_fail g.W.Write.contents g.C.Clients.heard c.args.files _ _ c.args.clients.now _ _ _ c.messages.left c.next.result _ _ _
    c.messages.invariant (c.in-Ok-Some.is ∙ ap Ok c.in-Ok-Some.field-0-is) c.next.ensures c.take_turn-back.ensures c.in_default.is c.messages-test.true

pub returns-in-Ok-None : goal.returns-in-Ok-None
returns-in-Ok-None g c =
    serving_ended g.F.Files.honest g.F.Files.content g.F.Files.failed g.F.Files.can_fail g.F.Files.left g.R.Source.remaining g.R.Source.failed g.R.Source.can_fail g.W.Write.contents g.C.Clients.heard c.args.files _ c.args.clients.now _ _ c.messages.left c.next.result
    c.messages.invariant (c.in-Ok-None.is ∙ ap Ok c.in-Ok-None.field-0-is) c.next.ensures

pub returns-in-Err : goal.returns-in-Err
returns-in-Err g c =
    serving_failed g.F.Files.honest g.F.Files.content g.F.Files.failed g.F.Files.can_fail g.F.Files.left g.R.Source.remaining g.R.Source.failed g.R.Source.can_fail g.W.Write.contents g.C.Clients.heard c.args.files _ c.args.clients.now _ _ c.messages.left c.next.result _ c.messages.invariant c.in-Err.is c.next.ensures

pub returns-in-Err-ended : goal.returns-in-Err-ended
returns-in-Err-ended g c =
    serving_stopped g.F.Files.honest g.F.Files.content g.F.Files.failed g.F.Files.can_fail g.F.Files.left g.R.Source.remaining g.R.Source.failed g.R.Source.can_fail g.W.Write.contents g.C.Clients.heard c.args.files _ _ c.args.clients.now _ _ _ c.messages.left c.next.result _ _ _ c.in-Err-ended.fault
    c.messages.invariant (c.in-Ok-Some.is ∙ ap Ok c.in-Ok-Some.field-0-is) c.next.ensures c.take_turn-back.ensures c.in-Err-ended.is

pub returns : goal.returns
returns g c = serving_spent g.F.Files.honest g.F.Files.content g.F.Files.failed g.F.Files.can_fail g.F.Files.left g.R.Source.remaining g.R.Source.failed g.R.Source.can_fail g.W.Write.contents g.C.Clients.heard c.args.files _ c.args.clients.now _ c.messages.left c.messages.invariant c.messages-test.false
