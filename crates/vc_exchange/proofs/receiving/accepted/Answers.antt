use Rattle.std.proofs.Common.{◌∷◌, [], ◌++◌, List, ap, ◌∙◌}
use Rattle.vc_push.specs.ReportView.{told_of}
use Rattle.vc_tracking.specs.Moving.{Told}
use Rattle.vc_exchange.specs.Receiving.{accepted}
use Rattle.vc_exchange.proofs.ReceivingLemmas.{next_accepted}
use Rattle.vc_exchange.proofs.receiving.accepted.Goals as goal

pub loop-command-preserved : goal.loop-command-preserved
loop-command-preserved c =
    let command = c.command-item.result in
    c.in_ok-push_accepted.ensures ∙ ap (λ (l : List Told). l ++ accepted (told_of command ∷ [])) c.loop-command.invariant
    ∙ next_accepted c.args.told.now c.loop-command.command-index command c.loop-command-test.true c.command-item.is
