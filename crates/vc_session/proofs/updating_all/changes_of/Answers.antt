use Rattle.vc_session.proofs.TurnLemmas.{to_be_set_at}
use Rattle.vc_session.proofs.updating_all.changes_of.Goals as goal

pub change_of-requires : goal.change_of-requires
change_of-requires c = to_be_set_at c.args.commands.now c.loop-command.command-index c.command-item.result c.requires c.loop-command-test.true c.command-item.is
