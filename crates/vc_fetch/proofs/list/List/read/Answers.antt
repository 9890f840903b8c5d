use Rattle.vc_pkt.proofs.FaultLaws.{spelled_all, read_all}
use Rattle.std.proofs.Common.{false}
use Rattle.vc_fetch.specs.ListMessage.{list, SpellsList, list_step}
use Rattle.vc_fetch.proofs.Messages.{list_spelled, list_given}
use Rattle.vc_fetch.proofs.list.List.read.Goals as goal

pub returns-clause-spelled : goal.returns-clause-spelled
returns-clause-spelled c = spelled_all list_step false SpellsList list_spelled list_given (λ _. list) _ c.read_message.result c.read_message.ensures

pub returns-clause-read : goal.returns-clause-read
returns-clause-read c = read_all list_step false SpellsList list_spelled list_given (λ _. list) _ c.read_message.result c.read_message.ensures list
