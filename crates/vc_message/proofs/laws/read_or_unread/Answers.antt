use Rattle.std.proofs.Common.{◌⊎◌, inl, inr, List, ℕ}
use Rattle.vc_pkt.specs.Message.{FirstFault, IsSpelledBy, GivenBy}
use Rattle.vc_pkt.specs.declared.fault.PktFault.{PktFault}
use Rattle.vc_pkt.proofs.FaultLaws.{no_fault}
use Rattle.vc_message.specs.AnyMessage.{MessageText, SpellsMessage, any_step, any_step_own, beginning}
use Rattle.vc_message.proofs.AnyLaws.{any_given, any_spelled}
use Rattle.vc_message.proofs.Totals.{read_or_unread}
use Rattle.vc_message.proofs.laws.read_or_unread.Goals as goal

spelled_or : (bytes : List ℕ) → ((message : MessageText) × IsSpelledBy (GivenBy any_step beginning) message bytes) ⊎ ((fault : PktFault) × FirstFault any_step beginning bytes fault)
    → ((message : MessageText) × IsSpelledBy SpellsMessage message bytes) ⊎ ((fault : PktFault) × FirstFault any_step beginning bytes fault)
spelled_or bytes (inl (message, (lines, each, e))) = inl (message, (lines, each, any_spelled message lines e))
spelled_or bytes (inr unread) = inr unread

pub returns-clause-each : goal.returns-clause-each
returns-clause-each c = λ bytes. spelled_or bytes (read_or_unread any_step beginning any_step_own bytes)

pub returns-clause-apart : goal.returns-clause-apart
returns-clause-apart c = λ bytes message fault (lines, each, s) first. no_fault any_step beginning bytes message lines each (any_given message lines s) fault first
