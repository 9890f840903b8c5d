-- Why a message, or the start of an exchange, is refused by a clone, over any files.
use Rattle.std.specs.Prelude.{◌≡◌, List, ℕ}
use Rattle.vc_tracking.specs.Faults.{BlamesFiles}
use Rattle.vc_exchange.specs.Receiving.{BlamesAdvert, BlamesPack}
use Rattle.vc_sending.specs.SendFault.{IsRefusedPush}
use Rattle.vc_tracking.specs.declared.fault.ExchangeFault.{ExchangeFault}
use Rattle.vc_sending.specs.declared.item.PushItem.{PushItem}
use Rattle.vc_sending.specs.declared.send_fault.SendFault.{SendFault}
use Rattle.vc_files.specs.FileMap.{FileMap}
use Rattle.vc_files.specs.declared.faults.Fault.TheVariants.{Memory}
use Rattle.vc_message.specs.AnyMessage.{MessageText, SpellsMessage, a_pack as pack_message, a_report, an_advert as advert_message, any_step, beginning}
use Rattle.vc_message.specs.Machine.{TextOf}
use Rattle.vc_model.specs.Message.{Message}
use Rattle.vc_pkt.specs.Message.{FirstFault, IsSpelledBy}
use Rattle.vc_pkt.specs.declared.fault.PktFault.{PktFault}
use Rattle.vc_repository.specs.Resolving.{IsOfExpr}
use Rattle.vc_expression.specs.Grammar.{ExprText}
use Rattle.vc_rev.specs.declared.refusal.RevFault.{RevFault}
use Rattle.vc_node.specs.Awaited.{AwaitedText, a_pack, an_advert}
use Rattle.vc_node.specs.CloneFaults.{of_device, of_exchange, of_rev, of_send}
use Rattle.vc_node.specs.declared.clone_fault.CloneFault.{CloneFault}
use Rattle.vc_node.specs.declared.clone_fault.CloneFault.TheVariants.{Incomplete, Unexpected, Unread}

-- why a push of these items is not sent
abbrev pub IsRefusedStart : FileMap → List PushItem → CloneFault → Type 0
IsRefusedStart content items e = (fault : SendFault) × (e ≡ of_send fault) × IsRefusedPush content items fault

-- why an expression has no value
abbrev pub IsRefusedValue : FileMap → ExprText → CloneFault → Type 0
IsRefusedValue content text e = (fault : RevFault) × (e ≡ of_rev fault) × IsOfExpr content text fault

-- why a message that was read is refused: it isn't awaited, or for what it asks of the files
abbrev pub IsRefusedBy : (ExchangeFault → Type 0) → CloneFault → Type 0
IsRefusedBy Blames e = (fault : ExchangeFault) × (e ≡ of_exchange fault) × Blames fault

abbrev pub IsRefusedMessage : FileMap → AwaitedText → MessageText → CloneFault → Type 0
IsRefusedMessage content an_advert (advert_message advert) e = IsRefusedBy (BlamesAdvert content) e
IsRefusedMessage content (a_pack wants refs) (pack_message pack) e = IsRefusedBy (λ fault. (m : Message) → TextOf m (pack_message pack) → BlamesPack content wants m fault) e
IsRefusedMessage content awaited (a_report report) e = IsRefusedBy (BlamesFiles content) e
IsRefusedMessage content awaited _ e = e ≡ Unexpected

-- bytes are refused for their first fault, or for the message that they are, or there is no memory to read them
pub data IsRefusedBytes (content : FileMap) (awaited : AwaitedText) (bytes : List ℕ) (e : CloneFault) : Type 0 where
  unread : (fault : PktFault) → FirstFault any_step beginning bytes fault → e ≡ Unread fault → IsRefusedBytes content awaited bytes e
  refused : (text : MessageText) → IsSpelledBy SpellsMessage text bytes → IsRefusedMessage content awaited text e → IsRefusedBytes content awaited bytes e
  no_memory : e ≡ of_device Memory → IsRefusedBytes content awaited bytes e

-- a refusal of the message itself, which leaves the files as they are
abbrev pub IsOfMessage : CloneFault → Type 0
IsOfMessage (Unread fault) = Unit {0}
IsOfMessage Unexpected = Unit {0}
IsOfMessage (Incomplete id) = Unit {0}
IsOfMessage _ = ⊥
