-- What a clone makes of a message from the shared node.
use Rattle.std.specs.Prelude.{◌≡◌, ◌⊎◌, ⊤, List, [], ◌∷◌, map, Some, None, Ok, Err}
use Rattle.std.specs.FinMap.{entries}
use Rattle.vc_files.specs.FileMap.{FileMap}
use Rattle.vc_format.specs.Git.{bytes_of_id}
use Rattle.vc_message.specs.Machine.{IsWritten, machine_told}
use Rattle.vc_model.specs.Clone.{Awaited, ReceivesNot, accepted_ids}
use Rattle.vc_model.specs.Clone.Awaited.{APack, AnAdvert, Nothing}
use Rattle.vc_model.specs.Message.{Message}
use Rattle.vc_model.specs.Node.Reply.{Moved, Sends}
use Rattle.vc_model.specs.Refs.{Refs}
use Rattle.vc_model.specs.Repository.{Repository}
use Rattle.vc_object.specs.declared.id.ObjectId.{ObjectId}
use Rattle.vc_push.specs.Report.{ToldText}
use Rattle.vc_rules.specs.Git.{git}
use Rattle.vc_rules.specs.OpenPushes.{HoldsContent}
use Rattle.vc_exchange.specs.Deeds.{IsReceived}
use Rattle.vc_tracking.specs.Faults.{BlamesFiles, BlamesObjects, BlamesRefs}
use Rattle.vc_tracking.specs.Moving.{Told, machine_refs, told_in}
use Rattle.vc_exchange.specs.Wanting.{BlamesWanting}
use Rattle.vc_tracking.specs.declared.fault.ExchangeFault.{ExchangeFault}
use Rattle.vc_tracking.specs.declared.fault.ExchangeFault.TheVariants.{Fault, Incomplete, Refs as OfRefs, Store}
use Rattle.vc_exchange.specs.declared.receiving.Advertised.{Advertised}
use Rattle.vc_exchange.specs.declared.receiving.Advertised.TheVariants.{Followed, Wanted}

-- the names and new ids of the commands that are accepted
abbrev pub accepted : List ToldText → List Told
accepted [] = []
accepted (t ∷ ts) = elim t.outcome [ Ok id ↦ (t.name, id) ∷ accepted ts | Err reason ↦ accepted ts ]

-- which is what the machine takes of a report
abbrev pub AcceptedAgree : Type 0
AcceptedAgree = (told : List ToldText) → accepted_ids (map machine_told told) ≡ machine_refs (accepted told)

-- the refs of an advertisement in order of their names, as they are told and as the machine has them
abbrev pub AreRefs : Refs → List Told → Type 0
AreRefs refs told = entries refs ≡ machine_refs told

-- what is awaited of a pack
abbrev pub awaited_pack : List ObjectId → Refs → Awaited
awaited_pack wants refs = APack (map bytes_of_id wants) refs

-- the message is sent that asks for what is wanted, and its pack is awaited; or the refs follow, and nothing is
abbrev pub IsAdvertTaken : Repository → Message → FileMap → Advertised → Type 0
IsAdvertTaken r m new (Wanted asked) =
    (refs : Refs) × (want : Message) × AreRefs refs (told_in asked.refs.items) × IsReceived r AnAdvert m new (awaited_pack asked.wants.items refs) (Some want) Sends × IsWritten want asked.bytes.items
IsAdvertTaken r m new (Followed moves) = IsReceived r AnAdvert m new Nothing None (Moved moves.moved moves.left)

-- why an advertisement is not taken: nothing can be asked for, a file is bad, or a fault
abbrev pub BlamesAdvert : FileMap → ExchangeFault → Type 0
BlamesAdvert content e = BlamesWanting content e ⊎ BlamesFiles content e

-- whatever repository is held, the machine's clone refuses the pack, since a want is not complete with it
abbrev pub DeclinesPack : FileMap → List ObjectId → Message → Type 0
DeclinesPack content wants m = (r : Repository) (refs : Refs) → HoldsContent content r → ReceivesNot git r (awaited_pack wants refs) m 92

-- why a pack is not taken: a want is not complete with it, a file is bad, or a fault
abbrev pub BlamesPack : FileMap → List ObjectId → Message → ExchangeFault → Type 0
BlamesPack content wants m (Store fault) = BlamesObjects content fault
BlamesPack content wants m (OfRefs fault) = BlamesRefs content fault
BlamesPack content wants m (Incomplete id) = DeclinesPack content wants m
BlamesPack content wants m (Fault fault) = ⊤
