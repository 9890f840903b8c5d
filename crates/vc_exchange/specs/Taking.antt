-- What a call says of a message that a clone takes: of each repository that its files hold before it, and of each message of the
-- machine's that is written so.
use Rattle.std.specs.Prelude.{◌⊎◌, List, Result, None, IfErr, IfOk, OnErr}
use Rattle.vc_exchange.specs.Deeds.{ChangesAt, HoldsHead, IsCutShort, IsReceived}
use Rattle.vc_tracking.specs.Moving.{Told}
use Rattle.vc_exchange.specs.Quarantined.{HoldsPack}
use Rattle.vc_exchange.specs.Receiving.{AreRefs, BlamesPack, IsAdvertTaken, awaited_pack}
use Rattle.vc_tracking.specs.declared.fault.ExchangeFault.{ExchangeFault}
use Rattle.vc_exchange.specs.declared.receiving.Advertised.{Advertised}
use Rattle.vc_exchange.specs.declared.receiving.Moves.{Moves}
use Rattle.vc_exchange.specs.declared.receiving.Reported.{Reported}
use Rattle.vc_fetch.specs.Advert.{AdvertText}
use Rattle.vc_fetch.specs.Pack.{PackText}
use Rattle.vc_files.specs.FileMap.{FileMap}
use Rattle.vc_history.specs.Stored.{AgreesIn}
use Rattle.vc_history.specs.declared.generations.Generations.{Generations}
use Rattle.vc_message.specs.Machine.{IsAdvert, IsPack, IsReport}
use Rattle.vc_model.specs.Clone.{Awaited}
use Rattle.vc_model.specs.Clone.Awaited.{AnAdvert, Nothing}
use Rattle.vc_model.specs.Message.{Message}
use Rattle.vc_model.specs.Node.Reply.{Moved as MovedRefs, Reported as ReportedRefs}
use Rattle.vc_model.specs.Refs.{Refs}
use Rattle.vc_model.specs.Repository.{IsSound, Repository}
use Rattle.vc_object.specs.declared.id.ObjectId.{ObjectId}
use Rattle.vc_push.specs.Report.{ReportText}
use Rattle.vc_rules.specs.Git.{git}
use Rattle.vc_rules.specs.OpenPushes.{HoldsContent}

-- ---- an advertisement
-- it is taken, or asked for
abbrev pub ReceivesAdvert : FileMap → FileMap → AdvertText → Result Advertised ExchangeFault → Type 0
ReceivesAdvert old new text result = (r : Repository) → HoldsContent old r → HoldsHead old r → (m : Message) → IsAdvert m text → IfOk result (IsAdvertTaken r m new)

-- an error leaves nothing done, or some of it
abbrev pub CutsAdvert : {T : Type 0} → FileMap → FileMap → AdvertText → Result T ExchangeFault → Type 0
CutsAdvert old new text result = (r : Repository) → HoldsContent old r → (m : Message) → IsAdvert m text → OnErr result (IsCutShort r AnAdvert m new)

-- over a sound repository the machine's clone may change something, or this holds, where the generations are right
abbrev pub MayReceiveAdvert : FileMap → Generations → AdvertText → Type 0 → Type 0
MayReceiveAdvert old generations text IsLook = AgreesIn old generations → (r : Repository) → HoldsContent old r → (m : Message) → IsAdvert m text → (IsSound git r → ChangesAt r AnAdvert m) ⊎ IsLook

-- ---- a pack that brings these wants, which were asked for when these refs were told
abbrev pub ReceivesPack : FileMap → FileMap → PackText → List ObjectId → List Told → Result Moves ExchangeFault → Type 0
ReceivesPack old new text wants told result =
    (r : Repository) → HoldsContent old r → (m : Message) → IsPack m text → (refs : Refs) → AreRefs refs told
    → IfOk result (λ moves. IsReceived r (awaited_pack wants refs) m new Nothing None (MovedRefs moves.moved moves.left))

abbrev pub CutsPack : {T : Type 0} → FileMap → FileMap → PackText → List ObjectId → List Told → Result T ExchangeFault → Type 0
CutsPack old new text wants told result =
    (r : Repository) → HoldsContent old r → (m : Message) → IsPack m text → (refs : Refs) → AreRefs refs told → OnErr result (IsCutShort r (awaited_pack wants refs) m new)

-- the same of each pack whose objects stand in the quarantine under these names
abbrev pub ReceivesHeldPack : FileMap → FileMap → List ObjectId → List ObjectId → List Told → Result Moves ExchangeFault → Type 0
ReceivesHeldPack old new names wants told result = (pack : PackText) → HoldsPack old names pack → ReceivesPack old new pack wants told result

abbrev pub CutsHeldPack : {T : Type 0} → FileMap → FileMap → List ObjectId → List ObjectId → List Told → Result T ExchangeFault → Type 0
CutsHeldPack old new names wants told result = (pack : PackText) → HoldsPack old names pack → CutsPack old new pack wants told result

-- why it is not taken
abbrev pub RefusesHeldPack : {T : Type 0} → FileMap → List ObjectId → List ObjectId → Result T ExchangeFault → Type 0
RefusesHeldPack old names wants result = (pack : PackText) → HoldsPack old names pack → (m : Message) → IsPack m pack → IfErr result (BlamesPack old wants m)

-- ---- a report on a push, whatever is awaited
abbrev pub ReceivesReport : FileMap → FileMap → ReportText → Result Reported ExchangeFault → Type 0
ReceivesReport old new text result =
    (r : Repository) → HoldsContent old r → (m : Message) → IsReport m text → (awaits : Awaited) → IfOk result (λ did. IsReceived r awaits m new awaits None (ReportedRefs did.moved did.refused.items))

abbrev pub CutsReport : {T : Type 0} → FileMap → FileMap → ReportText → Result T ExchangeFault → Type 0
CutsReport old new text result = (r : Repository) → HoldsContent old r → (m : Message) → IsReport m text → (awaits : Awaited) → OnErr result (IsCutShort r awaits m new)

abbrev pub MayReceiveReport : FileMap → Generations → ReportText → Type 0 → Type 0
MayReceiveReport old generations text IsLook = AgreesIn old generations → (r : Repository) → HoldsContent old r → (m : Message) → IsReport m text → (awaits : Awaited) → (IsSound git r → ChangesAt r awaits m) ⊎ IsLook
