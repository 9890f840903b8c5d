-- What a clone asks for, and what it says that it has.
use Rattle.std.specs.Prelude.{◌≡◌, ◌⊎◌, ◌++◌, ◌∷◌, [], ℕ, List, Result, IfOk, Vec, Contains, map, ⊤, string_bytes, codes}
use Rattle.std.specs.Global.{Global}
use Rattle.vc_files.specs.FileMap.{FileMap}
use Rattle.vc_format.specs.Git.{bytes_of_id}
use Rattle.vc_object_map.specs.Complete.{IsComplete}
use Rattle.vc_message.specs.Machine.{IsWritten}
use Rattle.vc_model.specs.Clone.{AreOpen, haves_of}
use Rattle.vc_model.specs.Message.Message.{Want}
use Rattle.vc_model.specs.Object.{stored}
use Rattle.vc_model.specs.Repository.{Repository}
use Rattle.vc_object.specs.ObjectMap.{ObjectMap}
use Rattle.vc_object.specs.declared.id.ObjectId.{ObjectId}
use Rattle.vc_refs.specs.Head.{IsBadHead, IsHeadLoop}
use Rattle.vc_refs.specs.RefFault.{IsFirstBadRef}
use Rattle.vc_refs.specs.declared.faults.RefFault.{RefFault}
use Rattle.vc_refs.specs.declared.faults.RefFault.TheVariants as of_refs
use Rattle.vc_rules.specs.Git.{git}
use Rattle.vc_rules.specs.OpenPushes.{HoldsContent}
use Rattle.vc_exchange.specs.Deeds.{HoldsHead}
use Rattle.vc_tracking.specs.Faults.{BlamesObjects}
use Rattle.vc_tracking.specs.Moving.{Told, machine_refs}
use Rattle.vc_tracking.specs.declared.fault.ExchangeFault.{ExchangeFault}
use Rattle.vc_tracking.specs.declared.fault.ExchangeFault.TheVariants.{Fault, Incomplete, Refs, Store}

-- an id that is not complete is added where it isn't there yet; nothing is added for another
abbrev pub AddsOpen : ObjectMap → List ObjectId → List ObjectId → ObjectId → Type 0
AddsOpen objects old new id =
    ((IsComplete objects id ⊎ Contains old id) × (new ≡ old)) ⊎ ((¬ IsComplete objects id) × (¬ Contains old id) × (new ≡ old ++ id ∷ []))

-- the told ids that are not complete, as the machine has them
abbrev pub AreOpenTold : Repository → List Told → List ObjectId → Type 0
AreOpenTold r told ids = AreOpen git (stored r.objects) [] (machine_refs told) (map bytes_of_id ids)

-- the answer has them, whatever repository is held
abbrev pub WantsOpen : FileMap → List Told → Result (Vec ObjectId Global) ExchangeFault → Type 0
WantsOpen content told result = (r : Repository) → HoldsContent content r → IfOk result (λ ids. AreOpenTold r told ids.items)

-- whatever repository is held, the ids are those that its clone says that it has
abbrev pub AreHaves : FileMap → List ObjectId → Type 0
AreHaves content ids = (r : Repository) → HoldsContent content r → HoldsHead content r → map bytes_of_id ids ≡ haves_of r

-- whatever repository is held, the answer is the message that asks for these ids and tells what its clone has
abbrev pub AsksFor : FileMap → List ObjectId → Result (Vec ℕ Global) ExchangeFault → Type 0
AsksFor content wants result = (r : Repository) → HoldsContent content r → HoldsHead content r → IfOk result (λ bytes. IsWritten (Want (map bytes_of_id wants) (haves_of r)) bytes.items)

-- a file in `refs/` stands for no ref, or HEAD's file for no HEAD
abbrev pub BlamesHeads : FileMap → RefFault → Type 0
BlamesHeads content (of_refs.Stale current) = ⊥
BlamesHeads content (of_refs.Conflict name) = ⊥
BlamesHeads content (of_refs.BadRefFile path) = IsFirstBadRef content (string_bytes path) ⊎ ((string_bytes path ≡ codes "HEAD") × IsBadHead content)
BlamesHeads content of_refs.HeadLoop = IsHeadLoop content
BlamesHeads content (of_refs.Fault fault) = ⊤

-- why nothing is asked for: a bad file, or a fault
abbrev pub BlamesWanting : FileMap → ExchangeFault → Type 0
BlamesWanting content (Store fault) = BlamesObjects content fault
BlamesWanting content (Refs fault) = BlamesHeads content fault
BlamesWanting content (Incomplete id) = ⊥
BlamesWanting content (Fault fault) = ⊤
