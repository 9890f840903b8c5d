-- A pack whose objects stand in the clone's quarantine, the first slot's, until it is judged.
use Rattle.std.specs.Prelude.{◌≡◌, ⊤, ℕ, List, false, nat_eq, codes}
use Rattle.std.specs.FinMap.{get}
use Rattle.std.specs.List.{starts_with}
use Rattle.vc_fetch.specs.Pack.{PackText}
use Rattle.vc_files.specs.FileMap.{FileMap}
use Rattle.vc_graph.specs.Incomplete.{IsFirstIncomplete}
use Rattle.vc_object.specs.ObjectMap.{links_in}
use Rattle.vc_object.specs.declared.id.ObjectId.{ObjectId}
use Rattle.vc_push_rules.specs.Carrying.{Carries, objects_in}
use Rattle.vc_quarantine.specs.Clean.{IsQuarantineClean}
use Rattle.vc_push_rules.specs.Quarantine.{objects_seen, quarantine_folder}
use Rattle.vc_quarantine.specs.Blames.{BlamesDamage}
use Rattle.vc_tracking.specs.Storing.{KeepsGood}
use Rattle.vc_tracking.specs.declared.fault.ExchangeFault.{ExchangeFault}
use Rattle.vc_tracking.specs.declared.fault.ExchangeFault.TheVariants.{Fault, Incomplete, Refs as OfRefs, Store}

-- The quarantine holds what the pack brings, under these names, and no bad file.
pub record HoldsPack (content : FileMap) (names : List ObjectId) (pack : PackText) : Type 0 where
  pub carries : Carries content 0 names (objects_in pack.objects)
  pub clean : IsQuarantineClean content 0

-- beside objects, refs and the quarantine nothing changes
pub record KeepsOthers (old new : FileMap) : Type 0 where
  pub at : (path : List ℕ) → starts_with nat_eq path (codes "objects/") ≡ false → starts_with nat_eq path (codes "refs/") ≡ false → starts_with nat_eq path (quarantine_folder 0) ≡ false → get new path ≡ get old path

-- No object is lost, no file is made bad, and only objects, refs and the quarantine change.
pub record KeepsHeld (old new : FileMap) : Type 0 where
  pub good : KeepsGood old new
  pub others : KeepsOthers old new

-- why what stands there is not enough: a want is not complete with it, a file is damaged, in the store or there, or a fault
abbrev pub BlamesSeen : FileMap → List ObjectId → ExchangeFault → Type 0
BlamesSeen content wants (Store fault) = BlamesDamage content 0 fault
BlamesSeen content wants (OfRefs fault) = ⊥
BlamesSeen content wants (Incomplete id) = IsFirstIncomplete (links_in (objects_seen content 0)) wants id
BlamesSeen content wants (Fault fault) = ⊤
