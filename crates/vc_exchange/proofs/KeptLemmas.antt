-- What a clone makes of a message keeps the objects that were stored: for the functions of this crate, and for who calls them.
use Rattle.std.proofs.Common.{◌≡◌, ⊎_elim, List, Option, Some, refl, ap, ◌∙◌}
use Rattle.std.specs.Prelude.{codes}
use Rattle.std.specs.Option.{option_or}
use Rattle.vc_history.specs.Stored.{KeepsObjects}
use Rattle.vc_files.specs.FileMap.{FileMap, SameOutside}
use Rattle.vc_object_map.specs.Overlay.{with_carried}
use Rattle.vc_history.specs.Stored.{AgreesIn}
use Rattle.vc_history.specs.declared.generations.Generations.{Generations}
use Rattle.vc_object.specs.Decoding.{StoredObject}
use Rattle.vc_object.specs.declared.id.ObjectId.{ObjectId}
use Rattle.vc_push_rules.proofs.FrameLemmas.{objects-same}
use Rattle.vc_history.proofs.StoredLemmas.{numbers_kept, numbers_same}
use Rattle.vc_quarantine.proofs.KeepingLemmas.{keeps_migrated}
use Rattle.vc_push_rules.specs.Carrying.{objects_in}
use Rattle.vc_quarantine.specs.Migrating.{migrated}
use Rattle.vc_object_map.specs.Store.{object_path, objects}
use Rattle.vc_tracking.specs.Storing.{AreSomeStored, AreStored}

module _ (old new : FileMap) where
  -- a change of refs alone
  pub keeps_beside_refs : SameOutside (codes "refs/") old new → KeepsObjects old new
  keeps_beside_refs outside = record { at = λ id o is. objects-same old new id (outside.at (object_path id.0) refl) ∙ is }

  module _ (brought : List StoredObject) where
    there : (id : ObjectId) (o : StoredObject) → objects old id ≡ Some o → with_carried (objects old) (objects_in brought) id ≡ Some o
    unfolding with_carried
    there id o is = ap (λ (found : Option StoredObject). option_or found (objects_in brought id)) is

    -- what is brought is added
    pub keeps_stored : AreStored old new brought → KeepsObjects old new
    keeps_stored stored = record { at = λ id o is. stored.each id ∙ there id o is }

    -- or some of it
    pub keeps_some : AreSomeStored old new brought → KeepsObjects old new
    keeps_some some = record { at = λ id o is. ⊎_elim (λ same. same ∙ is) (λ added. added ∙ there id o is) (some.each id) }

-- numbers that agreed agree where what is brought is stored
pub agrees_stored : (old first mid seen : FileMap) (brought : List StoredObject) (generations : Generations) → first ≡ old → AreStored first mid brought → seen ≡ mid → AgreesIn old generations → AgreesIn seen generations
agrees_stored old first mid seen brought generations at stored same agrees =
    numbers_same mid seen same generations (numbers_kept first mid (keeps_stored first mid brought stored) generations (numbers_same old first at generations agrees))

-- the same of what stood in the quarantine
pub agrees_migrated : (old first mid seen : FileMap) (names : List ObjectId) (generations : Generations) → first ≡ old → ((id : ObjectId) → objects mid id ≡ migrated first 0 names id) → seen ≡ mid → AgreesIn old generations
    → AgreesIn seen generations
agrees_migrated old first mid seen names generations at stored same agrees = numbers_same mid seen same generations (numbers_kept first mid (keeps_migrated first mid 0 names stored) generations (numbers_same old first at generations agrees))
