-- What a command does to two devices, a work tree's and a store's.
use Rattle.std.specs.Prelude.{◌≡◌, ℕ, ◌≤◌, ◌⊎◌, Option, Some}
use Rattle.vc_files.specs.Failures.{DifferAtMost, HasFailed, Spends}
use Rattle.vc_files.specs.FileMap.{FileMap}

-- No count falls. The command made so many writes to the store, and its files differ at no more paths. `IsDevice`, that it answers by a
-- device's fault, comes only where one of the two could fail, or one more write was wanted than were left, and where one of them
-- failed. No device can fail that could not, but for a store that stopped so. The work tree's writes left are as they were.
pub record WritesEither {W F : Type 0} (work_failed : W → ℕ) (work_can_fail : W → Type 0) (work_left : W → Option ℕ) (honest : Type 0) (content : F → FileMap) (failed : F → ℕ) (can_fail : F → Type 0) (left : F → Option ℕ) (old_work new_work : W) (old new : F) (IsDevice : Type 0) : Type 0 where
  pub later_work : work_failed old_work ≤ work_failed new_work
  pub later : failed old ≤ failed new
  pub calm_work : work_can_fail new_work → work_can_fail old_work
  pub calm : can_fail new → can_fail old ⊎ IsDevice
  pub unspent_work : work_left new_work ≡ work_left old_work
  pub made : ℕ
  pub spent : Spends made (left old) (left new)
  pub could : IsDevice → work_can_fail old_work ⊎ (can_fail old ⊎ (left old ≡ Some made))
  pub failed_now : IsDevice → HasFailed (work_failed old_work) (work_failed new_work) ⊎ HasFailed (failed old) (failed new)
  pub differ : honest → DifferAtMost made (content old) (content new)
