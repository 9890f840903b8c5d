-- What calls do to two devices, a work tree's and a store's.
use Rattle.std.specs.Prelude.{◌≡◌, ℕ, ◌≤◌, ◌⊎◌, Option}
use Rattle.vc_files.specs.Failures.{HasFailed}

-- no count falls, no call makes a device fail that could not, and `IsDevice`, that a call answers by a device's fault,
-- comes only where one of the two could fail and failed; the writes left are as they were, of the store and of the work tree
pub record WearsEither {W F : Type 0} (work_failed : W → ℕ) (work_can_fail : W → Type 0) (work_left : W → Option ℕ) (files_failed : F → ℕ) (files_can_fail : F → Type 0) (files_left : F → Option ℕ) (old_work new_work : W) (old_files new_files : F) (IsDevice : Type 0) : Type 0 where
  pub later_work : work_failed old_work ≤ work_failed new_work
  pub later_files : files_failed old_files ≤ files_failed new_files
  pub calm_work : work_can_fail new_work → work_can_fail old_work
  pub calm_files : files_can_fail new_files → files_can_fail old_files
  pub could : IsDevice → work_can_fail old_work ⊎ files_can_fail old_files
  pub failed_now : IsDevice → HasFailed (work_failed old_work) (work_failed new_work) ⊎ HasFailed (files_failed old_files) (files_failed new_files)
  pub unspent_work : work_left new_work ≡ work_left old_work
  pub unspent : files_left new_files ≡ files_left old_files
