-- What calls do to a device: how often it has failed, counted up to the greatest u64, whether it can fail, and how many more
-- writes it takes before it stops, or none where no stop is set.
use Rattle.std.specs.Prelude.{◌≡◌, ℕ, ◌<◌, ◌≤◌, ◌-◌, ◌⊎◌, List, Contains, length, Option, Some, None}
use Rattle.std.specs.FinMap.{get}
use Rattle.vc_files.specs.FileMap.{FileMap}

-- where a count of failures stops: the greatest u64
abbrev pub greatest_count : ℕ
greatest_count = 18446744073709551615

-- the count rose, or it stands at its greatest value
abbrev pub HasFailed : ℕ → ℕ → Type 0
HasFailed before after = (before < after) ⊎ (after ≡ greatest_count)

-- What a call that writes nothing does to a device. The count of failures never falls, no call makes a device fail that could
-- not, and `IsDevice`, that a call answers by the device's fault, comes only where the device could fail and failed. The writes
-- left are as they were.
pub record Wears {D : Type 0} (failed : D → ℕ) (can_fail : D → Type 0) (left : D → Option ℕ) (old new : D) (IsDevice : Type 0) : Type 0 where
  pub later : failed old ≤ failed new
  pub calm : can_fail new → can_fail old
  pub could : IsDevice → can_fail old
  pub failed_now : IsDevice → HasFailed (failed old) (failed new)
  pub unspent : left new ≡ left old

-- a device with no stop
abbrev pub unstopped : {D : Type 0} → D → Option ℕ
unstopped device = None

-- of the writes that were left, so many are spent
abbrev pub Spends : ℕ → Option ℕ → Option ℕ → Type 0
Spends writes None after = after ≡ None
Spends writes (Some left) after = (writes ≤ left) × (after ≡ Some (left - writes))

-- the files differ at so many paths at most
abbrev pub DifferAtMost : ℕ → FileMap → FileMap → Type 0
DifferAtMost n old new = (paths : List (List ℕ)) × (length paths ≤ n) × ((path : List ℕ) → (get new path ≡ get old path) ⊎ Contains paths path)

-- What a call that may write does to a device. It made so many writes, and the files differ at no more paths. It answers by the
-- device's fault only where the device could fail, or it wanted one more write than were left; a device that stopped so can fail
-- from then on.
pub record Writes {D : Type 0} (honest : Type 0) (content : D → FileMap) (failed : D → ℕ) (can_fail : D → Type 0) (left : D → Option ℕ) (old new : D) (IsDevice : Type 0) : Type 0 where
  pub later : failed old ≤ failed new
  pub calm : can_fail new → can_fail old ⊎ IsDevice
  pub failed_now : IsDevice → HasFailed (failed old) (failed new)
  pub made : ℕ
  pub spent : Spends made (left old) (left new)
  pub could : IsDevice → can_fail old ⊎ (left old ≡ Some made)
  pub differ : honest → DifferAtMost made (content old) (content new)
