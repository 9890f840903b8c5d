-- What becomes of a fuse.
use Rattle.std.specs.Prelude.{ℕ, ◌+◌, ◌-◌, ◌⊎◌, cond, nat_eq, min, Option, Some, is_some, IsTrue}
use Rattle.vc_files.specs.Failures.{greatest_count}
use Rattle.vc_files.specs.declared.fused.Fuse.{Fuse}
use Rattle.vc_files.specs.declared.fused.Fuse.TheVariants.{Unset, Left, Blown}

-- files with a fuse, and how many calls the fuse has refused
pub record Fused (F : Type 0) : Type 0 where
  pub files : F
  pub fuse : Fuse
  pub refused : ℕ

-- a fuse that is set to so many writes: a blown one stays blown
abbrev pub left_after : Fuse → ℕ → Fuse
left_after Blown writes = Blown
left_after _ writes = Left writes

-- what a write that is wanted leaves of a fuse
abbrev pub after_write : Fuse → Fuse
after_write Unset = Unset
after_write (Left n) = cond (nat_eq n 0) Blown (Left (n - 1))
after_write Blown = Blown

-- the fuse refuses the call
abbrev pub IsBlown : Fuse → Type 0
IsBlown Blown = Unit {0}
IsBlown _ = ⊥

-- how many calls were refused after one more call
abbrev pub refused_after : Fuse → ℕ → ℕ
refused_after Blown refused = min (refused + 1) greatest_count
refused_after _ refused = refused

-- how often files with a fuse have failed
abbrev pub fused_failed : {F : Type 0} → (F → ℕ) → Fused F → ℕ
fused_failed failed s = min (failed s.files + s.refused) greatest_count

-- how many more writes pass, where without a fuse this many do
abbrev pub left_by : Fuse → Option ℕ → Option ℕ
left_by Unset below = below
left_by (Left n) below = Some n
left_by Blown below = Some 0

abbrev pub fused_left : {F : Type 0} → (F → Option ℕ) → Fused F → Option ℕ
fused_left left s = left_by s.fuse (left s.files)

-- whether they can fail where the fuse still lets a write pass: a blown fuse fails every call, and under one that is set the
-- files may come to a stop of their own
abbrev pub CanFailBy : Fuse → Option ℕ → Type 0 → Type 0
CanFailBy Unset below can_fail = can_fail
CanFailBy (Left n) below can_fail = IsTrue (is_some below) ⊎ can_fail
CanFailBy Blown below can_fail = Unit {0}

abbrev pub FusedCanFail : {F : Type 0} → (F → Type 0) → (F → Option ℕ) → Fused F → Type 0
FusedCanFail can_fail left s = CanFailBy s.fuse (left s.files) (can_fail s.files)
