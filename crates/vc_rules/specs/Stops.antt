-- What a stop that is set, and a fuse that is taken out, are to the machine, over files that don't stop by themselves.
use Rattle.std.specs.Prelude.{◌≡◌, ℕ, Bool, true, false, IsTrue, Option, None}
use Rattle.vc_files.specs.Fused.{Fused, FusedCanFail, fused_left, left_after}
use Rattle.vc_files.specs.declared.fused.Fuse.TheVariants.{Unset}
use Rattle.vc_model.specs.ExactWorld.{SetsFuse}
use Rattle.vc_model.specs.Node.{Node}

-- No files of this kind stop by themselves, and they can fail only if the device is frail. It is said of the kind, since under a blown
-- fuse no call says what the files below are.
pub record IsBelow {F : Type 0} (can_fail : F → Type 0) (left : F → Option ℕ) (frail : Bool) : Type 0 where
  pub unstopped : (f : F) → left f ≡ None
  pub calm : (f : F) → can_fail f → IsTrue frail

-- while a node is up its device can fail by itself only if it is frail: a fuse that has blown has taken the node down
abbrev pub IsCalm : {D : Type 0} → (D → Type 0) → (frail is_up : Bool) → D → Type 0
IsCalm can_fail frail is_up device = is_up ≡ true → can_fail device → IsTrue frail

-- A stop that is set at a calm node is one that the machine sets, and the node is calm after it.
abbrev pub StopIsSet : {F : Type 0} → Type 0 → (F → Type 0) → (F → Option ℕ) → Type 0
StopIsSet {F} V can_fail left =
    (frail is_up : Bool) (n : Node V) (old new : Fused F) (writes : ℕ)
    → IsBelow can_fail left frail → IsCalm (FusedCanFail can_fail left) frail is_up old → (is_up ≡ false → n.live ≡ None)
    → new.files ≡ old.files → new.fuse ≡ left_after old.fuse writes
    → SetsFuse frail n (fused_left left old) writes (fused_left left new) × IsCalm (FusedCanFail can_fail left) frail is_up new

-- A fuse that is taken out leaves no stop, and then the files can fail only if they are frail.
abbrev pub FuseIsMended : {F : Type 0} → (F → Type 0) → (F → Option ℕ) → Type 0
FuseIsMended {F} can_fail left =
    (frail : Bool) (new : Fused F) → IsBelow can_fail left frail → new.fuse ≡ Unset → (fused_left left new ≡ None) × (FusedCanFail can_fail left new → IsTrue frail)
