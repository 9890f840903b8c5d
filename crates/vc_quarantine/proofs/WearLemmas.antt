-- What calls do to the device, told in other words.
use Rattle.std.proofs.Common.{ℕ, Option}
use Rattle.vc_files.specs.Failures.{Wears}
-- two calls that write nothing, one after the other
pub use Rattle.vc_refs.proofs.LookLemmas.{wears_both}

-- the device's end
pub wears_told : {D : Type 0} {failed : D → ℕ} {can_fail : D → Type 0} {left : D → Option ℕ} {old new : D} {P Q : Type 0} → Wears failed can_fail left old new P → (Q → P) → Wears failed can_fail left old new Q
wears_told w from = record { later = w.later; calm = w.calm; could = λ device. w.could (from device); failed_now = λ device. w.failed_now (from device); unspent = w.unspent }
