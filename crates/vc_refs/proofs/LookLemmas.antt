-- Two calls that write nothing, one after the other.
use Rattle.std.proofs.Common.{arith, ℕ, Option, ◌∙◌}
use Rattle.vc_files.specs.Failures.{Wears}
use Rattle.vc_files.proofs.WearLemmas.{fails_later}

-- the end of the second is told in other words
pub wears_both : {D : Type 0} {failed : D → ℕ} {can_fail : D → Type 0} {left : D → Option ℕ} {old mid new : D} {P Q R : Type 0} → Wears failed can_fail left old mid P → Wears failed can_fail left mid new Q → (R → Q) → Wears failed can_fail left old new R
wears_both first second told = record {
  later = omega (arith, first.later, second.later);
  calm = λ can. first.calm (second.calm can);
  could = λ device. first.calm (second.could (told device));
  failed_now = λ device. fails_later first.later (second.failed_now (told device));
  unspent = second.unspent ∙ first.unspent;
}
