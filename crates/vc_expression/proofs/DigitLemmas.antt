use Rattle.std.proofs.Common.{◌≡◌, ◌<◌, ◌≤◌, ◌^◌, ◌==◌, ◌||◌, cond, lit<, arith, ℕ, List, [], ◌∷◌, Bool, true, false, refl}
use Rattle.std.specs.List.{AllByRecursion}
use Rattle.std.proofs.lemmas.Bool.Decides.{nat_tests}
use Rattle.std.proofs.Math.Nat.{pow-le-pow_right}
use Rattle.vc_expression.specs.Digits.{IsDigit, is_digit, digits_of}

pub digit_from_test : (b : ℕ) → is_digit b ≡ true → IsDigit b
digit_from_test b h = (grind (arith, nat_tests), grind (arith, nat_tests))

all_at : (b : ℕ) (bs : List ℕ) (t : Bool) → is_digit b ≡ t → AllByRecursion IsDigit (digits_of bs) → AllByRecursion IsDigit (cond t (b ∷ digits_of bs) [])
all_at b bs true h a = (digit_from_test b h, a)
all_at b bs false h a = tt

pub all_digits : (text : List ℕ) → AllByRecursion IsDigit (digits_of text)
all_digits [] = tt
all_digits (b ∷ bs) = all_at b bs (is_digit b) refl (all_digits bs)

-- nine digits fit
pub room : (i : ℕ) → i < 9 → 10 ^ i ≤ 100000000
room i h = let j : i ≤ 8 = omega arith in pow-le-pow_right {n = 10} (lit< tt) j

pub test_from_digit : (b : ℕ) → IsDigit b → is_digit b ≡ true
test_from_digit b h = grind (arith, nat_tests)

pub digit_marks : (b : ℕ) → IsDigit b → ((b == 123) ≡ false) × ((b == 64 || (b == 33 || b == 45)) ≡ false)
digit_marks b h = (grind (arith, nat_tests), grind (arith, nat_tests))
