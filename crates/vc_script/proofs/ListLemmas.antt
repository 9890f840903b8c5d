-- What the loops of the readers keep: lists of which each word tells one, texts cut at the last such byte, and numbers.
use Rattle.std.proofs.Common.{rules, ◌≡◌, ◌==◌, ◌+◌, ◌-◌, ◌*◌, ◌≤◌, ◌++◌, ◌∷◌, [], ℕ, List, Option, Some, None, true, false, map, length, refl, sym, ◌∙◌, ap, suc, zero, arith, option_map}
use Rattle.std.proofs.lemmas.Bool.{and_parts}
use Rattle.std.proofs.lemmas.Bool.Decides.{nat_tests}
use Rattle.std.proofs.lemmas.List.{append_assoc, append-nil, map-append}
use Rattle.std.specs.List.{list_all}
use Rattle.vc_object.specs.Header.{number, number_after}
use Rattle.vc_script.specs.Words.{all_in, cut_at, cut_last, is_digit, with_one}

-- ---- lists of which each word tells one

module _ {W X Y : Type 0} (one : List ℕ → Option Y) (view : X → Y) (text : W → List ℕ) where
  -- what the words tell behind those that are done
  abbrev pub behind : List X → List W → Option (List Y)
  behind done words = option_map (λ (rest : List Y). map view done ++ rest) (all_in one (map text words))

  behind_one : (done : List X) (x : X) (rest : Option (List Y)) → option_map (λ (r : List Y). map view done ++ r) (with_one (Some (view x)) rest) ≡ option_map (λ (r : List Y). map view (done ++ x ∷ []) ++ r) rest
  behind_one done x None = refl
  behind_one done x (Some r) = ap Some (sym (ap (λ (l : List Y). l ++ r) (map-append view done (x ∷ [])) ∙ append_assoc (map view done) (view x ∷ []) r))

  -- a word tells one
  pub behind-step : (done : List X) (x : X) (w : W) (words : List W) → one (text w) ≡ Some (view x) → behind done (w ∷ words) ≡ behind (done ++ x ∷ []) words
  behind-step done x w words e =
      ap (λ (o : Option Y). option_map (λ (r : List Y). map view done ++ r) (with_one o (all_in one (map text words)))) e
      ∙ behind_one done x (all_in one (map text words))

  -- a word tells none
  pub behind-none : (done : List X) (w : W) (words : List W) → one (text w) ≡ None → behind done (w ∷ words) ≡ None
  behind-none done w words e = ap (λ (o : Option Y). option_map (λ (r : List Y). map view done ++ r) (with_one o (all_in one (map text words)))) e

  -- nothing is left
  pub behind-end : (done : List X) → behind done [] ≡ Some (map view done)
  behind-end done = ap Some (append-nil (map view done))

  -- nothing is done
  behind_all : (rest : Option (List Y)) → option_map (λ (r : List Y). r) rest ≡ rest
  behind_all None = refl
  behind_all (Some r) = refl

  pub behind-start : (words : List W) → behind [] words ≡ all_in one (map text words)
  behind-start words = behind_all (all_in one (map text words))

none_empty : {Y : Type 0} (first : Option Y) (rest : Option (List Y)) → Some [] ≡ with_one first rest → ⊥
none_empty None rest e = absurd (search (rules, e))
none_empty (Some y) None e = absurd (search (rules, e))
none_empty (Some y) (Some ys) e = absurd (search (rules, e))

-- words tell as many as they are
pub all_in-some : {W Y : Type 0} (one : List ℕ → Option Y) (text : W → List ℕ) (words : List W) → (length words == 0) ≡ false → Some [] ≡ all_in one (map text words) → ⊥
all_in-some one text [] some e = absurd (search (rules, some))
all_in-some one text (w ∷ words) some e = none_empty (one (text w)) (all_in one (map text words)) e

-- ---- texts cut at the last such byte

same_byte : (byte : ℕ) → (byte == byte) ≡ true
same_byte byte = grind (arith, nat_tests)

pub cut_last-at : (byte : ℕ) (front rest : List ℕ) → cut_last byte rest ≡ None → cut_last byte (front ++ byte ∷ rest) ≡ Some (front, rest)
cut_last-at byte [] rest none = rw (none, same_byte byte) refl
cut_last-at byte (b ∷ front) rest none = ap (cut_at byte b (front ++ byte ∷ rest)) (cut_last-at byte front rest none)

-- ---- numbers

-- the greatest number of so many digits more
abbrev nines : ℕ → ℕ → ℕ
nines m zero = m
nines m (suc k) = nines (m * 10 + 9) k

nines-grows : (m k : ℕ) → m ≤ nines m k
nines-grows m zero = omega arith
nines-grows m (suc k) = omega (arith, nines-grows (m * 10 + 9) k)

digit_bounds : (d : ℕ) → is_digit d ≡ true → (48 ≤ d) × (d ≤ 57)
digit_bounds d h = (grind (arith, nat_tests), grind (arith, nat_tests))

number_after-nines : (n m k : ℕ) (digits : List ℕ) → n ≤ m → length digits ≤ k → list_all is_digit digits ≡ true → number_after n digits ≤ nines m k
number_after-nines n m k [] le few all = omega (arith, nines-grows m k, le)
number_after-nines n m zero (d ∷ digits) le few all = absurd (omega (arith, few))
number_after-nines n m (suc k) (d ∷ digits) le few all =
    let parts = and_parts (is_digit d) (list_all is_digit digits) all in
    let bounds = digit_bounds d parts.0 in
    number_after-nines (n * 10 + (d - 48)) (m * 10 + 9) k digits (omega (arith, le, bounds.0, bounds.1)) (omega (arith, few)) parts.1

-- nine digits write a number below a thousand millions
pub number-small : (digits : List ℕ) → length digits ≤ 9 → list_all is_digit digits ≡ true → number digits ≤ 999999999
number-small digits few all = number_after-nines 0 0 9 digits (omega arith) few all

pub number_after-grows : (n : ℕ) (digits : List ℕ) → n ≤ number_after n digits
number_after-grows n [] = omega arith
number_after-grows n (d ∷ digits) = omega (arith, number_after-grows (n * 10 + (d - 48)) digits)

-- the first of them is one, and the others are
pub first_digit : (d : ℕ) (digits : List ℕ) → list_all is_digit (d ∷ digits) ≡ true → ((48 ≤ d) × (d ≤ 57)) × (list_all is_digit digits ≡ true)
first_digit d digits all = let parts = and_parts (is_digit d) (list_all is_digit digits) all in (digit_bounds d parts.0, parts.1)
