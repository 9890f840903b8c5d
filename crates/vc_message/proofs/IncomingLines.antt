-- One line from a reader, for the functions that take it.
use Rattle.std.proofs.Common.{◌≡◌, ◌≢◌, ℕ, ◌+◌, ◌-◌, ◌<◌, ◌≤◌, List, [], ◌∷◌, ◌++◌, length, take, drop, refl, ap, sym, ◌∙◌, subst, arith, append_assoc, length-append, ◌⊎◌, inl, inr}
use Rattle.std.specs.Io.KnownBytes.{Consumes, IsAtEnd}
use Rattle.std.specs.Prelude.{Option}
use Rattle.std.proofs.KnownBytes.{Consumes-trans}
use Rattle.std.proofs.lemmas.List.{append-nil, drop_at, take_all, take_at}
use Rattle.vc_object.proofs.Texts.{agreeing}
use Rattle.vc_pkt.specs.Line.{flush, text, IsLength, IsPart, short}
use Rattle.vc_pkt.proofs.LineLaws.{IsLength-same, no_digits, part_here}
use Rattle.vc_message.specs.Incoming.{IsLineOf, whole, wrong, ended, IsRest, fewer, none, all, more, IsWithinLine, TakesWithinLine}
use Rattle.vc_message.proofs.Totals.{less_or}

-- ---- the first four bytes
module _ (front : List ℕ) (four : 4 ≤ length front) (long : length front ≤ 4) where
  front_is : take 4 front ≡ front
  front_is = take_all 4 front long

  pub no_number : ((n : ℕ) → IsLength front n → ⊥) → IsRest front 0
  no_number never = none (no_digits front front four (sym front_is) never) refl

  module _ (n : ℕ) (h : IsLength front n) where
    out_of_range : ((0 < n) × (n < 4)) ⊎ (65520 < n) → IsRest front 0
    out_of_range out = none (record {
      four = four;
      bad = λ m k. subst (λ i. ((0 < i) × (i < 4)) ⊎ (65520 < i)) (IsLength-same front n m h (subst (λ d. IsLength d m) front_is k)) out;
    }) refl

    by_zero : n < 4 → (n < 1) ⊎ (1 ≤ n) → IsRest front 0
    by_zero low (inl zero) = all flush (subst (λ i. IsLength front i) (omega (arith, zero)) h) refl
    by_zero low (inr some) = out_of_range (inl (omega (arith, some), low))

    pub low_number : n < 4 → IsRest front 0
    low_number low = by_zero low (less_or n 1)

    pub high_number : 65516 < n - 4 → IsRest front 0
    high_number high = out_of_range (inr (omega (arith, high)))

    by_four : 4 ≤ n → n - 4 ≤ 65516 → (n < 5) ⊎ (5 ≤ n) → IsRest front (n - 4)
    by_four low high (inl least) =
        let same : n ≡ 0 + 4 = omega (arith, low, least) in
        all (text []) (front, subst (λ i. IsLength front i) same h, omega arith, sym (append-nil front)) (omega (arith, least))
    by_four low high (inr rest) =
        let same : n ≡ n - 4 + 4 = omega (arith, low) in
        more (subst (λ i. IsLength front i) same h) (omega (arith, rest)) high

    pub rest_number : 4 ≤ n → n - 4 ≤ 65516 → IsRest front (n - 4)
    rest_number low high = by_four low high (less_or n 5)

-- ---- what is taken
-- what was read stands behind what there was before
pub read_behind : (before read now behind : List ℕ) (start : ℕ) → start ≡ length before → behind ≡ drop start now → now ≡ before ++ read → behind ≡ read
read_behind before read now behind start here is e = is ∙ ap (drop start) e ∙ drop_at before read start (sym here)

some_length : (xs : List ℕ) → xs ≢ [] → 0 < length xs
some_length [] some = absurd (some refl)
some_length (x ∷ xs) some = omega arith

shorter : (bytes front rest : List ℕ) → bytes ≡ front ++ rest → rest ≢ [] → length front < length bytes
shorter bytes front rest e some =
    let len = ap length e ∙ length-append front rest in let left = some_length rest some in omega (arith, len, left)

pub within_four : (bytes : List ℕ) → length bytes ≤ 4 → IsWithinLine bytes
within_four bytes four = λ front rest e some. let less = shorter bytes front rest e some in short (omega (arith, less, four))

-- two reads, one behind the other
pub read_both : (before first then_read mid now : List ℕ) → mid ≡ before ++ first → now ≡ mid ++ then_read → now ≡ before ++ (first ++ then_read)
read_both before first then_read mid now e f = f ∙ ap (λ t. t ++ then_read) e ∙ append_assoc before first then_read

module _ (digits : List ℕ) (n : ℕ) (h : IsLength digits (n + 4)) (high : n ≤ 65516) where
  part_of_line : (read : List ℕ) → length read < n → IsPart (digits ++ read)
  part_of_line read less =
      part_here (digits ++ read) digits read (n + 4) (sym (take_at digits read 4 h.four)) (sym (drop_at digits read 4 h.four)) h (omega arith) (omega (arith, high)) (omega (arith, less))

  before : (read front rest : List ℕ) → length read ≤ n → rest ≢ []
      → ((z : List ℕ) × (front ≡ digits ++ z) × (read ≡ z ++ rest)) ⊎ ((z : List ℕ) × (digits ≡ front ++ z) × (rest ≡ z ++ read)) → (0 < n) → IsPart front
  before read front rest enough some (inl (z, e, r)) most =
      let less = shorter read z rest r some in
      subst IsPart (sym e) (part_of_line z (omega (arith, less, enough)))
  before read front rest enough some (inr ([], e, r)) most = subst IsPart (append-nil digits ∙ e ∙ append-nil front) (part_of_line [] most)
  before read front rest enough some (inr (z ∷ zs, e, r)) most =
      let len = ap length e ∙ length-append front (z ∷ zs) in let four = h.four in short (omega (arith, len, four))

  pub within_line : (read : List ℕ) → (0 < n) → length read ≤ n → IsWithinLine (digits ++ read)
  within_line read most enough = λ front rest e some. before read front rest enough some (agreeing front digits rest read (sym e)) most

  line_of : (new : Option (List ℕ)) (read : List ℕ) → length read ≤ n → (length read < n → IsAtEnd new) → (length read < n) ⊎ (n ≤ length read) → IsLineOf new (digits ++ read)
  line_of new read enough end (inl less) = ended (part_of_line read less) (end less)
  line_of new read enough end (inr full) =
      let same : n ≡ length read = omega (arith, enough, full) in
      whole (text read) (digits, subst (λ i. IsLength digits (i + 4)) same h, subst (λ i. i ≤ 65516) same high, refl)

  pub line_read : (new : Option (List ℕ)) (read : List ℕ) → length read ≤ n → (length read < n → IsAtEnd new) → IsLineOf new (digits ++ read)
  line_read new read enough end = line_of new read enough end (less_or (length read) n)

-- no more is asked for
pub front_read : (new : Option (List ℕ)) (front : List ℕ) (n : ℕ) → IsRest front n → n ≡ 0 → (length front < 4 → IsAtEnd new) → IsLineOf new front
front_read new front n (fewer less is) zero end = ended (short less) (end less)
front_read new front n (none bad is) zero end = wrong bad
front_read new front n (all line is none_left) zero end = whole line is
front_read new front n (more h some high) zero end = absurd (omega (arith, some, zero))

-- more is asked for
pub asks : (front : List ℕ) (n : ℕ) → IsRest front n → (n ≡ 0 → ⊥) → IsLength front (n + 4) × (n ≤ 65516) × (0 < n)
asks front n (fewer less is) some = absurd (some is)
asks front n (none bad is) some = absurd (some is)
asks front n (all line is none_left) some = absurd (some none_left)
asks front n (more h low high) some = (h, high, low)

module _ (old mid new : Option (List ℕ)) (front read : List ℕ) (first : Consumes old mid front) (second : Consumes mid new read) (n : ℕ) (rest : IsRest front n) (some : n ≡ 0 → ⊥) (enough : length read ≤ n) where
  pub takes_rest : TakesWithinLine old new (front ++ read)
  takes_rest = let a = asks front n rest some in (Consumes-trans old mid new front read first second, within_line front n a.0 a.1 read a.2 enough)

  pub reads_rest : (length read < n → IsAtEnd new) → IsLineOf new (front ++ read)
  reads_rest end = let a = asks front n rest some in line_read front n a.0 a.1 new read enough end
