-- Written lines are read again.
use Rattle.std.proofs.Common.{◌≡◌, ℕ, zero, suc, ◌+◌, ◌*◌, ◌^◌, ◌<◌, List, [], ◌∷◌, length, Option, Some, None, Result, Ok, Err, refl, ap, sym, ◌∙◌, arith}
use Rattle.std.specs.Prelude.{codes}
use Rattle.std.specs.List.{AllByRecursion, flat_map}
use Rattle.std.specs.Int.{w16, from_be_bytes, to_be_bytes}
use Rattle.std.proofs.lemmas.List.{append-nil}
use Rattle.std.proofs.lemmas.Nat.{from_be_bytes-to_be_bytes_2}
use Rattle.hex.specs.Hex.{IsBytes, decode_pairs, encode_lower, lower_digits, hex_digit_value, digit_or_error, pair_value, ◌>>=◌}
use Rattle.hex.specs.declared.error.FromHexError.{FromHexError}
use Rattle.hex.proofs.HexLemmas.{decode_of-encode_lower, length-encode_with}
use Rattle.vc_pkt.specs.Line.{LineText, flush, text, IsLength, IsLine, IsLines, short, IsLineList, IsWritable, spelling}

high_low : (n : ℕ) → n < 2 ^ 16 → IsBytes (to_be_bytes w16 n)
high_low n h zero = omega arith
high_low n h (suc zero) = omega arith
high_low n h (suc (suc i)) = omega arith

-- the digits that are written for a number
pub digits_write : (n : ℕ) → n < 2 ^ 16 → IsLength (encode_lower (to_be_bytes w16 n)) n
digits_write n h = record {
  four = length-encode_with lower_digits (to_be_bytes w16 n);
  bytes = to_be_bytes w16 n;
  read = decode_of-encode_lower (to_be_bytes w16 n) (high_low n h);
  number = sym (from_be_bytes-to_be_bytes_2 n h);
}

-- a written line is the line
pub line_written : (line : LineText) → IsWritable line → IsLine line (spelling line)
unfolding decode_pairs
line_written flush w = record { four = refl; bytes = 0 ∷ 0 ∷ []; read = refl; number = refl }
line_written (text body) w = (encode_lower (to_be_bytes w16 (length body + 4)), digits_write (length body + 4) (omega arith), w.1, refl)

pub lines_written : (lines : List LineText) → AllByRecursion IsWritable lines → IsLines lines (flat_map spelling lines)
lines_written [] w = refl
lines_written (line ∷ lines) w = (spelling line, flat_map spelling lines, line_written line w.0, lines_written lines w.1, refl)

pub splits_written : (lines : List LineText) → AllByRecursion IsWritable lines → IsLineList (flat_map spelling lines) lines []
splits_written lines w = record { front = flat_map spelling lines; each = lines_written lines w; part = short (omega arith); whole = sym (append-nil (flat_map spelling lines)) }

-- the digits of 0
zero_digit : (c : ℕ) → hex_digit_value c ≡ Some 0 → c ≡ 48
zero_digit c h = grind arith

bind_ok : {A B : Type 0} (r : Result A FromHexError) (f : A → Result B FromHexError) (y : B) → (r >>= f) ≡ Ok y → (x : A) × (r ≡ Ok x) × (f x ≡ Ok y)
bind_ok (Ok x) f y h = (x, refl, h)
bind_ok (Err e) f y h = cc h

ok_same : {A : Type 0} (x y : A) → ◌≡◌ {A = Result A FromHexError} (Ok x) (Ok y) → x ≡ y
ok_same x y e = cc e

digit_parts : (c i v : ℕ) (o : Option ℕ) → digit_or_error c i o ≡ Ok v → o ≡ Some v
digit_parts c i v (Some w) e = ap Some (ok_same w v e)
digit_parts c i v None e = cc e

pair_zero : (a b i : ℕ) → pair_value a b i ≡ Ok 0 → (a ≡ 48) × (b ≡ 48)
pair_zero a b i e =
    let p = bind_ok (digit_or_error a i (hex_digit_value a)) _ 0 e in
    let q = bind_ok (digit_or_error b (i + 1) (hex_digit_value b)) _ 0 p.2 in
    let sum : p.0 * 16 + q.0 ≡ 0 = ok_same _ 0 q.2 in
    let h0 : p.0 ≡ 0 = omega arith in
    let l0 : q.0 ≡ 0 = omega arith in
    (zero_digit a (digit_parts a i p.0 _ p.1 ∙ ap Some h0), zero_digit b (digit_parts b (i + 1) q.0 _ q.1 ∙ ap Some l0))

pub zeros : (digits : List ℕ) → IsLength digits 0 → digits ≡ codes "0000"
unfolding decode_pairs
zeros [] h = let four : 0 ≡ 4 = h.four in absurd (omega arith)
zeros (a ∷ []) h = absurd (omega (arith, h.four))
zeros (a ∷ b ∷ []) h = absurd (omega (arith, h.four))
zeros (a ∷ b ∷ c ∷ []) h = absurd (omega (arith, h.four))
zeros (a ∷ b ∷ c ∷ d ∷ []) h =
    let read : decode_pairs 0 (a ∷ b ∷ c ∷ d ∷ []) ≡ Ok h.bytes = h.read in
    let p = bind_ok (pair_value a b 0) _ h.bytes read in
    let q = bind_ok (decode_pairs (0 + 2) (c ∷ d ∷ [])) _ h.bytes p.2 in
    let r = bind_ok (pair_value c d (0 + 2)) _ q.0 q.1 in
    let s : r.0 ∷ [] ≡ q.0 = ok_same _ q.0 r.2 in
    let t : p.0 ∷ q.0 ≡ h.bytes = ok_same _ h.bytes q.2 in
    let all : p.0 ∷ r.0 ∷ [] ≡ h.bytes = ap (λ k. p.0 ∷ k) s ∙ t in
    let sum : 0 ≡ from_be_bytes w16 (p.0 ∷ r.0 ∷ []) = h.number ∙ ap (from_be_bytes w16) (sym all) in
    let p0 : p.0 ≡ 0 = omega arith in
    let r0 : r.0 ≡ 0 = omega arith in
    let ab = pair_zero a b 0 (p.1 ∙ ap Ok p0) in
    let cd = pair_zero c d (0 + 2) (r.1 ∙ ap Ok r0) in
    let ab0 = ab.0 in let ab1 = ab.1 in let cd0 = cd.0 in let cd1 = cd.1 in
    cc
zeros (a ∷ b ∷ c ∷ d ∷ e ∷ more) h = absurd (omega (arith, h.four))
