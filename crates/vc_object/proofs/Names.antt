-- A name of an object is twenty bytes.
use Rattle.std.proofs.Common.{◌≡◌, ℕ, zero, suc, ◌<◌, ◌+◌, List, [], ◌∷◌, ◌++◌, length, length-append, get_or, refl, ap, arith}
use Rattle.std.specs.List.{AllByRecursion}
use Rattle.std.proofs.Math.Nat.{mod-lt}
use Rattle.std.specs.Prelude.{◌/◌, ◌^◌, slice_index}
use Rattle.std.specs.Int.{to_be_bytes, bytes_high_first, byte_at, w32}
use Rattle.sha1.specs.Sha1.{sha1, digest_bytes}

-- each number is a byte
abbrev pub AreBytes : List ℕ → Type 0
AreBytes xs = AllByRecursion (λ b. b < 256) xs

bytes_append : (xs ys : List ℕ) → AreBytes xs → AreBytes ys → AreBytes (xs ++ ys)
bytes_append [] ys a b = b
bytes_append (x ∷ xs) ys a b = (a.0, bytes_append xs ys a.1 b)

byte_below : (k n : ℕ) → byte_at k n < 256
byte_below zero n = mod-lt n (omega arith)
byte_below (suc k) n = mod-lt (n / 256 ^ suc k) (omega arith)

high_bytes : (k n : ℕ) → AreBytes (bytes_high_first k n)
high_bytes zero n = tt
high_bytes (suc k) n = (byte_below k n, high_bytes k n)

high_length : (k n : ℕ) → length (bytes_high_first k n) ≡ k
high_length zero n = refl
high_length (suc k) n = ap suc (high_length k n)

digest_are_bytes : (h : List ℕ) (n : ℕ) → AreBytes (digest_bytes h n)
unfolding digest_bytes
digest_are_bytes h zero = tt
digest_are_bytes h (suc n) = bytes_append (digest_bytes h n) (to_be_bytes w32 (slice_index h n)) (digest_are_bytes h n) (high_bytes 4 (slice_index h n))

digest_length : (h : List ℕ) (n : ℕ) → length (digest_bytes h n) ≡ n + n + n + n
unfolding digest_bytes
digest_length h zero = refl
digest_length h (suc n) =
    let before : length (digest_bytes h n) ≡ n + n + n + n = digest_length h n in
    let last : length (to_be_bytes w32 (slice_index h n)) ≡ 4 = high_length 4 (slice_index h n) in
    omega (arith, length-append (digest_bytes h n) (to_be_bytes w32 (slice_index h n)))

pub name_bytes : (m : List ℕ) → AreBytes (sha1 m)
unfolding sha1
name_bytes m = digest_are_bytes _ 5

pub name_length : (m : List ℕ) → length (sha1 m) ≡ 20
unfolding sha1
name_length m = digest_length _ 5

-- no number of such a list, nor the 0 past its end, is more than a byte
pub byte_of : (xs : List ℕ) → AreBytes xs → (i : ℕ) → get_or xs i 0 < 256
byte_of [] a i = omega arith
byte_of (x ∷ xs) a zero = a.0
byte_of (x ∷ xs) a (suc i) = byte_of xs a.1 i
