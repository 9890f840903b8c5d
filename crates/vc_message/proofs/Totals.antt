-- Any bytes give a message or have a first fault.
use Rattle.std.proofs.Common.{◌≡◌, ℕ, ◌+◌, ◌-◌, ◌<◌, ◌≤◌, Bool, true, false, List, [], ◌∷◌, ◌++◌, length, take, drop, Result, Ok, Err, refl, ap, sym, ◌∙◌, subst, arith, length-append, ◌⊎◌, inl, inr, ⊎_elim, zero, suc}
use Rattle.std.specs.Prelude.{nat_lt}
use Rattle.std.specs.Int.{w16, from_be_bytes}
use Rattle.std.proofs.lemmas.Bool.Decides.{nat_tests}
use Rattle.std.proofs.lemmas.List.{length-take-le, take-append-drop}
use Rattle.hex.specs.Hex.{decode_of}
use Rattle.hex.specs.declared.error.FromHexError.{FromHexError}
use Rattle.vc_pkt.specs.Line.{LineText, flush, text, IsLength, IsLine, IsPart, short, IsBad}
use Rattle.vc_pkt.specs.Message.{Stepped, onward, complete, Steps, IsOwnFault, IsSpelledBy, GivenBy, FirstFault}
use Rattle.vc_pkt.specs.declared.fault.PktFault.{PktFault}
use Rattle.vc_pkt.specs.declared.fault.PktFault.TheVariants.{BadLength, BadRecord, CutMessage}
use Rattle.vc_pkt.specs.declared.fault.PktError.TheVariants.{Refused}
use Rattle.vc_pkt.proofs.LineLaws.{IsLength-same, no_digits, text_here, part_here}
use Rattle.vc_pkt.proofs.MessageLaws.{SoFar, at_start, on_no_line, on_more, on_done, on_behind, on_error, line_length}

-- a line stands at the front of the bytes
abbrev AtFront : List ℕ → Type 0
AtFront bytes = (line : LineText) × (spelled more : List ℕ) × IsLine line spelled × (bytes ≡ spelled ++ more)

pub less_or : (m n : ℕ) → (m < n) ⊎ (n ≤ m)
less_or m n = by (nat_lt m n) refl
  where
    by : (b : Bool) → nat_lt m n ≡ b → (m < n) ⊎ (n ≤ m)
    by true e = inl (grind (arith, nat_tests))
    by false e = inr (let h : (m < n → ⊥) = λ l. grind (arith, nat_tests) in omega arith)

abbrev Front : List ℕ → Type 0
Front bytes = AtFront bytes ⊎ (IsPart bytes ⊎ IsBad bytes)

module _ (bytes : List ℕ) (four : 4 ≤ length bytes) where
  module _ (n : ℕ) (h : IsLength (take 4 bytes) n) where
    bad_number : ((0 < n) × (n < 4)) ⊎ (65520 < n) → IsBad bytes
    bad_number out = record { four = four; bad = λ m k. subst (λ i. ((0 < i) × (i < 4)) ⊎ (65520 < i)) (IsLength-same (take 4 bytes) n m h k) out }

    flush_here : n ≡ 0 → AtFront bytes
    flush_here e = (flush, take 4 bytes, drop 4 bytes, subst (λ i. IsLength (take 4 bytes) i) e h, sym (take-append-drop 4 bytes))

    body_here : 4 ≤ n → n - 4 ≤ 65516 → n - 4 ≤ length (drop 4 bytes) → AtFront bytes
    body_here low high enough =
        let body : List ℕ = take (n - 4) (drop 4 bytes) in
        let more : List ℕ = drop (n - 4) (drop 4 bytes) in
        let len : length body ≡ n - 4 = length-take-le (n - 4) (drop 4 bytes) enough in
        let t = text_here bytes (take 4 bytes) (drop 4 bytes) body more n refl refl h low high refl refl len in
        (text body, t.0, more, t.1, t.2)

    data_here : 4 ≤ n → n - 4 ≤ 65516 → (length (drop 4 bytes) < n - 4) ⊎ (n - 4 ≤ length (drop 4 bytes)) → Front bytes
    data_here low high (inl less) = inr (inl (part_here bytes (take 4 bytes) (drop 4 bytes) n refl refl h low high less))
    data_here low high (inr enough) = inl (body_here low high enough)

    -- by the number: a flush, no line's length, data, or no line's length again
    by_number : (n < 1) ⊎ (1 ≤ n) → (n < 4) ⊎ (4 ≤ n) → (n < 65521) ⊎ (65521 ≤ n) → Front bytes
    by_number (inl none) low high = inl (flush_here (omega (arith, none)))
    by_number (inr some) (inl low) high = inr (inr (bad_number (inl (omega (arith, some), low))))
    by_number (inr some) (inr low) (inl high) = data_here low (omega (arith, low, high)) (less_or (length (drop 4 bytes)) (n - 4))
    by_number (inr some) (inr low) (inr high) = inr (inr (bad_number (inr (omega (arith, high)))))

    number_front : Front bytes
    number_front = by_number (less_or n 1) (less_or n 4) (less_or n 65521)

  four_front : Front bytes
  four_front = by (decode_of (take 4 bytes)) refl
    where
      by : (r : Result (List ℕ) FromHexError) → decode_of (take 4 bytes) ≡ r → Front bytes
      by (Ok found) is = number_front (from_be_bytes w16 found) (record { four = length-take-le 4 bytes four; bytes = found; read = is; number = refl })
      by (Err e) is = inr (inr (no_digits bytes (take 4 bytes) four refl (λ n h. let both = sym is ∙ h.read in cc both)))

front : (bytes : List ℕ) → Front bytes
front bytes = ⊎_elim (λ less. inr (inl (short less))) (λ four. four_front bytes four) (less_or (length bytes) 4)

module _ {S M : Type 0} (step : Steps S M) (start : S) (line_faults : (number : ℕ) (state : S) (line : LineText) → IsOwnFault (step number state line)) where
  abbrev Answer : List ℕ → Type 0
  Answer bytes = ((message : M) × IsSpelledBy (GivenBy step start) message bytes) ⊎ ((fault : PktFault) × FirstFault step start bytes fault)

  ended : (bytes rest : List ℕ) (number : ℕ) (s : S) (so : SoFar step start bytes rest number s) (line : LineText) (spelled after : List ℕ) → IsLine line spelled → rest ≡ spelled ++ after → (m : M) → step number s line ≡ Ok (complete m) → Answer bytes
  ended bytes rest number s so line spelled [] h e m is = inl (m, on_done step start bytes rest number s so line spelled [] h e m is refl)
  ended bytes rest number s so line spelled (b ∷ after) h e m is = inr (BadRecord (number + 1), on_behind step start bytes rest number s so line spelled (b ∷ after) h e m is (λ z. cc z))

  -- the answer at a place where lines so far lead to a state, where what follows a line has one
  module _ (bytes rest : List ℕ) (number : ℕ) (s : S) (so : SoFar step start bytes rest number s) (next : (more : List ℕ) (t : S) → length more < length rest → SoFar step start bytes more (number + 1) t → Answer bytes) where
    by_line : (line : LineText) (spelled more : List ℕ) → IsLine line spelled → rest ≡ spelled ++ more → (r : Result (Stepped S M) PktFault) → step number s line ≡ r → Answer bytes
    by_line line spelled more h e (Err fault) is = inr (fault, on_error step start bytes rest number s so line spelled more h e line_faults {X = Stepped S M} (λ x. x) (Refused fault) is)
    by_line line spelled more h e (Ok (onward t)) is =
        let four = line_length line spelled h in let len = ap length e ∙ length-append spelled more in
        next more t (omega arith) (on_more step start bytes rest number s so line spelled more h e t is)
    by_line line spelled more h e (Ok (complete m)) is = ended bytes rest number s so line spelled more h e m is

    by_front : Front rest → Answer bytes
    by_front (inl (line, spelled, more, h, e)) = by_line line spelled more h e (step number s line) refl
    by_front (inr (inl part)) = inr (CutMessage, on_no_line step start bytes rest number s so CutMessage part)
    by_front (inr (inr bad)) = inr (BadLength (length bytes - length rest), on_no_line step start bytes rest number s so (BadLength (length bytes - length rest)) (refl, bad))

  answers : (fuel : ℕ) (bytes rest : List ℕ) (number : ℕ) (s : S) → length rest < fuel → SoFar step start bytes rest number s → Answer bytes
  answers zero bytes rest number s less so = absurd (omega arith)
  answers (suc fuel) bytes rest number s less so =
      by_front bytes rest number s so (λ more t shorter after. answers fuel bytes more (number + 1) t (omega (arith, less, shorter)) after) (front rest)

  -- a message, or a first fault
  pub read_or_unread : (bytes : List ℕ) → Answer bytes
  read_or_unread bytes = answers (suc (length bytes)) bytes bytes 0 start (omega arith) (at_start step start bytes)
