-- What a reader's buffer holds, as its pieces come and its lines go.
use Rattle.std.proofs.Common.{◌≡◌, ℕ, ◌+◌, ◌-◌, ◌^◌, min, ◌<◌, ◌≤◌, List, ◌++◌, length, drop, refl, ap, sym, ◌∙◌, subst, arith, length-append, length-drop}
use Rattle.std.proofs.lemmas.List.{drop_at, drop-append-le, drop-drop}
use Rattle.vc_pkt.specs.Line.{LineText, IsPart, IsLineList, IsBadAt}
use Rattle.vc_pkt.specs.Faults.{LineFault}
use Rattle.vc_pkt.specs.Held.{further}
use Rattle.vc_pkt.specs.declared.fault.PktFault.{PktFault}
use Rattle.vc_pkt.specs.declared.fault.PktFault.TheVariants.{BadLength, BadRecord, SizeMismatch, CutMessage, TooMany, TooLarge}
use Rattle.vc_pkt.proofs.ListLaws.{splits_behind, bad_behind, splits_front}

-- a fault that isn't 80 says that less than a line is there
pub part_of : (bytes : List ℕ) (e : PktFault) → LineFault bytes e → ((n : ℕ) → e ≡ BadLength n → ⊥) → IsPart bytes
part_of bytes (BadLength n) f other = absurd (other n refl)
part_of bytes CutMessage f other = f
part_of bytes (BadRecord n) f other = absurd f
part_of bytes SizeMismatch f other = absurd f
part_of bytes TooMany f other = absurd f
part_of bytes TooLarge f other = absurd f

module _ (items piece now : List ℕ) (start scanned : ℕ) (ls : List LineText) (rest : List ℕ) (s : IsLineList (drop start items) ls rest)
    (within : start ≤ length items) (end : scanned + length rest ≡ length items) (is : now ≡ items ++ piece) where
  pub front_length : start + length s.front ≡ scanned
  front_length =
      let len : length items - start ≡ length s.front + length rest = sym (length-drop start items) ∙ ap length s.whole ∙ length-append s.front rest in
      omega arith

  -- the rest stands at the place up to which lines were found
  pub rest_at : drop scanned items ≡ rest
  rest_at =
      ap (λ n. drop n items) (sym front_length) ∙ sym (drop-drop (length s.front) start items) ∙ ap (drop (length s.front)) s.whole
      ∙ drop_at s.front rest (length s.front) refl

  pub rest_now : drop scanned now ≡ rest ++ piece
  rest_now = ap (drop scanned) is ∙ drop-append-le scanned items piece (omega arith) ∙ ap (λ t. t ++ piece) rest_at

  pub all_now : drop start now ≡ drop start items ++ piece
  all_now = ap (drop start) is ∙ drop-append-le start items piece within

  pub fed : (ms : List LineText) (r : List ℕ) → IsLineList (drop scanned now) ms r → IsLineList (drop start now) (ls ++ ms) r
  fed ms r more =
      let P : List ℕ → Type 0 = λ t. IsLineList t (ls ++ ms) r in
      let Q : List ℕ → Type 0 = λ t. IsLineList t ms r in
      subst P (sym all_now) (splits_behind (drop start items) s.front rest piece ls ms r s.each s.whole (subst Q rest_now more))

  pub fed_bad : (n : ℕ) → IsBadAt (drop scanned now) n → IsBadAt (drop start items ++ piece) (scanned - start + n)
  fed_bad n bad =
      let P : List ℕ → Type 0 = λ t. IsBadAt t n in
      let len = front_length in
      let same : length s.front + n ≡ scanned - start + n = omega arith in
      subst (λ k. IsBadAt (drop start items ++ piece) k) same (bad_behind (drop start items) s.front rest piece ls n s.each s.whole (subst P rest_now bad))

-- where lines and less than a line are held, a fault says that no line waits
pub part_held : (bytes : List ℕ) (ls : List LineText) (r : List ℕ) (e : PktFault) → IsLineList bytes ls r → LineFault bytes e → IsPart bytes
part_held bytes ls r (BadLength n) s f = absurd (splits_front bytes ls r s f.1)
part_held bytes ls r CutMessage s f = f
part_held bytes ls r (BadRecord n) s f = absurd f
part_held bytes ls r SizeMismatch s f = absurd f
part_held bytes ls r TooMany s f = absurd f
part_held bytes ls r TooLarge s f = absurd f

-- the start behind a line that is taken
module _ (items held spelled more : List ℕ) (start : ℕ) (within : start ≤ length items) (is : held ≡ drop start items) (e : held ≡ spelled ++ more) where
  pub taken_length : length held - length more ≡ length spelled
  taken_length = let len = ap length e ∙ length-append spelled more in omega arith

  pub taken_rest : drop (start + (length held - length more)) items ≡ more
  taken_rest =
      ap (λ n. drop (start + n) items) taken_length ∙ sym (drop-drop (length spelled) start items) ∙ ap (drop (length spelled)) (sym is ∙ e)
      ∙ drop_at spelled more (length spelled) refl

  pub taken_within : start + (length held - length more) ≤ length items
  taken_within = let len = ap length is ∙ length-drop start items in let all = ap length e ∙ length-append spelled more in omega arith

-- what the program adds
pub saturated : (place n sum : ℕ) → place < 2 ^ 64 → sum ≡ min (place + n) 18446744073709551615 → sum ≡ further place n
saturated place n sum small e = omega arith
