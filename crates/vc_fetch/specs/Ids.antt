-- Ids in lines of text.
use Rattle.std.specs.Prelude.{◌≡◌, ◌==◌, ℕ, Bool, true, List, [], ◌∷◌, ◌++◌, Option, Some, None, Result, Ok, Err, if◌then◌else◌}
use Rattle.hex.specs.Hex.{decode_sized}
use Rattle.hex.specs.declared.error.FromHexError.{FromHexError}
use Rattle.vc_object.specs.Items.{◌>>=◌}
use Rattle.vc_object.specs.Lines.{after_word, split}
use Rattle.vc_object.specs.declared.id.ObjectId.{ObjectId}
use Rattle.vc_pkt.specs.TextLine.{without_lf}

-- forty hex digits, of either case, that write the id
abbrev pub WritesId : ObjectId → List ℕ → Type 0
WritesId id digits = decode_sized digits 20 ≡ Ok id.0

-- the line's text is the word and the digits of the id
pub record IsIdLine (word : List ℕ) (id : ObjectId) (line : List ℕ) : Type 0 where
  pub digits : List ℕ
  pub writes : WritesId id digits
  pub spelled : without_lf line ≡ word ++ digits

-- nothing, or a space and more
abbrev pub IsTail : List ℕ → Type 0
IsTail [] = Unit {0}
IsTail (b ∷ bs) = b ≡ 32

-- the same, with a space and more after the id or without
pub record IsFirstIdLine (word : List ℕ) (id : ObjectId) (line : List ℕ) : Type 0 where
  pub digits : List ℕ
  pub tail : List ℕ
  pub writes : WritesId id digits
  pub passed : IsTail tail
  pub spelled : without_lf line ≡ word ++ (digits ++ tail)

-- ---- as they are read
abbrev pub id_from : Result (List ℕ) FromHexError → Option ObjectId
id_from (Ok bytes) = Some (record { 0 = bytes })
id_from (Err e) = None

unfoldable pub id_of : List ℕ → Option ObjectId
id_of digits = id_from (decode_sized digits 20)

unfoldable pub id_line : List ℕ → List ℕ → Option ObjectId
id_line word line = do
  digits ← after_word word (without_lf line)
  id_of digits

abbrev pub is_tail : List ℕ → Bool
is_tail [] = true
is_tail (b ∷ bs) = b == 32

unfoldable pub first_id_line : List ℕ → List ℕ → Option ObjectId
first_id_line word line = do
  text ← after_word word (without_lf line)
  parts ← split 40 text
  id ← id_of parts.0
  if is_tail parts.1 then Some id else None
