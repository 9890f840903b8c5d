-- Lines of commits and tags: a word, a text without LF, and LF.
use Rattle.std.specs.Prelude.{◌≡◌, ◌<◌, ℕ, List, [], ◌∷◌, ◌++◌, length, take, drop, Option, Some, None, Result, Ok, Err, nat_lt, if◌then◌else◌, slice_index}
use Rattle.std.specs.Str.{bytes_eq}
use Rattle.hex.specs.Hex.{encode_lower, decode_sized}
use Rattle.hex.specs.declared.error.FromHexError.{FromHexError}
use Rattle.vc_object.specs.Bytes.{cut}
use Rattle.vc_object.specs.Items.{◌>>=◌}
use Rattle.vc_object.specs.declared.id.ObjectId.{ObjectId}

-- twenty bytes
pub record IsId (id : ObjectId) : Type 0 where
  pub sized : length id.0 ≡ 20
  pub bytes : (i : ℕ) → slice_index id.0 i < 256

-- a line of this word and text; the word ends in a space
abbrev pub line : List ℕ → List ℕ → List ℕ
line word text = word ++ text ++ 10 ∷ []

-- a line with the digits of an id, in lower case
abbrev pub id_line : List ℕ → ObjectId → List ℕ
id_line word id = line word (encode_lower id.0)

-- what follows the word
abbrev pub after_word : List ℕ → List ℕ → Option (List ℕ)
after_word word bytes = if bytes_eq (take (length word) bytes) word then Some (drop (length word) bytes) else None

-- the id of the bytes, if it writes the same digits
abbrev pub lower_of : List ℕ → Result (List ℕ) FromHexError → Option ObjectId
lower_of digits (Ok bytes) = if bytes_eq (encode_lower bytes) digits then Some (record { 0 = bytes }) else None
lower_of digits (Err e) = None

-- the id that forty lower-case digits write
unfoldable pub lower_id : List ℕ → Option ObjectId
lower_id digits = lower_of digits (decode_sized digits 20)

-- the first n bytes, and the others
abbrev pub split : ℕ → List ℕ → Option (List ℕ × List ℕ)
split n bytes = if nat_lt (length bytes) n then None else Some (take n bytes, drop n bytes)

-- the line at the front with this word: its id, and the bytes after it
unfoldable pub id_line_at : List ℕ → List ℕ → Option (ObjectId × List ℕ)
id_line_at word bytes = do
  digits ← after_word word bytes
  parts ← split 40 digits
  id ← lower_id parts.0
  rest ← after_word (10 ∷ []) parts.1
  Some (id, rest)

-- the same of a text
unfoldable pub line_at : List ℕ → List ℕ → Option (List ℕ × List ℕ)
line_at word bytes = do
  text ← after_word word bytes
  cut 10 text
