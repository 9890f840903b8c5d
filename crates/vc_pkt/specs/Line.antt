-- Lines (pkt-lines of gitprotocol-common), and the bytes that are a list of them.
use Rattle.std.specs.Prelude.{◌≡◌, ◌≢◌, ◌≤◌, ◌<◌, ◌+◌, ◌⊎◌, ℕ, List, [], ◌∷◌, ◌++◌, length, take, Ok, codes}
use Rattle.std.specs.Int.{w16, from_be_bytes, to_be_bytes}
use Rattle.hex.specs.Hex.{decode_of, encode_lower}

-- the most bytes of data in a line, and of a line with its length
abbrev pub max_data : ℕ
max_data = 65516

abbrev pub max_line : ℕ
max_line = 65520

-- a line, apart from where it lies in memory: a flush, or data
pub data LineText : Type 0 where
  flush : LineText
  text : List ℕ → LineText

-- four hex digits, of either case, that write the number
pub record IsLength (digits : List ℕ) (n : ℕ) : Type 0 where
  pub four : length digits ≡ 4
  pub bytes : List ℕ
  pub read : decode_of digits ≡ Ok bytes
  pub number : n ≡ from_be_bytes w16 bytes

-- the bytes are the line: a flush is the length 0, and data stand behind the length of the whole
abbrev pub IsLine : LineText → List ℕ → Type 0
IsLine flush bytes = IsLength bytes 0
IsLine (text body) bytes = (digits : List ℕ) × IsLength digits (length body + 4) × (length body ≤ max_data) × (bytes ≡ digits ++ body)

-- the bytes are these lines, one behind another
abbrev pub IsLines : List LineText → List ℕ → Type 0
IsLines [] bytes = bytes ≡ []
IsLines (line ∷ lines) bytes = (first : List ℕ) × (more : List ℕ) × IsLine line first × IsLines lines more × (bytes ≡ first ++ more)

-- less than a line: fewer than four bytes, or a proper beginning of a line
pub data IsPart (bytes : List ℕ) : Type 0 where
  short : length bytes < 4 → IsPart bytes
  begun : (line : LineText) (more : List ℕ) → more ≢ [] → IsLine line (bytes ++ more) → IsPart bytes

-- four bytes that no line begins with: they aren't hex digits, or write 1, 2, 3 or more than a line has
pub record IsBad (bytes : List ℕ) : Type 0 where
  pub four : 4 ≤ length bytes
  pub bad : (n : ℕ) → IsLength (take 4 bytes) n → ((0 < n) × (n < 4)) ⊎ (max_line < n)

-- the bytes are these lines, and a rest that is less than a line
pub record IsLineList (bytes : List ℕ) (lines : List LineText) (rest : List ℕ) : Type 0 where
  pub front : List ℕ
  pub each : IsLines lines front
  pub part : IsPart rest
  pub whole : bytes ≡ front ++ rest

-- lines stand before the place, and at it four bytes that no line begins with
pub record IsBadAt (bytes : List ℕ) (place : ℕ) : Type 0 where
  pub lines : List LineText
  pub front : List ℕ
  pub more : List ℕ
  pub each : IsLines lines front
  pub bad : IsBad more
  pub whole : bytes ≡ front ++ more
  pub here : place ≡ length front

-- how a line is written
abbrev pub spelling : LineText → List ℕ
spelling flush = codes "0000"
spelling (text body) = encode_lower (to_be_bytes w16 (length body + 4)) ++ body

-- what may be written: a flush, or data that aren't empty and fit
abbrev pub IsWritable : LineText → Type 0
IsWritable flush = Unit {0}
IsWritable (text body) = (0 < length body) × (length body ≤ max_data)
