-- The text of a ref's file: an id and LF.
use Rattle.std.specs.Prelude.{ℕ, ◌-◌, nat_eq, List, [], ◌∷◌, ◌++◌, take, length, Option, if◌then◌else◌, option_map}
use Rattle.std.specs.List.{ends_with}
use Rattle.std.specs.Result.{result_ok}
use Rattle.hex.specs.Hex.{encode_lower, decode_sized}
use Rattle.vc_object.specs.declared.id.ObjectId.{ObjectId}

-- the text without the LF that it may end with
abbrev pub without_lf : List ℕ → List ℕ
without_lf text = if ends_with nat_eq text (10 ∷ []) then take (length text - 1) text else text

abbrev pub id_of : List ℕ → ObjectId
id_of bytes = record { 0 = bytes }

-- the id that a text spells: forty hex digits of either case, and an LF that may be missing
abbrev pub id_in : List ℕ → Option ObjectId
id_in text = option_map id_of (result_ok (decode_sized (without_lf text) 20))

-- what is written for an id: its forty digits in lower case, and LF
abbrev pub id_text : ObjectId → List ℕ
id_text id = encode_lower id.0 ++ 10 ∷ []
