-- The text of the file `packed-refs`: refs, a line for each.
use Rattle.std.specs.Prelude.{◌≡◌, ◌==◌, ◌&&◌, ◌++◌, ℕ, Bool, true, false, not, nat_eq, List, [], ◌∷◌, codes, length, map, Option, Some, None, is_none, is_some, option_map, option_and_then, if◌then◌else◌}
use Rattle.std.specs.Cmp.Lexicographic.{slice_cmp}
use Rattle.std.specs.Coded.{Coded, coded_ℕ, coded_list}
use Rattle.std.specs.FinMap.{FinMap, code, entries, find, from_entries}
use Rattle.std.specs.List.{flat_map, list_all, list_any, slice_split, starts_with}
use Rattle.std.specs.Ordering.{nat_cmp}
use Rattle.std.specs.Result.{result_ok}
use Rattle.std.specs.Str.{is_utf8}
use Rattle.hex.specs.Hex.{decode_sized, encode_lower}
use Rattle.vc_object.specs.Items.{◌>>=◌}
use Rattle.vc_object.specs.Lines.{after_word, split}
use Rattle.vc_object.specs.ObjectId.{is_id}
use Rattle.vc_object.specs.declared.id.ObjectId.{ObjectId}
use Rattle.vc_object.specs.contracts.id.ObjectId as id
use Rattle.vc_refs.specs.RefFile.{id_of, without_lf}
use Rattle.vc_refs.specs.RefMap.{conflicts, is_ref}
use denote.Ref.{Bor}

-- from the bytes of a name to the id that it stands for
abbrev pub PackedMap : Type 0
PackedMap = FinMap (slice_cmp nat_cmp) ObjectId

abbrev pub packed_code : Coded PackedMap
packed_code = code (coded_list coded_ℕ) (id.the_row).coded

-- a name and its id
abbrev pub PackedRef : Type 0
PackedRef = List ℕ × ObjectId

-- ---- lines

-- what stands between line feeds (10)
abbrev pub parts : List ℕ → List (List ℕ)
parts text = slice_split (λ byte. byte == 10) text

-- Each line ends in a line feed; own: the last one may lack it.
abbrev pub lines : List ℕ → List (List ℕ)
lines text = if length text == 0 then [] else parts (without_lf text)

-- what texts say that are lent
abbrev pub texts : List (Bor (List ℕ)) → List (List ℕ)
texts lent = map (λ text. text.now) lent

-- the id that forty hex digits spell, of either case, as in a ref's own file
abbrev pub hex_id : List ℕ → Option ObjectId
hex_id digits = option_map id_of (result_ok (decode_sized digits 20))

-- a line that is passed over; own: wherever it stands
abbrev pub is_comment : List ℕ → Bool
is_comment line = starts_with nat_eq line (codes "#")

-- `^<id>`: what the tag of the line before leads to
abbrev pub is_peeled : List ℕ → Bool
is_peeled line = is_some (option_and_then hex_id (after_word (codes "^") line))

-- own: each name is legal and in `refs/`
abbrev pub is_packed_name : List ℕ → Bool
is_packed_name name = is_utf8 name && is_ref name

abbrev pub packed_name : List ℕ → Option (List ℕ)
packed_name text = if is_packed_name text then Some text else None

-- `<id> <name>`: the line of a ref
unfoldable pub ref_in : List ℕ → Option PackedRef
ref_in line = do
  parts ← split 40 line
  id ← hex_id parts.0
  rest ← after_word (codes " ") parts.1
  name ← packed_name rest
  Some (name, id)

-- ---- texts

abbrev pub with_ref_first : Option PackedRef → Option (List PackedRef) → Option (List PackedRef)
with_ref_first (Some ref) (Some refs) = Some (ref ∷ refs)
with_ref_first _ _ = None

-- the refs of the lines, in the order of the lines; whether they come directly after the line of a ref says whether
-- the first may be `^<id>`
abbrev pub refs_in : Bool → List (List ℕ) → Option (List PackedRef)
refs_in behind [] = Some []
refs_in behind (line ∷ others) =
    if is_comment line then refs_in false others
    else if is_peeled line then (if behind then refs_in false others else None)
    else with_ref_first (ref_in line) (refs_in true others)

-- own: no name stands twice
abbrev pub names_once : List PackedRef → Bool
names_once [] = true
names_once (ref ∷ refs) = is_none (find (slice_cmp nat_cmp) ref.0 refs) && names_once refs

abbrev pub map_of : List PackedRef → Option PackedMap
map_of refs = if names_once refs then Some (from_entries refs) else None

-- no name is a folder of another
abbrev pub names_apart : List PackedRef → Bool
names_apart [] = true
names_apart (ref ∷ refs) = not (list_any (λ (other : PackedRef). conflicts ref.0 other.0) refs) && names_apart refs

-- own: no map has `a` beside `a/b`
abbrev pub apart_map : PackedMap → Option PackedMap
apart_map refs = if names_apart (entries refs) then Some refs else None

-- the refs that the text stands for
unfoldable pub packed_refs : List ℕ → Option PackedMap
packed_refs text = option_and_then apart_map (option_and_then map_of (refs_in false (lines text)))

-- the text stands for no refs: one of its lines is of no kind or in no place, a name stands twice, or one is a folder of another
abbrev pub IsBadPacked : List ℕ → Type 0
IsBadPacked text = packed_refs text ≡ None

-- ---- what is written

-- the line of a ref, without its end
abbrev pub ref_text : PackedRef → List ℕ
ref_text ref = encode_lower ref.1.0 ++ (32 ∷ ref.0)

abbrev pub ref_line : PackedRef → List ℕ
ref_line ref = ref_text ref ++ 10 ∷ []

-- the lines of the refs alone, in the order of the names' bytes
abbrev pub packed_text : PackedMap → List ℕ
packed_text refs = flat_map ref_line (entries refs)

abbrev pub may_be_packed : PackedRef → Bool
may_be_packed ref = is_packed_name ref.0 && is_id ref.1

-- each name is legal and in `refs/`, and each id is one
abbrev pub IsPackedMap : PackedMap → Type 0
IsPackedMap refs = list_all may_be_packed (entries refs) ≡ true
