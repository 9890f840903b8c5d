-- The message Advert: HEAD, and the refs of a node, each with its id.
use Rattle.std.specs.Prelude.{◌≡◌, ◌≢◌, ◌≤◌, ◌==◌, ◌||◌, ℕ, Bool, true, false, not, nat_eq, List, [], ◌∷◌, ◌++◌, length, codes, replicate, Option, Some, None, Result, Ok, Err, if◌then◌else◌}
use Rattle.std.specs.FinMap.{FinMap, empty, get, contains_key, insert, retain_keys, from_entries, entries}
use Rattle.std.specs.List.{AllByRecursion, IsDistinct, ends_with, list_any}
use Rattle.std.specs.Map.{keys_of}
use Rattle.std.specs.Ordering.{nat_cmp}
use Rattle.std.specs.Cmp.Lexicographic.{slice_cmp}
use Rattle.std.specs.Str.{bytes_eq}
use Rattle.hex.specs.Hex.{encode_lower}
use Rattle.vc_object.specs.Items.{◌>>=◌}
use Rattle.vc_object.specs.Lines.{IsId, after_word, split}
use Rattle.vc_object.specs.declared.id.ObjectId.{ObjectId}
use Rattle.vc_pkt.specs.Line.{LineText, flush, text}
use Rattle.vc_pkt.specs.TextLine.{without_lf}
use Rattle.vc_pkt.specs.Message.{Stepped, onward, complete, Steps, IsOwnFault}
use Rattle.vc_pkt.specs.StreamFaults.{either_own}
use Rattle.vc_pkt.specs.declared.fault.PktFault.{PktFault}
use Rattle.vc_pkt.specs.declared.fault.PktFault.TheVariants.{BadRecord}
use Rattle.vc_fetch.specs.Ids.{WritesId, id_of}

-- ids by name, in order of the names' bytes
abbrev pub RefIds : Type 0
RefIds = FinMap (slice_cmp nat_cmp) ObjectId

-- HEAD's value, where it has one, and the refs
pub record AdvertText : Type 0 where
  pub head : Option ObjectId
  pub refs : RefIds

-- a name and its id
abbrev pub Ref : Type 0
Ref = List ℕ × ObjectId

-- nothing is advertised
abbrev pub no_refs : AdvertText
no_refs = record { head = None; refs = empty }

-- one ref is set
abbrev pub with_ref : AdvertText → List ℕ → ObjectId → AdvertText
with_ref advert name id = record advert { refs = insert advert.refs name id }

-- NUL, LF and space part what a line says
abbrev pub is_break : ℕ → Bool
is_break byte = byte == 0 || (byte == 10 || byte == 32)

-- not empty, and without a NUL, an LF or a space
pub record IsName (name : List ℕ) : Type 0 where
  pub some : name ≢ []
  pub plain : list_any is_break name ≡ false

-- the line's text is the digits of the id, a space and the name
pub record IsRefLine (ref : Ref) (line : List ℕ) : Type 0 where
  pub digits : List ℕ
  pub writes : WritesId ref.1 digits
  pub name : IsName ref.0
  pub spelled : without_lf line ≡ digits ++ 32 ∷ ref.0

-- nothing, or a NUL and any capabilities
abbrev pub IsCapabilities : List ℕ → Type 0
IsCapabilities [] = Unit {0}
IsCapabilities (b ∷ bs) = b ≡ 0

-- the same, with capabilities after the name or without
pub record IsFirstRefLine (ref : Ref) (line : List ℕ) : Type 0 where
  pub digits : List ℕ
  pub tail : List ℕ
  pub writes : WritesId ref.1 digits
  pub name : IsName ref.0
  pub passed : IsCapabilities tail
  pub spelled : without_lf line ≡ digits ++ 32 ∷ (ref.0 ++ tail)

-- a line for each ref
abbrev pub AreRefLines : List Ref → List LineText → Type 0
AreRefLines [] lines = lines ≡ []
AreRefLines (ref ∷ refs) [] = ⊥
AreRefLines (ref ∷ refs) (flush ∷ lines) = ⊥
AreRefLines (ref ∷ refs) (text line ∷ lines) = IsRefLine ref line × AreRefLines refs lines

-- a name in the lines is a ref's unless it is `HEAD`, or ends in `^{}`
abbrev pub is_ref : List ℕ → Bool
is_ref name = if bytes_eq name (codes "HEAD") then false else not (ends_with nat_eq name (codes "^{}"))

-- what is advertised by lines with these names
abbrev pub advert_of : RefIds → AdvertText
advert_of listed = record { head = get listed (codes "HEAD"); refs = retain_keys listed is_ref }

-- one line or more, in any order; the first may have capabilities, and no name stands twice
pub record SpellsAdvert (advert : AdvertText) (lines : List LineText) : Type 0 where
  pub ref : Ref
  pub refs : List Ref
  pub first : List ℕ
  pub others : List LineText
  pub begins : IsFirstRefLine ref first
  pub each : AreRefLines refs others
  pub once : IsDistinct bytes_eq (keys_of (ref ∷ refs))
  pub is : advert ≡ advert_of (from_entries (ref ∷ refs))
  pub whole : lines ≡ text first ∷ (others ++ flush ∷ [])

-- ---- how it is written
-- the id and the name of a line
abbrev pub ref_text : Ref → List ℕ
ref_text ref = encode_lower ref.1.0 ++ 32 ∷ ref.0

-- a line of them, and more after the name
abbrev pub written_ref : List ℕ → Ref → LineText
written_ref tail ref = text ((ref_text ref ++ tail) ++ 10 ∷ [])

-- the first line has more after its name
abbrev pub ref_lines : List ℕ → List Ref → List LineText
ref_lines tail [] = []
ref_lines tail (ref ∷ refs) = written_ref tail ref ∷ ref_lines [] refs

-- HEAD in front, where it has a value
abbrev pub with_head : Option ObjectId → List Ref → List Ref
with_head None refs = refs
with_head (Some id) refs = (codes "HEAD", id) ∷ refs

-- where there is nothing to advertise, one line that names no ref
abbrev pub or_no_refs : List Ref → List Ref
or_no_refs [] = (codes "capabilities^{}", record { 0 = replicate 20 0 }) ∷ []
or_no_refs (ref ∷ refs) = ref ∷ refs

-- a NUL, and what the node can do: it reports on each command, and sets all refs of a push or none
abbrev pub capabilities : List ℕ
capabilities = 0 ∷ codes "report-status-v2 atomic"

-- HEAD first, then the refs in order of name; capabilities after the first name
abbrev pub advert_lines : AdvertText → List LineText
advert_lines advert = ref_lines capabilities (or_no_refs (with_head advert.head (entries advert.refs))) ++ flush ∷ []

-- where HEAD has a value, it is an id
abbrev pub IsHeadId : Option ObjectId → Type 0
IsHeadId None = Unit {0}
IsHeadId (Some id) = IsId id

-- the most bytes of a name that fits in a line with its id and the capabilities
abbrev pub max_listed : ℕ
max_listed = 65450

-- the name of a ref, which fits in a line with the capabilities
pub record IsWrittenRef (ref : Ref) : Type 0 where
  pub name : IsName ref.0
  pub counts : is_ref ref.0 ≡ true
  pub id : IsId ref.1
  pub short : length ref.0 ≤ max_listed

-- an advertisement that is read as it was written
pub record IsWrittenAdvert (advert : AdvertText) : Type 0 where
  pub head : IsHeadId advert.head
  pub refs : AllByRecursion IsWrittenRef (entries advert.refs)

-- each name fits in a line with the capabilities
abbrev pub HasShortNames : AdvertText → Type 0
HasShortNames advert = AllByRecursion (λ (ref : Ref). length ref.0 ≤ max_listed) (entries advert.refs)

-- ---- line by line
-- what stands before the first NUL, or all
abbrev pub before_nul : List ℕ → List ℕ
before_nul [] = []
before_nul (b ∷ bs) = if b == 0 then [] else b ∷ before_nul bs

-- whether it is a name
abbrev pub is_name : List ℕ → Bool
is_name [] = false
is_name (b ∷ bs) = not (list_any is_break (b ∷ bs))

-- a ref of that name, if it is one
abbrev pub named_ref : List ℕ → ObjectId → Option Ref
named_ref name id = if is_name name then Some (name, id) else None

-- the name and the id of a line, which may be the first
unfoldable pub ref_line : Bool → List ℕ → Option Ref
ref_line is_first line = do
  parts ← split 40 (without_lf line)
  id ← id_of parts.0
  words ← after_word (32 ∷ []) parts.1
  named_ref (if is_first then before_nul words else words) id

-- one more ref, whose name is new
abbrev pub one_more_ref : ℕ → RefIds → Option Ref → Result (Stepped RefIds AdvertText) PktFault
one_more_ref number listed None = Err (BadRecord number)
one_more_ref number listed (Some ref) = if contains_key listed ref.0 then Err (BadRecord number) else Ok (onward (insert listed ref.0 ref.1))

-- the flush ends it, after one line or more
abbrev pub advert_step : Steps RefIds AdvertText
advert_step number listed flush = if number == 0 then Err (BadRecord number) else Ok (complete (advert_of listed))
advert_step number listed (text line) = one_more_ref number listed (ref_line (number == 0) line)

one_more_ref_own : (number : ℕ) (listed : RefIds) (found : Option Ref) → IsOwnFault (one_more_ref number listed found)
one_more_ref_own number listed None = tt
one_more_ref_own number listed (Some ref) = either_own (contains_key listed ref.0) _ _ tt tt

pub advert_step_own : (number : ℕ) (listed : RefIds) (line : LineText) → IsOwnFault (advert_step number listed line)
advert_step_own number listed flush = either_own (number == 0) _ _ tt tt
advert_step_own number listed (text line) = one_more_ref_own number listed (ref_line (number == 0) line)
