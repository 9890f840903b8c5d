-- The message Want: the ids that are wanted, a flush, the ids that are there, and `done`.
use Rattle.std.specs.Prelude.{◌≡◌, ◌≤◌, ◌<◌, ◌++◌, ℕ, nat_lt, List, [], ◌∷◌, length, map, codes, Option, Some, None, Result, Ok, Err, if◌then◌else◌}
use Rattle.std.specs.List.{AllByRecursion}
use Rattle.std.specs.Str.{bytes_eq}
use Rattle.hex.specs.Hex.{encode_lower}
use Rattle.vc_object.specs.Lines.{IsId}
use Rattle.vc_object.specs.declared.id.ObjectId.{ObjectId}
use Rattle.vc_pkt.specs.Line.{LineText, flush, text}
use Rattle.vc_pkt.specs.TextLine.{without_lf}
use Rattle.vc_pkt.specs.Message.{Stepped, onward, complete, Steps, IsOwnFault}
use Rattle.vc_pkt.specs.StreamFaults.{either_own}
use Rattle.vc_pkt.specs.declared.fault.PktFault.{PktFault}
use Rattle.vc_pkt.specs.declared.fault.PktFault.TheVariants.{BadRecord, TooMany}
use Rattle.vc_fetch.specs.Ids.{IsIdLine, IsFirstIdLine, id_line, first_id_line}

-- own: the most ids that are wanted, and the most that are there
abbrev pub max_ids : ℕ
max_ids = 256

pub record WantText : Type 0 where
  pub wants : List ObjectId
  pub haves : List ObjectId

-- a line for each id, of the word and the id
abbrev pub AreIdLines : List ℕ → List ObjectId → List LineText → Type 0
AreIdLines word [] lines = lines ≡ []
AreIdLines word (id ∷ ids) [] = ⊥
AreIdLines word (id ∷ ids) (flush ∷ lines) = ⊥
AreIdLines word (id ∷ ids) (text line ∷ lines) = IsIdLine word id line × AreIdLines word ids lines

-- the first want may have more after its id; neither the wants nor the haves are too many
pub record SpellsWant (want : WantText) (lines : List LineText) : Type 0 where
  pub id : ObjectId
  pub ids : List ObjectId
  pub first : List ℕ
  pub others : List LineText
  pub there : List LineText
  pub last : List ℕ
  pub some : want.wants ≡ id ∷ ids
  pub begins : IsFirstIdLine (codes "want ") id first
  pub wanted : AreIdLines (codes "want ") ids others
  pub held : AreIdLines (codes "have ") want.haves there
  pub ends : without_lf last ≡ codes "done"
  pub few_wants : length want.wants ≤ max_ids
  pub few_haves : length want.haves ≤ max_ids
  pub whole : lines ≡ text first ∷ (others ++ flush ∷ (there ++ text last ∷ []))

-- how it is written
abbrev pub written_id : List ℕ → ObjectId → LineText
written_id word id = text ((word ++ encode_lower id.0) ++ 10 ∷ [])

abbrev pub want_lines : WantText → List LineText
want_lines want = map (written_id (codes "want ")) want.wants ++ flush ∷ (map (written_id (codes "have ")) want.haves ++ text (codes "done" ++ 10 ∷ []) ∷ [])

pub record IsWrittenWant (want : WantText) : Type 0 where
  pub some : 0 < length want.wants
  pub few_wants : length want.wants ≤ max_ids
  pub few_haves : length want.haves ≤ max_ids
  pub wants : AllByRecursion IsId want.wants
  pub haves : AllByRecursion IsId want.haves

-- ---- line by line
pub data WantState : Type 0 where
  wanting : List ObjectId → WantState
  having : List ObjectId → List ObjectId → WantState

-- one more id, where there is room for it
abbrev pub one_more : ℕ → List ObjectId → Option ObjectId → (List ObjectId → WantState) → Result (Stepped WantState WantText) PktFault
one_more number ids None next = Err (BadRecord number)
one_more number ids (Some id) next = if nat_lt (length ids) max_ids then Ok (onward (next (ids ++ id ∷ []))) else Err TooMany

-- the id of a want's line, which is the first where no id came before
abbrev pub want_id : List ObjectId → List ℕ → Option ObjectId
want_id [] line = first_id_line (codes "want ") line
want_id (w ∷ ws) line = id_line (codes "want ") line

-- the flush after the wants, of which there is one or more
abbrev pub wants_end : ℕ → List ObjectId → Result (Stepped WantState WantText) PktFault
wants_end number [] = Err (BadRecord number)
wants_end number (w ∷ ws) = Ok (onward (having (w ∷ ws) []))

abbrev pub want_step : Steps WantState WantText
want_step number (wanting wants) flush = wants_end number wants
want_step number (wanting wants) (text line) = one_more number wants (want_id wants line) wanting
want_step number (having wants haves) flush = Err (BadRecord number)
want_step number (having wants haves) (text line) =
    if bytes_eq (without_lf line) (codes "done") then Ok (complete (record { wants = wants; haves = haves }))
    else one_more number haves (id_line (codes "have ") line) (having wants)

one_more_own : (number : ℕ) (ids : List ObjectId) (found : Option ObjectId) (next : List ObjectId → WantState) → IsOwnFault (one_more number ids found next)
one_more_own number ids None next = tt
one_more_own number ids (Some id) next = either_own (nat_lt (length ids) max_ids) _ _ tt tt

wants_end_own : (number : ℕ) (wants : List ObjectId) → IsOwnFault (wants_end number wants)
wants_end_own number [] = tt
wants_end_own number (w ∷ ws) = tt

pub want_step_own : (number : ℕ) (state : WantState) (line : LineText) → IsOwnFault (want_step number state line)
want_step_own number (wanting wants) flush = wants_end_own number wants
want_step_own number (wanting wants) (text line) = one_more_own number wants (want_id wants line) wanting
want_step_own number (having wants haves) flush = tt
want_step_own number (having wants haves) (text line) =
    either_own (bytes_eq (without_lf line) (codes "done")) _ _ tt (one_more_own number haves (id_line (codes "have ") line) (having wants))
