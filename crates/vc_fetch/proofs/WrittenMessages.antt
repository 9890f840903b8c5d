-- Written messages are spelled by their bytes.
use Rattle.std.proofs.Common.{ℕ, ◌≤◌, List, [], ◌∷◌, ◌++◌, length, map, Option, Some, None, refl, ap, sym, ◌∙◌, arith, length-append}
use Rattle.std.specs.Prelude.{codes}
use Rattle.std.specs.List.{AllByRecursion, flat_map}
use Rattle.std.proofs.lemmas.List.{append-nil}
use Rattle.hex.specs.Hex.{encode_lower, lower_digits}
use Rattle.hex.proofs.HexLemmas.{length-encode_with}
use Rattle.vc_object.specs.Lines.{IsId}
use Rattle.vc_object.specs.declared.id.ObjectId.{ObjectId}
use Rattle.vc_pkt.specs.Line.{LineText, text, spelling, IsWritable}
use Rattle.vc_pkt.specs.Message.{IsSpelledBy}
use Rattle.vc_pkt.specs.Written.{stream_lines}
use Rattle.vc_pkt.proofs.TextLaws.{with_lf}
use Rattle.vc_pkt.proofs.Written.{lines_written}
use Rattle.vc_pkt.proofs.WrittenStreams.{written_set, stream_fits}
use Rattle.vc_fetch.specs.Ids.{IsFirstIdLine}
use Rattle.vc_fetch.specs.ListMessage.{list, SpellsList, list_lines}
use Rattle.vc_fetch.specs.ErrorMessage.{SpellsError, error_lines}
use Rattle.vc_fetch.specs.Want.{WantText, AreIdLines, IsWrittenWant, SpellsWant, written_id, want_lines}
use Rattle.vc_fetch.specs.Pack.{PackText, IsAckLine, IsAckId, IsWrittenPack, SpellsPack, ack_text, pack_lines, is_object}
use Rattle.vc_fetch.proofs.IdLines.{written_line}

pub written_list : IsSpelledBy SpellsList list (flat_map spelling list_lines)
written_list = (list_lines, lines_written list_lines ((omega arith, omega arith), (tt, tt)), record { first = codes "list" ++ 10 ∷ []; word = with_lf (codes "list"); whole = refl })

pub written_error : (words : List ℕ) → length words ≤ 65511 → IsSpelledBy SpellsError words (flat_map spelling (error_lines words))
written_error words short =
    let len = length-append (codes "ERR " ++ words) (10 ∷ []) in
    (error_lines words, lines_written (error_lines words) ((omega arith, omega arith), tt), record { first = (codes "ERR " ++ words) ++ 10 ∷ []; spelled = with_lf (codes "ERR " ++ words); whole = refl })

-- ---- Want
id_fits : (word : List ℕ) (id : ObjectId) → length word ≤ 5 → IsId id → IsWritable (written_id word id)
id_fits word id short h =
    let a = length-append (word ++ encode_lower id.0) (10 ∷ []) in
    let b = length-append word (encode_lower id.0) in
    let c = length-encode_with lower_digits id.0 in
    let d = h.sized in
    (omega arith, omega arith)

ids_fit : (word : List ℕ) (ids : List ObjectId) (lines : List LineText) → length word ≤ 5 → AllByRecursion IsId ids → AllByRecursion IsWritable lines → AllByRecursion IsWritable (map (written_id word) ids ++ lines)
ids_fit word [] lines short h more = more
ids_fit word (id ∷ ids) lines short h more = (id_fits word id short h.0, ids_fit word ids lines short h.1 more)

id_lines : (word : List ℕ) (ids : List ObjectId) → AllByRecursion IsId ids → AreIdLines word ids (map (written_id word) ids)
id_lines word [] h = refl
id_lines word (id ∷ ids) h = (written_line word id h.0, id_lines word ids h.1)

first_line : (word : List ℕ) (id : ObjectId) → IsId id → IsFirstIdLine word id ((word ++ encode_lower id.0) ++ 10 ∷ [])
first_line word id h =
    let l = written_line word id h in
    record { digits = l.digits; tail = []; writes = l.writes; passed = tt; spelled = l.spelled ∙ ap (λ t. word ++ t) (sym (append-nil l.digits)) }

want_spells : (wants haves : List ObjectId) → IsWrittenWant (record { wants = wants; haves = haves }) → SpellsWant (record { wants = wants; haves = haves }) (want_lines (record { wants = wants; haves = haves }))
want_spells [] haves w = absurd (let s = w.some in omega arith)
want_spells (id ∷ ids) haves w = record {
  id = id;
  ids = ids;
  first = (codes "want " ++ encode_lower id.0) ++ 10 ∷ [];
  others = map (written_id (codes "want ")) ids;
  there = map (written_id (codes "have ")) haves;
  last = codes "done" ++ 10 ∷ [];
  some = refl;
  begins = first_line (codes "want ") id w.wants.0;
  wanted = id_lines (codes "want ") ids w.wants.1;
  held = id_lines (codes "have ") haves w.haves;
  ends = with_lf (codes "done");
  few_wants = w.few_wants;
  few_haves = w.few_haves;
  whole = refl;
}

pub written_want : (want : WantText) → IsWrittenWant want → IsSpelledBy SpellsWant want (flat_map spelling (want_lines want))
written_want want w =
    let haves = ids_fit (codes "have ") want.haves (text (codes "done" ++ 10 ∷ []) ∷ []) (omega arith) w.haves ((omega arith, omega arith), tt) in
    (want_lines want, lines_written (want_lines want) (ids_fit (codes "want ") want.wants _ (omega arith) w.wants (tt, haves)), want_spells want.wants want.haves w)

-- ---- Pack
ack_spells : (ack : Option ObjectId) → IsAckId ack → IsAckLine ack (ack_text ack ++ 10 ∷ [])
ack_spells None h = with_lf (codes "NAK")
ack_spells (Some id) h = written_line (codes "ACK ") id h

ack_fits : (ack : Option ObjectId) → IsAckId ack → IsWritable (text (ack_text ack ++ 10 ∷ []))
ack_fits None h = (omega arith, omega arith)
ack_fits (Some id) h = id_fits (codes "ACK ") id (omega arith) h

pub written_pack : (pack : PackText) → IsWrittenPack pack → IsSpelledBy SpellsPack pack (flat_map spelling (pack_lines pack))
written_pack pack w = (
  pack_lines pack,
  lines_written (pack_lines pack) (ack_fits pack.ack w.ack, stream_fits pack.objects w.set.small),
  record { first = ack_text pack.ack ++ 10 ∷ []; others = stream_lines pack.objects; begins = ack_spells pack.ack w.ack; stream = written_set is_object pack.objects w.set w.grammar; whole = refl },
)
