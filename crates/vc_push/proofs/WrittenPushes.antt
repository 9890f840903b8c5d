-- Written pushes and reports are spelled by their bytes.
use Rattle.std.proofs.Common.{◌≡◌, ℕ, ◌≤◌, Bool, true, false, List, [], ◌∷◌, ◌++◌, length, map, Option, Some, None, Result, Ok, Err, refl, ap, sym, ◌∙◌, subst, arith, append_assoc, length-append}
use Rattle.std.specs.Prelude.{codes, unwrap_or, find, not, cond}
use Rattle.std.specs.List.{AllByRecursion, flat_map}
use Rattle.std.proofs.lemmas.List.{append-nil}
use Rattle.hex.specs.Hex.{decode_sized, encode_lower, lower_digits}
use Rattle.hex.proofs.HexLemmas.{length-encode_with, decode_sized-encode_lower}
use Rattle.vc_object.specs.Decoding.{StoredObject}
use Rattle.vc_object.specs.Lines.{IsId}
use Rattle.vc_object.specs.declared.id.ObjectId.{ObjectId}
use Rattle.vc_pkt.specs.Line.{LineText, flush, spelling, IsWritable}
use Rattle.vc_pkt.specs.Message.{IsSpelledBy}
use Rattle.vc_pkt.specs.ObjectStream.{IsStream, is_any}
use Rattle.vc_pkt.specs.Written.{stream_lines}
use Rattle.vc_pkt.proofs.TextLaws.{with_lf}
use Rattle.vc_pkt.proofs.Written.{lines_written}
use Rattle.vc_pkt.proofs.WrittenStreams.{written_set, stream_spelled, stream_fits}
use Rattle.vc_fetch.specs.Pack.{is_object}
use Rattle.vc_fetch.proofs.IdLines.{line_again, written_line}
use Rattle.vc_push.specs.Push.{CommandText, Carried, PushText, IsCommandLine, IsFirstCommandLine, AreCommandLines, SpellsCarried, SpellsPush, carried_or, only_deletes, IsWrittenCommand, IsWrittenCarried, IsWrittenPush, asks_atomic, command_text, written_command, written_words, capabilities, carried_lines, push_lines, zero_id}
use Rattle.vc_push.specs.Report.{ToldText, ReportText, IsUnpackLine, AreToldBy, SpellsReport, unpack_text, ok_text, new_id_text, ng_text, text_line, outcome_lines, told_lines, report_lines, IsShortUnpack, IsShortOutcome, IsOutcomeId, IsWrittenTold, IsUnpackText, IsWrittenReport, new_id, or_else}

-- ---- Push
digits_of : (id : ObjectId) → IsId id → decode_sized (encode_lower id.0) 20 ≡ Ok id.0
digits_of id h = decode_sized-encode_lower id.0 20 h.sized h.bytes

command_fits : (tail : List ℕ) (c : CommandText) → length tail ≤ 24 → IsWrittenCommand c → IsWritable (written_command tail c)
command_fits tail c few h =
    let a = length-append (command_text c ++ tail) (10 ∷ []) in
    let b = length-append (command_text c) tail in
    let d = length-append (encode_lower c.old.0) (32 ∷ (encode_lower c.new.0 ++ 32 ∷ c.name)) in
    let e = length-append (encode_lower c.new.0) (32 ∷ c.name) in
    let f = length-encode_with lower_digits c.old.0 in
    let g = length-encode_with lower_digits c.new.0 in
    let i = h.old.sized in
    let j = h.new.sized in
    let k = h.short in
    (omega arith, omega arith)

others_fit : (cs : List CommandText) (lines : List LineText) → AllByRecursion IsWrittenCommand cs → AllByRecursion IsWritable lines → AllByRecursion IsWritable (map (written_command []) cs ++ lines)
others_fit [] lines h more = more
others_fit (c ∷ cs) lines h more = (command_fits [] c (omega arith) h.0, others_fit cs lines h.1 more)

command_spells : (c : CommandText) → IsWrittenCommand c → IsCommandLine c ((command_text c ++ []) ++ 10 ∷ [])
command_spells c h = record {
  old = encode_lower c.old.0;
  new = encode_lower c.new.0;
  writes_old = digits_of c.old h.old;
  writes_new = digits_of c.new h.new;
  name = h.name;
  spelled = with_lf (command_text c ++ []) ∙ append-nil (command_text c);
}

others_spell : (cs : List CommandText) → AllByRecursion IsWrittenCommand cs → AreCommandLines cs (map (written_command []) cs)
others_spell [] h = refl
others_spell (c ∷ cs) h = (command_spells c h.0, others_spell cs h.1)

-- the words that are written ask for an atomic push, or not
words_ask : (atomic : Bool) → atomic ≡ asks_atomic (written_words atomic)
words_ask true = refl
words_ask false = refl

few_words : (atomic : Bool) → length (capabilities atomic) ≤ 24
few_words true = omega arith
few_words false = omega arith

first_spells : (atomic : Bool) (c : CommandText) → IsWrittenCommand c → IsFirstCommandLine atomic c ((command_text c ++ capabilities atomic) ++ 10 ∷ [])
first_spells atomic c h = record {
  old = encode_lower c.old.0;
  new = encode_lower c.new.0;
  capabilities = written_words atomic;
  writes_old = digits_of c.old h.old;
  writes_new = digits_of c.new h.new;
  name = h.name;
  asks = words_ask atomic;
  spelled =
      with_lf (command_text c ++ capabilities atomic)
      ∙ append_assoc (encode_lower c.old.0) (32 ∷ (encode_lower c.new.0 ++ 32 ∷ c.name)) (capabilities atomic)
      ∙ ap (λ t. encode_lower c.old.0 ++ 32 ∷ t) (append_assoc (encode_lower c.new.0) (32 ∷ c.name) (capabilities atomic));
}

-- objects of which none is at fault are carried as their set
none_bad : (os : List StoredObject) → AllByRecursion (λ o. is_object o ≡ true) os → find (λ o. not (is_object o)) os ≡ None
none_bad [] h = refl
none_bad (o ∷ os) h = ap (λ b. cond (not b) (Some o) (find (λ q. not (is_object q)) os)) h.0 ∙ none_bad os h.1

-- a stream of objects, none at fault, is one of any objects
any_stream : (os : List StoredObject) (lines : List LineText) → IsStream is_object os lines → IsStream is_any os lines × AllByRecursion (λ o. is_object o ≡ true) os
any_stream [] lines h = (h, tt)
any_stream (o ∷ os) lines (these, others, one, taken, stream, is) = let r = any_stream os others stream in ((these, others, one, refl, r.0, is), (taken, r.1))

carried_fits : (b : Bool) (carried : Carried) → IsWrittenCarried b carried → AllByRecursion IsWritable (carried_lines b carried)
carried_fits true carried h = tt
carried_fits false (Ok objects) h = stream_fits objects h.0.small
carried_fits false (Err bad) h = stream_fits (bad ∷ []) (h.0, tt)

carried_spells : (b : Bool) (carried : Carried) → IsWrittenCarried b carried → SpellsCarried b carried (carried_lines b carried)
carried_spells true carried h = (refl, h)
carried_spells false (Ok objects) h =
    let s = written_set is_object objects h.0 h.1 in
    let a = any_stream s.objects (stream_lines objects) s.stream in
    (s.objects, a.0, ap Ok s.once ∙ sym (ap (λ f. carried_or f s.objects) (none_bad s.objects a.1)))
carried_spells false (Err bad) h =
    (bad ∷ [], stream_spelled is_any (bad ∷ []) (h.0, tt) (refl, tt), sym (ap (λ b. carried_or (cond (not b) (Some bad) None) (bad ∷ [])) h.1))

push_of : (atomic : Bool) (cs : List CommandText) (carried : Carried) → IsWrittenPush (record { atomic = atomic; commands = cs; carried = carried })
    → IsSpelledBy SpellsPush (record { atomic = atomic; commands = cs; carried = carried }) (flat_map spelling (push_lines (record { atomic = atomic; commands = cs; carried = carried })))
push_of atomic [] carried w = absurd (let s = w.some in omega arith)
push_of atomic (c ∷ cs) carried w =
    let b = only_deletes (c ∷ cs) in
    let lines = push_lines (record { atomic = atomic; commands = c ∷ cs; carried = carried }) in (
      lines,
      lines_written lines (command_fits (capabilities atomic) c (few_words atomic) w.commands.0, others_fit cs (flush ∷ carried_lines b carried) w.commands.1 (tt, carried_fits b carried w.carried)),
      record {
        command = c;
        commands = cs;
        first = (command_text c ++ capabilities atomic) ++ 10 ∷ [];
        others = map (written_command []) cs;
        stream = carried_lines b carried;
        some = refl;
        begins = first_spells atomic c w.commands.0;
        each = others_spell cs w.commands.1;
        few = w.few;
        carries = carried_spells b carried w.carried;
        whole = refl;
      },
    )

pub written_push : (push : PushText) → IsWrittenPush push → IsSpelledBy SpellsPush push (flat_map spelling (push_lines push))
written_push push w = push_of push.atomic push.commands push.carried w

-- ---- Report
unpack_spells : (unpack : Option (List ℕ)) → IsUnpackText unpack → IsUnpackLine unpack (unpack_text unpack ++ 10 ∷ [])
unpack_spells None h = with_lf (codes "unpack ok")
unpack_spells (Some words) h = (with_lf (codes "unpack " ++ words), h)

line_fits : (words : List ℕ) → length words ≤ 65515 → IsWritable (text_line words)
line_fits words short = let a = length-append words (10 ∷ []) in (omega arith, omega arith)

unpack_fits : (unpack : Option (List ℕ)) → IsShortUnpack unpack → IsWritable (text_line (unpack_text unpack))
unpack_fits None h = line_fits (codes "unpack ok") (omega arith)
unpack_fits (Some words) h = line_fits (codes "unpack " ++ words) (let a = length-append (codes "unpack ") words in omega arith)

new_id_again : (id : ObjectId) → IsId id → new_id (new_id_text id ++ 10 ∷ []) ≡ Some id
new_id_again id h = line_again (codes "option new-oid ") (new_id_text id ++ 10 ∷ []) id (written_line (codes "option new-oid ") id h)

-- the lines of one command, and more after them
outcome_fits : (name : List ℕ) (outcome : Result ObjectId (List ℕ)) (lines : List LineText) → IsShortOutcome name outcome → IsOutcomeId outcome → AllByRecursion IsWritable lines → AllByRecursion IsWritable (outcome_lines name outcome ++ lines)
outcome_fits name (Ok id) lines short h more =
    let a = length-append (codes "ok ") name in
    let b = length-append (codes "option new-oid ") (encode_lower id.0) in
    let c = length-encode_with lower_digits id.0 in
    let d = h.sized in
    (line_fits (ok_text name) (omega arith), (line_fits (new_id_text id) (omega arith), more))
outcome_fits name (Err reason) lines short h more =
    let a = length-append (codes "ng ") (name ++ 32 ∷ reason) in
    let b = length-append name (32 ∷ reason) in
    (line_fits (ng_text name reason) (omega arith), more)

told_fit : (ts : List ToldText) (lines : List LineText) → AllByRecursion IsWrittenTold ts → AllByRecursion IsWritable lines → AllByRecursion IsWritable (flat_map told_lines ts ++ lines)
told_fit [] lines h more = more
told_fit (t ∷ ts) lines h more =
    subst (AllByRecursion IsWritable) (sym (append_assoc (told_lines t) (flat_map told_lines ts) lines))
    (outcome_fits t.name t.outcome (flat_map told_lines ts ++ lines) h.0.short h.0.id (told_fit ts lines h.1 more))

told_spells : (name : List ℕ) (outcome : Result ObjectId (List ℕ)) (ts : List ToldText) (others : List LineText) → IsWrittenTold (record { name = name; outcome = outcome }) → AreToldBy ts others
    → AreToldBy (record { name = name; outcome = outcome } ∷ ts) (outcome_lines name outcome ++ others)
told_spells name (Ok id) ts others w each = (
  text_line (new_id_text id) ∷ [],
  others,
  (
    record { legal = w.name; spelled = with_lf (ok_text name) },
    (record { words = codes "new-oid " ++ encode_lower id.0; spelled = with_lf (new_id_text id) }, tt),
    sym (ap (λ i. unwrap_or (or_else i None) zero_id) (new_id_again id w.id)),
  ),
  each,
  refl,
)
told_spells name (Err reason) ts others w each = ([], others, (record { legal = w.name; spelled = with_lf (ng_text name reason) }, refl), each, refl)

all_spell : (ts : List ToldText) → AllByRecursion IsWrittenTold ts → AreToldBy ts (flat_map told_lines ts)
all_spell [] h = refl
all_spell (t ∷ ts) h = told_spells t.name t.outcome ts (flat_map told_lines ts) h.0 (all_spell ts h.1)

pub written_report : (report : ReportText) → IsWrittenReport report → IsSpelledBy SpellsReport report (flat_map spelling (report_lines report))
written_report report w = (
  report_lines report,
  lines_written (report_lines report) (unpack_fits report.unpack w.short, told_fit report.told (flush ∷ []) w.told (tt, tt)),
  record { first = unpack_text report.unpack ++ 10 ∷ []; others = flat_map told_lines report.told; begins = unpack_spells report.unpack w.unpack; each = all_spell report.told w.told; few = w.few; whole = refl },
)
