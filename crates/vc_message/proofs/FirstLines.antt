-- No two kinds take one first line: the third byte of its text tells the word that it begins with, or is a hex digit; and an
-- advertisement's name holds no space, where a push has one behind its second id.
use Rattle.std.proofs.Common.{◌≡◌, ℕ, Bool, true, false, cond, List, ◌∷◌, ◌++◌, length, Option, Some, None, Result, Ok, Err, refl, ap, sym, ◌∙◌, subst, arith, []}
use Rattle.std.specs.Prelude.{codes, slice_index, option_map}
use Rattle.std.specs.FinMap.{empty}
use Rattle.std.specs.List.{AllPass, list_any}
use Rattle.std.specs.Str.{bytes_eq}
use Rattle.std.proofs.lemmas.List.Elements.{All-head, All-tail}
use Rattle.std.proofs.lemmas.Slice.Eq.{bytes_eq-Decides}
use Rattle.std.proofs.lemmas.Bool.{or_parts}
use Rattle.hex.specs.Hex.{is_hex_digit}
use Rattle.hex.proofs.HexLemmas.{decode_of-ok, decode_sized-ok, decode_sized-twice}
use Rattle.vc_object.specs.Lines.{after_word}
use Rattle.vc_object.specs.declared.id.ObjectId.{ObjectId}
use Rattle.vc_object.proofs.LineTexts.{after_word_some}
use Rattle.vc_pkt.specs.Line.{LineText, flush, text}
use Rattle.vc_pkt.specs.TextLine.{without_lf}
use Rattle.vc_pkt.specs.Message.{Stepped, onward}
use Rattle.vc_pkt.specs.declared.fault.PktFault.{PktFault}
use Rattle.vc_pkt.specs.declared.fault.PktFault.TheVariants.{BadRecord}
use Rattle.vc_fetch.specs.Advert.{AdvertText, RefIds, Ref, IsCapabilities, IsFirstRefLine, is_break, one_more_ref, ref_line, advert_step}
use Rattle.vc_fetch.specs.ErrorMessage.{error_of, error_step}
use Rattle.vc_fetch.specs.Ids.{WritesId, id_line, first_id_line}
use Rattle.vc_fetch.specs.ListMessage.{ListText, list_step}
use Rattle.vc_fetch.specs.Pack.{PackState, PackText, starting, ack_stepped, pack_step}
use Rattle.vc_fetch.specs.Want.{WantState, WantText, wanting, one_more, want_step}
use Rattle.vc_fetch.proofs.IdLines.{line_some, first_some}
use Rattle.vc_fetch.proofs.RefLines.{first_ref_some}
use Rattle.vc_lemmas.proofs.Lists.{same_head, same_tail}
use Rattle.vc_push.specs.Push.{CommandText, PushState, PushText, IsFirstCommandLine, commanding, command_line, no_commands, one_more as more_commands, push_step}
use Rattle.vc_push.specs.Report.{ReportState, ReportText, unpack_of, unpacked, unpacking, report_step}
use Rattle.vc_push.proofs.CommandLines.{first_command_some}

-- the third byte of a line's text
abbrev pub third : LineText → ℕ
third flush = 0
third (text line) = slice_index (without_lf line) 2

-- ---- lines that begin with a word
pub list_third : (line : LineText) (x : Stepped Bool ListText) → list_step 0 false line ≡ Ok x → third line ≡ 115
list_third flush x e = absurd (cc e)
list_third (text t) x e = by (bytes_eq (without_lf t) (codes "list")) refl e
  where
    by : (b : Bool) → bytes_eq (without_lf t) (codes "list") ≡ b → ◌≡◌ {A = Result (Stepped Bool ListText) PktFault} (cond b (Ok (onward true)) (Err (BadRecord 0))) (Ok x) → third (text t) ≡ 115
    by true is e = ap (λ s. slice_index s 2) ((bytes_eq-Decides (without_lf t) (codes "list")).0 is)
    by false is e = absurd (cc e)

pub want_third : (line : LineText) (x : Stepped WantState WantText) → want_step 0 (wanting []) line ≡ Ok x → third line ≡ 110
want_third flush x e = absurd (cc e)
want_third (text t) x e = by (first_id_line (codes "want ") t) refl e
  where
    by : (o : Option ObjectId) → first_id_line (codes "want ") t ≡ o → one_more 0 [] o wanting ≡ Ok x → third (text t) ≡ 110
    by None is e = absurd (cc e)
    by (Some id) is e = ap (λ s. slice_index s 2) (first_some (codes "want ") t id is).spelled

pub pack_third : (line : LineText) (x : Stepped PackState PackText) → pack_step 0 starting line ≡ Ok x → third line ≡ 75
pack_third flush x e = absurd (cc e)
pack_third (text t) x e = by (bytes_eq (without_lf t) (codes "NAK")) refl e
  where
    ack : (o : Option ObjectId) → id_line (codes "ACK ") t ≡ o → ack_stepped 0 (option_map (λ id. Some id) o) ≡ Ok x → third (text t) ≡ 75
    ack None is e = absurd (cc e)
    ack (Some id) is e = ap (λ s. slice_index s 2) (line_some (codes "ACK ") t id is).spelled

    by : (b : Bool) → bytes_eq (without_lf t) (codes "NAK") ≡ b → ack_stepped 0 (cond b (Some None) (option_map (λ id. Some id) (id_line (codes "ACK ") t))) ≡ Ok x → third (text t) ≡ 75
    by true is e = ap (λ s. slice_index s 2) ((bytes_eq-Decides (without_lf t) (codes "NAK")).0 is)
    by false is e = ack (id_line (codes "ACK ") t) refl e

pub report_third : (line : LineText) (x : Stepped ReportState ReportText) → report_step 0 unpacking line ≡ Ok x → third line ≡ 112
report_third flush x e = absurd (cc e)
report_third (text t) x e = by (after_word (codes "unpack ") (without_lf t)) refl e
  where
    by : (o : Option (List ℕ)) → after_word (codes "unpack ") (without_lf t) ≡ o → unpacked 0 (unpack_of o) ≡ Ok x → third (text t) ≡ 112
    by None is e = absurd (cc e)
    by (Some words) is e = ap (λ s. slice_index s 2) (after_word_some (codes "unpack ") (without_lf t) words is)

pub error_third : (line : LineText) (x : Stepped (Unit {0}) (List ℕ)) → error_step 0 tt line ≡ Ok x → third line ≡ 82
error_third flush x e = absurd (cc e)
error_third (text t) x e = by (after_word (codes "ERR ") (without_lf t)) refl e
  where
    by : (o : Option (List ℕ)) → after_word (codes "ERR ") (without_lf t) ≡ o → error_of 0 o ≡ Ok x → third (text t) ≡ 82
    by None is e = absurd (cc e)
    by (Some words) is e = ap (λ s. slice_index s 2) (after_word_some (codes "ERR ") (without_lf t) words is)

-- ---- lines that begin with an id
digits_pass : (digits : List ℕ) (id : ObjectId) → WritesId id digits → AllPass is_hex_digit digits
digits_pass digits id w = (decode_of-ok digits id.0 (sym (decode_sized-twice digits 20 (decode_sized-ok digits 20 id.0 w)) ∙ w)).1

abbrev Digit : ℕ → Type 0
Digit c = is_hex_digit c ≡ true

third_digit : (digits rest : List ℕ) → length digits ≡ 40 → AllPass is_hex_digit digits → is_hex_digit (slice_index (digits ++ rest) 2) ≡ true
third_digit [] rest long h = absurd (omega arith)
third_digit (a ∷ []) rest long h = absurd (omega arith)
third_digit (a ∷ b ∷ []) rest long h = absurd (omega arith)
third_digit (a ∷ b ∷ c ∷ digits) rest long h = All-head Digit c digits (All-tail Digit b (c ∷ digits) (All-tail Digit a (b ∷ c ∷ digits) h))

id_third : (t digits rest : List ℕ) (id : ObjectId) → WritesId id digits → without_lf t ≡ digits ++ rest → is_hex_digit (third (text t)) ≡ true
id_third t digits rest id w e = ap (λ s. is_hex_digit (slice_index s 2)) e ∙ third_digit digits rest (decode_sized-ok digits 20 id.0 w) (digits_pass digits id w)

-- the first line of a push
pub push_first : (t : List ℕ) (x : Stepped PushState PushText) → push_step 0 (commanding no_commands) (text t) ≡ Ok x → (found : CommandText × Bool) × IsFirstCommandLine found.1 found.0 t
push_first t x e = by (command_line true t) refl e
  where
    by : (o : Option (CommandText × Bool)) → command_line true t ≡ o → more_commands 0 no_commands o ≡ Ok x → (found : CommandText × Bool) × IsFirstCommandLine found.1 found.0 t
    by None is e = absurd (cc e)
    by (Some found) is e = (found, first_command_some t found is)

pub push_third : (line : LineText) (x : Stepped PushState PushText) → push_step 0 (commanding no_commands) line ≡ Ok x → is_hex_digit (third line) ≡ true
push_third flush x e = absurd (cc e)
push_third (text t) x e =
    let p = push_first t x e in
    let h = p.1 in
    id_third t h.old (32 ∷ (h.new ++ 32 ∷ (p.0.0.name ++ 0 ∷ h.capabilities))) p.0.0.old h.writes_old h.spelled

-- the first line of an advertisement
pub advert_first : (t : List ℕ) (x : Stepped RefIds AdvertText) → advert_step 0 empty (text t) ≡ Ok x → (ref : Ref) × IsFirstRefLine ref t
advert_first t x e = by (ref_line true t) refl e
  where
    by : (o : Option Ref) → ref_line true t ≡ o → one_more_ref 0 empty o ≡ Ok x → (ref : Ref) × IsFirstRefLine ref t
    by None is e = absurd (cc e)
    by (Some ref) is e = (ref, first_ref_some t ref is)

pub advert_third : (line : LineText) (x : Stepped RefIds AdvertText) → advert_step 0 empty line ≡ Ok x → is_hex_digit (third line) ≡ true
advert_third flush x e = absurd (cc e)
advert_third (text t) x e =
    let p = advert_first t x e in
    let h = p.1 in
    id_third t h.digits (32 ∷ (p.0.0 ++ h.tail)) p.0.1 h.writes h.spelled

-- ---- a push and an advertisement

zero_no_digit : (c : ℕ) → Digit c → c ≡ 0 → ⊥
zero_no_digit c d e = let z : is_hex_digit 0 ≡ true = subst Digit e d in cc z

-- digits and a space begin no name
space_in_name : (new name tail more : List ℕ) → AllPass is_hex_digit new → list_any is_break name ≡ false → IsCapabilities tail → new ++ 32 ∷ more ≡ name ++ tail → ⊥
space_in_name [] [] [] more d plain passed e = cc e
space_in_name [] [] (b ∷ tail) more d plain passed e = let h = same_head 32 b more tail e in omega (arith, h, passed)
space_in_name [] (c ∷ name) tail more d plain passed e =
    let p = or_parts (is_break c) (list_any is_break name) plain in
    let z : is_break 32 ≡ false = subst (λ n. is_break n ≡ false) (sym (same_head 32 c more (name ++ tail) e)) p.0 in
    cc z
space_in_name (n ∷ new) [] [] more d plain passed e = cc e
space_in_name (n ∷ new) [] (b ∷ tail) more d plain passed e =
    zero_no_digit n (All-head Digit n new d) (same_head n b (new ++ 32 ∷ more) tail e ∙ passed)
space_in_name (n ∷ new) (c ∷ name) tail more d plain passed e =
    space_in_name new name tail more (All-tail Digit n new d) (or_parts (is_break c) (list_any is_break name) plain).1 passed (same_tail n c (new ++ 32 ∷ more) (name ++ tail) e)

-- behind fronts of one length what follows is one
same_behind : (a b x y : List ℕ) → length a ≡ length b → a ++ x ≡ b ++ y → x ≡ y
same_behind [] [] x y len e = e
same_behind [] (b ∷ bs) x y len e = absurd (omega arith)
same_behind (a ∷ as') [] x y len e = absurd (omega arith)
same_behind (a ∷ as') (b ∷ bs) x y len e = same_behind as' bs x y (omega arith) (same_tail a b (as' ++ x) (bs ++ y) e)

pub push_no_advert : (line : LineText) (x : Stepped PushState PushText) (y : Stepped RefIds AdvertText) → push_step 0 (commanding no_commands) line ≡ Ok x → advert_step 0 empty line ≡ Ok y → ⊥
push_no_advert flush x y e f = cc e
push_no_advert (text t) x y e f =
    let p = push_first t x e in
    let q = advert_first t y f in
    let h = p.1 in
    let k = q.1 in
    let command = p.0.0 in
    let ref = q.0 in
    let long = decode_sized-ok h.old 20 command.old.0 h.writes_old in
    let other = decode_sized-ok k.digits 20 ref.1.0 k.writes in
    let more = command.name ++ 0 ∷ h.capabilities in
    let behind = same_behind h.old k.digits (32 ∷ (h.new ++ 32 ∷ more)) (32 ∷ (ref.0 ++ k.tail)) (long ∙ sym other) (sym h.spelled ∙ k.spelled) in
    let rest = same_tail 32 32 (h.new ++ 32 ∷ more) (ref.0 ++ k.tail) behind in
    space_in_name h.new ref.0 k.tail more (digits_pass h.new command.new h.writes_new) k.name.plain k.passed rest
