-- What the lines of a pack give is what they spell.
use Rattle.std.proofs.Common.{◌≡◌, ℕ, ◌+◌, ◌^◌, ◌<◌, Bool, true, false, cond, List, ◌∷◌, ◌++◌, length, get_or, Option, Some, None, is_some, Result, Ok, Err, refl, ap, sym, ◌∙◌, subst, arith, []}
use Rattle.std.specs.Prelude.{codes, decimal}
use Rattle.std.specs.Option.{option_map}
use Rattle.std.specs.Str.{bytes_eq}
use Rattle.std.proofs.lemmas.Slice.Eq.{bytes_eq-Decides}
use Rattle.std.proofs.lemmas.Option.{same_Some}
use Rattle.vc_object.specs.Object.{IsObject, object_bytes}
use Rattle.vc_object.specs.Decoding.{StoredObject, stored_object, decoded}
use Rattle.vc_object.specs.declared.kind.Kind.{Kind}
use Rattle.vc_object.specs.declared.id.ObjectId.{ObjectId}
use Rattle.vc_object.proofs.Decoding.{decoded_some, decoded_again}
use Rattle.vc_object.proofs.Objects.{header_once, decimal_size}
use Rattle.vc_pkt.specs.Line.{LineText, flush, text}
use Rattle.vc_pkt.specs.TextLine.{without_lf}
use Rattle.vc_pkt.specs.Message.{Stepped, onward, complete, going, run, GivenBy}
use Rattle.vc_pkt.specs.ObjectStream.{SetState, set_step, no_objects}
use Rattle.vc_pkt.specs.declared.fault.PktFault.{PktFault}
use Rattle.vc_pkt.proofs.StreamLaws.{means, stream_runs, ok_same}
use Rattle.vc_fetch.specs.Ids.{id_line}
use Rattle.vc_fetch.specs.Pack.{PackText, is_object, IsAckLine, SpellsPack, PackState, starting, streaming, ack_line, ack_stepped, with_ack, pack_step}
use Rattle.vc_fetch.proofs.IdLines.{line_some, line_again}

-- ---- objects
object_again : (kind : Kind) (body : List ℕ) → IsObject kind body → is_object (stored_object kind body) ≡ true
unfolding is_object
object_again kind body h = ap is_some (decoded_again (object_bytes kind body) kind body (trunc h) refl)
  where
    trunc : IsObject kind body → ∥ IsObject kind body ∥₁
    trunc h = ∣ h ∣₁

object_some : (kind : Kind) (body : List ℕ) (o : Option StoredObject) → length body < 2 ^ 64 → decoded (object_bytes kind body) ≡ o → is_some o ≡ true → IsObject kind body
object_some kind body None fits is e = absurd (cc e)
object_some kind body (Some o) fits is e =
    let s = decoded_some (object_bytes kind body) o is in
    let small = s.object.size in
    let same = header_once kind o.kind (decimal (length body)) (decimal (length o.body)) body o.body (decimal_size (length body) fits) (decimal_size (length o.body) (omega arith)) s.is in
    subst (λ k. IsObject k body) (sym same.0) (subst (λ b. IsObject o.kind b) (sym same.2) s.object)

pub ok_object : (kind : Kind) (body : List ℕ) → IsObject kind body → true ≡ is_object (stored_object kind body)
ok_object kind body h = sym (object_again kind body h)

pub err_object : (kind : Kind) (body : List ℕ) → length body < 2 ^ 64 → (IsObject kind body → ⊥) → false ≡ is_object (stored_object kind body)
unfolding is_object
err_object kind body fits none = sym (by (is_some (decoded (object_bytes kind body))) refl)
  where
    by : (t : Bool) → is_some (decoded (object_bytes kind body)) ≡ t → t ≡ false
    by true e = absurd (none (object_some kind body (decoded (object_bytes kind body)) fits refl e))
    by false e = refl

-- ---- lines
abbrev with_pack : Option ObjectId → Result (List StoredObject) PktFault → Result PackText PktFault
with_pack ack (Ok objects) = Ok (record { ack = ack; objects = objects })
with_pack ack (Err f) = Err f

step_both : (ack : Option ObjectId) (r : Result (Stepped SetState (List StoredObject)) PktFault) (k : PackState → Result PackText PktFault) (j : SetState → Result (List StoredObject) PktFault) (rest : List LineText) (n : ℕ)
    → ((s : SetState) → k (streaming ack s) ≡ with_pack ack (j s)) → going (with_ack ack r) k rest n ≡ with_pack ack (going r j rest n)
step_both ack (Err f) k j rest n h = refl
step_both ack (Ok (onward s)) k j rest n h = h s
step_both ack (Ok (complete objects)) k j [] n h = refl
step_both ack (Ok (complete objects)) k j (l ∷ ls) n h = refl

stream_both : (lines : List LineText) (n : ℕ) (ack : Option ObjectId) (s : SetState) → run pack_step n (streaming ack s) lines ≡ with_pack ack (run (set_step is_object) n s lines)
stream_both [] n ack s = refl
stream_both (line ∷ rest) n ack s =
    step_both ack (set_step is_object n s line) (λ t. run pack_step (n + 1) t rest) (λ t. run (set_step is_object) (n + 1) t rest) rest (n + 1) (λ t. stream_both rest (n + 1) ack t)

with_pack_ok : (ack : Option ObjectId) (r : Result (List StoredObject) PktFault) (p : PackText) → with_pack ack r ≡ Ok p → (r ≡ Ok p.objects) × (ack ≡ p.ack)
with_pack_ok ack (Ok objects) p e =
    let same = ok_same (record { ack = ack; objects = objects }) p e in
    (ap (λ (q : PackText). Ok q.objects) same, ap (λ (q : PackText). q.ack) same)
with_pack_ok ack (Err f) p e = absurd (cc e)

nak_is : (line : List ℕ) (ack : Option ObjectId) (b : Bool) → bytes_eq (without_lf line) (codes "NAK") ≡ b → cond b (Some None) (option_map (λ id. Some id) (id_line (codes "ACK ") line)) ≡ Some ack → IsAckLine ack line
nak_is line ack true is e =
    let same = same_Some None ack e in
    subst (λ a. IsAckLine a line) same ((bytes_eq-Decides (without_lf line) (codes "NAK")).0 is)
nak_is line ack false is e = by (id_line (codes "ACK ") line) refl e
  where
    by : (o : Option ObjectId) → id_line (codes "ACK ") line ≡ o → option_map (λ id. Some id) o ≡ Some ack → IsAckLine ack line
    by (Some id) found e = let same = same_Some (Some id) ack e in subst (λ a. IsAckLine a line) same (line_some (codes "ACK ") line id found)
    by None found e = absurd (cc e)

no_nak : (digits line : List ℕ) → without_lf line ≡ codes "ACK " ++ digits → bytes_eq (without_lf line) (codes "NAK") ≡ false
no_nak digits line e = by (bytes_eq (without_lf line) (codes "NAK")) refl
  where
    by : (b : Bool) → bytes_eq (without_lf line) (codes "NAK") ≡ b → b ≡ false
    by true is =
        let same : codes "ACK " ++ digits ≡ codes "NAK" = sym e ∙ (bytes_eq-Decides (without_lf line) (codes "NAK")).0 is in
        let h : ◌≡◌ {A = ℕ} 65 78 = ap (λ (xs : List ℕ). get_or xs 0 0) same in
        absurd (omega arith)
    by false is = refl

ack_again : (ack : Option ObjectId) (line : List ℕ) → IsAckLine ack line → ack_line line ≡ Some ack
ack_again None line h = ap (λ b. cond b (Some None) (option_map (λ id. Some id) (id_line (codes "ACK ") line))) ((bytes_eq-Decides (without_lf line) (codes "NAK")).1 h)
ack_again (Some id) line h =
    ap (λ b. cond b (Some None) (option_map (λ i. Some i) (id_line (codes "ACK ") line))) (no_nak h.digits line h.spelled)
    ∙ ap (option_map (λ i. Some i)) (line_again (codes "ACK ") line id h)

first_of : (line : List ℕ) (rest : List LineText) (p : PackText) (o : Option (Option ObjectId)) → ack_line line ≡ o → going (ack_stepped 0 o) (λ t. run pack_step 1 t rest) rest 1 ≡ Ok p → SpellsPack p (text line ∷ rest)
first_of line rest p None is e = absurd (cc e)
first_of line rest p (Some ack) is e =
    let w = with_pack_ok ack (run (set_step is_object) 1 no_objects rest) p (sym (stream_both rest 1 ack no_objects) ∙ e) in
    let m = means is_object rest 1 [] p.objects w.0 in
    record {
      first = line;
      others = rest;
      begins = subst (λ a. IsAckLine a line) w.1 (nak_is line ack (bytes_eq (without_lf line) (codes "NAK")) refl is);
      stream = record { objects = m.objects; stream = m.stream; once = m.once };
      whole = refl;
    }

pub pack_spelled : (p : PackText) (lines : List LineText) → GivenBy pack_step starting p lines → SpellsPack p lines
pack_spelled p [] e = absurd (cc e)
pack_spelled p (flush ∷ ls) e = absurd (cc e)
pack_spelled p (text line ∷ rest) e = first_of line rest p (ack_line line) refl e

pub pack_given : (p : PackText) (lines : List LineText) → SpellsPack p lines → GivenBy pack_step starting p lines
pack_given p lines s =
    ap (run pack_step 0 starting) s.whole
    ∙ ap (λ o. going (ack_stepped 0 o) (λ t. run pack_step 1 t s.others) s.others 1) (ack_again p.ack s.first s.begins)
    ∙ stream_both s.others 1 p.ack no_objects
    ∙ ap (with_pack p.ack) (stream_runs is_object s.stream.objects s.others 1 [] s.stream.stream ∙ ap Ok (sym s.stream.once))
