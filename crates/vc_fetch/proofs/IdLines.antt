-- Lines with an id, as the functions that read them see them.
use Rattle.std.proofs.Common.{◌≡◌, ℕ, Bool, true, false, cond, List, ◌∷◌, ◌++◌, Option, Some, None, Result, Ok, Err, refl, ap, ◌∙◌, arith, []}
use Rattle.std.proofs.lemmas.Bool.{eq-eqb}
use Rattle.std.proofs.lemmas.Bool.Decides.{nat_tests}
use Rattle.std.proofs.lemmas.Option.{same_Some}
use Rattle.hex.specs.Hex.{decode_sized, encode_lower}
use Rattle.hex.specs.declared.error.FromHexError.{FromHexError}
use Rattle.hex.proofs.HexLemmas.{decode_sized-ok, decode_sized-encode_lower}
use Rattle.vc_object.specs.Items.{◌>>=◌}
use Rattle.vc_object.specs.Lines.{IsId, after_word, split}
use Rattle.vc_object.specs.declared.id.ObjectId.{ObjectId}
use Rattle.vc_object.proofs.Items.{bind_some}
use Rattle.vc_object.proofs.LineTexts.{after_word_some, after_word_again, split_some, split_again}
use Rattle.vc_pkt.specs.TextLine.{without_lf}
use Rattle.vc_pkt.proofs.TextLaws.{with_lf}
use Rattle.vc_fetch.specs.Ids.{WritesId, IsIdLine, IsTail, IsFirstIdLine, id_from, id_of, id_line, is_tail, first_id_line}

from_some : (r : Result (List ℕ) FromHexError) (id : ObjectId) → id_from r ≡ Some id → r ≡ Ok id.0
from_some (Ok bytes) id e = ap (λ (i : ObjectId). Ok i.0) (same_Some (record { 0 = bytes }) id e)
from_some (Err f) id e = cc e

pub id_some : (digits : List ℕ) (id : ObjectId) → id_of digits ≡ Some id → WritesId id digits
unfolding id_of
id_some digits id e = from_some (decode_sized digits 20) id e

pub id_again : (digits : List ℕ) (id : ObjectId) → WritesId id digits → id_of digits ≡ Some id
unfolding id_of
id_again digits id w = ap id_from w

pub line_some : (word line : List ℕ) (id : ObjectId) → id_line word line ≡ Some id → IsIdLine word id line
unfolding id_line
line_some word line id e =
    let a = bind_some (after_word word (without_lf line)) id_of id e in
    record { digits = a.0; writes = id_some a.0 id a.2; spelled = after_word_some word (without_lf line) a.0 a.1 }

pub line_again : (word line : List ℕ) (id : ObjectId) → IsIdLine word id line → id_line word line ≡ Some id
unfolding id_line
line_again word line id h =
    ap (λ t. after_word word t >>= id_of) h.spelled ∙ ap (λ o. o >>= id_of) (after_word_again word h.digits) ∙ id_again h.digits id h.writes

-- ---- the first line
abbrev tail_or : List ℕ → ObjectId → Option ObjectId
tail_or tail id = cond (is_tail tail) (Some id) None

abbrev parts_or : List ℕ × List ℕ → Option ObjectId
parts_or parts = id_of parts.0 >>= tail_or parts.1

abbrev text_or : List ℕ → Option ObjectId
text_or text = split 40 text >>= parts_or

tail_is : (tail : List ℕ) → is_tail tail ≡ true → IsTail tail
tail_is [] e = tt
tail_is (b ∷ bs) e = grind (arith, nat_tests)

tail_again : (tail : List ℕ) → IsTail tail → is_tail tail ≡ true
tail_again [] h = refl
tail_again (b ∷ bs) h = eq-eqb b 32 h

tail_some : (tail : List ℕ) (i id : ObjectId) (b : Bool) → is_tail tail ≡ b → cond b (Some i) None ≡ Some id → IsTail tail × (i ≡ id)
tail_some tail i id true is e = (tail_is tail is, same_Some i id e)
tail_some tail i id false is e = absurd (cc e)

pub first_some : (word line : List ℕ) (id : ObjectId) → first_id_line word line ≡ Some id → IsFirstIdLine word id line
unfolding first_id_line
first_some word line id e =
    let a = bind_some (after_word word (without_lf line)) text_or id e in
    let b = bind_some (split 40 a.0) parts_or id a.2 in
    let c = bind_some (id_of b.0.0) (tail_or b.0.1) id b.2 in
    let d = tail_some b.0.1 c.0 id (is_tail b.0.1) refl c.2 in
    record {
      digits = b.0.0;
      tail = b.0.1;
      writes = id_some b.0.0 id (c.1 ∙ ap Some d.1);
      passed = d.0;
      spelled = after_word_some word (without_lf line) a.0 a.1 ∙ ap (λ t. word ++ t) (split_some 40 a.0 b.0 b.1);
    }

pub first_again : (word line : List ℕ) (id : ObjectId) → IsFirstIdLine word id line → first_id_line word line ≡ Some id
unfolding first_id_line
first_again word line id h =
    let long = decode_sized-ok h.digits 20 id.0 h.writes in
    ap (λ t. after_word word t >>= text_or) h.spelled ∙ ap (λ o. o >>= text_or) (after_word_again word (h.digits ++ h.tail))
    ∙ ap (λ o. o >>= parts_or) (split_again 40 h.digits h.tail long) ∙ ap (λ o. o >>= tail_or h.tail) (id_again h.digits id h.writes)
    ∙ ap (λ b. cond b (Some id) None) (tail_again h.tail h.passed)

-- ---- lines that are written
pub written_line : (word : List ℕ) (id : ObjectId) → IsId id → IsIdLine word id ((word ++ encode_lower id.0) ++ 10 ∷ [])
written_line word id h = record { digits = encode_lower id.0; writes = decode_sized-encode_lower id.0 20 h.sized h.bytes; spelled = with_lf (word ++ encode_lower id.0) }
