-- Lines taken of a stream so far.
use Rattle.std.proofs.Common.{◌≡◌, ℕ, ◌+◌, ◌-◌, ◌^◌, ◌<◌, ◌≤◌, List, [], ◌∷◌, ◌++◌, length, take, drop, get_or, refl, ap, sym, ◌∙◌, min, max, subst, arith, append_assoc, length-append}
use Rattle.std.proofs.lemmas.List.{append-nil, take_more, take_all, take-append-drop}
use Rattle.std.proofs.lemmas.List.Concat.{flat_map-append}
use Rattle.std.specs.List.{flat_map}
use Rattle.vc_pkt.specs.Line.{LineText, IsLines, IsPart, IsLineList, IsBadAt}
use Rattle.vc_pkt.specs.Held.{Held, Gives, further}
use Rattle.vc_pkt.specs.Whole.{TakenSoFar, ReadSoFar}
use Rattle.vc_pkt.proofs.ListLaws.{IsLines-push, IsLines-append}
use Rattle.vc_pkt.proofs.LineLaws.{bad_more}
use Rattle.vc_pkt.specs.Faults.{FeedFault}
use Rattle.vc_pkt.specs.declared.fault.PktError.{PktError}
use Rattle.vc_pkt.specs.declared.fault.PktError.TheVariants.{Memory, Refused}
use Rattle.vc_pkt.specs.declared.fault.PktFault.TheVariants.{BadLength, BadRecord, SizeMismatch, CutMessage, TooMany, TooLarge}

-- the bound is a variable here
further_twice : (m p a b x : ℕ) → x ≡ max p (min (p + a) m) → max x (min (x + b) m) ≡ max p (min (p + (a + b)) m)
further_twice m p a b x e = omega arith

pub further-further : (p a b : ℕ) → further (further p a) b ≡ further p (a + b)
further-further p a b = further_twice (2 ^ 64 - 1) p a b (further p a) refl

pub none_taken : (held : Held) (before : List LineText) → TakenSoFar held held before before
none_taken held before = record { lines = []; front = []; each = refl; bytes = refl; place = omega arith; added = sym (append-nil before) }

pub one_taken : (old held new : Held) (before lines after : List LineText) (line : LineText) → TakenSoFar old held before lines → Gives held line new → after ≡ lines ++ line ∷ []
    → TakenSoFar old new before after
one_taken old held new before lines after line t g e = record {
  lines = t.lines ++ line ∷ [];
  front = t.front ++ g.spelled;
  each = IsLines-push t.lines line t.front g.spelled t.each g.is;
  bytes = t.bytes ∙ ap (λ s. t.front ++ s) g.bytes ∙ sym (append_assoc t.front g.spelled new.bytes);
  place = g.place ∙ ap (λ p. further p (length g.spelled)) t.place ∙ further-further old.place (length t.front) (length g.spelled) ∙ ap (further old.place) (sym (length-append t.front g.spelled));
  added = e ∙ ap (λ s. s ++ line ∷ []) t.added ∙ append_assoc before t.lines (line ∷ []);
}

-- a bad length stays one, whatever follows
pub bad_further : (bytes more : List ℕ) (place : ℕ) → IsBadAt bytes place → IsBadAt (bytes ++ more) place
bad_further bytes more place b = record { lines = b.lines; front = b.front; more = b.more ++ more; each = b.each; bad = bad_more b.more more b.bad; whole = ap (λ s. s ++ more) b.whole ∙ append_assoc b.front b.more more; here = b.here }

-- one at a place behind what was taken
bad_at : (front held : List ℕ) (lines : List LineText) (place : ℕ) → IsLines lines front → IsBadAt held place → IsBadAt (front ++ held) (length front + place)
bad_at front held lines place each b = record {
  lines = lines ++ b.lines;
  front = front ++ b.front;
  more = b.more;
  each = IsLines-append lines b.lines front b.front each b.each;
  bad = b.bad;
  whole = ap (λ t. front ++ t) b.whole ∙ sym (append_assoc front b.front b.more);
  here = ap (λ n. length front + n) b.here ∙ sym (length-append front b.front);
}

pub fault_of : (stream piece more all : List ℕ) (held : Held) (lines : List LineText) (e : PktError) → ReadSoFar stream held lines → all ≡ (stream ++ piece) ++ more → FeedFault held.place (held.bytes ++ piece) e
    → FeedFault 0 all e
fault_of stream piece more all held lines Memory r is f = tt
fault_of stream piece more all held lines (Refused (BadLength place)) r is f =
    let n = length r.front + f.0 in
    let there = bad_further _ more n (bad_at r.front (held.bytes ++ piece) lines f.0 r.each f.1) in
    let whole : all ≡ (r.front ++ (held.bytes ++ piece)) ++ more = is ∙ ap (λ s. (s ++ piece) ++ more) r.bytes ∙ ap (λ s. s ++ more) (append_assoc r.front held.bytes piece) in
    let P : List ℕ → Type 0 = λ s. IsBadAt s n in
    (n, subst P (sym whole) there, f.2 ∙ ap (λ p. further p f.0) r.place ∙ further-further 0 (length r.front) f.0)
fault_of stream piece more all held lines (Refused (BadRecord n)) r is f = absurd f
fault_of stream piece more all held lines (Refused SizeMismatch) r is f = absurd f
fault_of stream piece more all held lines (Refused CutMessage) r is f = absurd f
fault_of stream piece more all held lines (Refused TooMany) r is f = absurd f
fault_of stream piece more all held lines (Refused TooLarge) r is f = absurd f

-- one more piece, and the lines that it completed
pub piece_read : (stream piece all : List ℕ) (held fed new : Held) (lines after : List LineText) → ReadSoFar stream held lines → fed ≡ record held { bytes = held.bytes ++ piece } → TakenSoFar fed new lines after → IsPart new.bytes
    → all ≡ stream ++ piece → ReadSoFar all new after
piece_read stream piece all held fed new lines after r f t part is =
    let fb : fed.bytes ≡ held.bytes ++ piece = ap (λ (h : Held). h.bytes) f in
    let fp : fed.place ≡ held.place = ap (λ (h : Held). h.place) f in
    record {
      front = r.front ++ t.front;
      each = subst (λ ls. IsLines ls (r.front ++ t.front)) (sym t.added) (IsLines-append lines t.lines r.front t.front r.each t.each);
      bytes = is ∙ ap (λ s. s ++ piece) r.bytes ∙ append_assoc r.front held.bytes piece ∙ ap (λ s. r.front ++ s) (sym fb ∙ t.bytes) ∙ sym (append_assoc r.front t.front new.bytes);
      place = t.place ∙ ap (λ p. further p (length t.front)) (fp ∙ r.place) ∙ further-further 0 (length r.front) (length t.front) ∙ ap (further 0) (sym (length-append r.front t.front));
      part = part;
    }

pub whole_read : (stream : List ℕ) (held : Held) (lines : List LineText) → ReadSoFar stream held lines → (rest : List ℕ) × IsLineList stream lines rest
whole_read stream held lines r = (held.bytes, record { front = r.front; each = r.each; part = r.part; whole = r.bytes })

-- the pieces so far, and one more
module _ {X : Type 0} (f : X → List ℕ) (xs : List X) (i : ℕ) where
  pub pieces_step : (d : X) → i < length xs → d ≡ get_or xs i d → flat_map f (take (i + 1) xs) ≡ flat_map f (take i xs) ++ f d
  pieces_step d h e =
      ap (flat_map f) (take_more xs i d h) ∙ flat_map-append f (take i xs) (get_or xs i d ∷ []) ∙ ap (λ t. flat_map f (take i xs) ++ t) (append-nil (f (get_or xs i d)))
      ∙ ap (λ t. flat_map f (take i xs) ++ f t) (sym e)

  pub pieces_split : (d : X) → i < length xs → d ≡ get_or xs i d → flat_map f xs ≡ (flat_map f (take i xs) ++ f d) ++ flat_map f (drop (i + 1) xs)
  pieces_split d h e =
      ap (flat_map f) (sym (take-append-drop (i + 1) xs)) ∙ flat_map-append f (take (i + 1) xs) (drop (i + 1) xs) ∙ ap (λ t. t ++ flat_map f (drop (i + 1) xs)) (pieces_step d h e)

  pub pieces_all : length xs ≤ i → flat_map f (take i xs) ≡ flat_map f xs
  pieces_all h = ap (flat_map f) (take_all i xs h)
