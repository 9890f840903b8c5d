-- Lists of lines.
use Rattle.std.proofs.Common.{◌≡◌, ℕ, ◌+◌, List, [], ◌∷◌, ◌++◌, length, refl, ap, sym, ◌∙◌, subst, append_assoc, length-append}
use Rattle.std.proofs.lemmas.List.{append-nil}
use Rattle.vc_pkt.specs.Line.{LineText, IsLine, IsLines, IsPart, IsBad, IsLineList, IsBadAt}
use Rattle.vc_pkt.proofs.LineLaws.{line_once, line_no_part, line_no_bad, part_no_bad}

pub IsLines-append : (ls ms : List LineText) (f g : List ℕ) → IsLines ls f → IsLines ms g → IsLines (ls ++ ms) (f ++ g)
IsLines-append [] ms f g a b = subst (λ t. IsLines ms (t ++ g)) (sym a) b
IsLines-append (l ∷ ls) ms f g (first, more, one, others, e) b =
    (first, more ++ g, one, IsLines-append ls ms more g others b, ap (λ t. t ++ g) e ∙ append_assoc first more g)

-- one more line at the end
pub IsLines-push : (ls : List LineText) (l : LineText) (f g : List ℕ) → IsLines ls f → IsLine l g → IsLines (ls ++ l ∷ []) (f ++ g)
IsLines-push ls l f g a b = IsLines-append ls (l ∷ []) f g a (g, [], b, refl, sym (append-nil g))

-- two readings of bytes as lines and less than a line are one
pub lines_once : (ls ms : List LineText) (f g r s : List ℕ) → IsLines ls f → IsLines ms g → IsPart r → IsPart s → f ++ r ≡ g ++ s → (ls ≡ ms) × (f ≡ g) × (r ≡ s)
lines_once [] [] f g r s a b p q e = (refl, a ∙ sym b, ap (λ t. t ++ r) (sym a) ∙ e ∙ ap (λ t. t ++ s) b)
lines_once [] (m ∷ ms) f g r s a (first, more, one, others, is) p q e =
    absurd (line_no_part m first (more ++ s) r one (ap (λ t. t ++ r) (sym a) ∙ e ∙ ap (λ t. t ++ s) is ∙ append_assoc first more s) p)
lines_once (l ∷ ls) [] f g r s (first, more, one, others, is) b p q e =
    absurd (line_no_part l first (more ++ r) s one (ap (λ t. t ++ s) (sym b) ∙ sym e ∙ ap (λ t. t ++ r) is ∙ append_assoc first more r) q)
lines_once (l ∷ ls) (m ∷ ms) f g r s (a1, a2, a3, a4, a5) (b1, b2, b3, b4, b5) p q e =
    let spread : a1 ++ (a2 ++ r) ≡ b1 ++ (b2 ++ s) = sym (append_assoc a1 a2 r) ∙ ap (λ t. t ++ r) (sym a5) ∙ e ∙ ap (λ t. t ++ s) b5 ∙ append_assoc b1 b2 s in
    let head = line_once l m a1 b1 (a2 ++ r) (b2 ++ s) a3 b3 spread in
    let tail = lines_once ls ms a2 b2 r s a4 b4 p q head.2 in
    let h0 = head.0 in let h1 = head.1 in let t0 = tail.0 in let t1 = tail.1 in
    (cc, a5 ∙ ap (λ t. t ++ a2) h1 ∙ ap (λ t. b1 ++ t) t1 ∙ sym b5, tail.2)

-- bytes are lines and less than a line in one way
pub splits_once : (bytes : List ℕ) (ls ms : List LineText) (r s : List ℕ) → IsLineList bytes ls r → IsLineList bytes ms s → (ls ≡ ms) × (r ≡ s)
splits_once bytes ls ms r s a b =
    let one = lines_once ls ms a.front b.front r s a.each b.each a.part b.part (sym a.whole ∙ b.whole) in (one.0, one.2)

-- bytes where 80 is answered are no line list
pub lines_no_bad : (ls ms : List LineText) (f g r s : List ℕ) → IsLines ls f → IsLines ms g → IsPart r → IsBad s → f ++ r ≡ g ++ s → ⊥
lines_no_bad [] [] f g r s a b p q e = part_no_bad s (subst IsPart (ap (λ t. t ++ r) (sym a) ∙ e ∙ ap (λ t. t ++ s) b) p) q
lines_no_bad [] (m ∷ ms) f g r s a (first, more, one, others, is) p q e =
    line_no_part m first (more ++ s) r one (ap (λ t. t ++ r) (sym a) ∙ e ∙ ap (λ t. t ++ s) is ∙ append_assoc first more s) p
lines_no_bad (l ∷ ls) [] f g r s (first, more, one, others, is) b p q e =
    line_no_bad l first (more ++ r) s one (ap (λ t. t ++ s) (sym b) ∙ sym e ∙ ap (λ t. t ++ r) is ∙ append_assoc first more r) q
lines_no_bad (l ∷ ls) (m ∷ ms) f g r s (a1, a2, a3, a4, a5) (b1, b2, b3, b4, b5) p q e =
    let spread : a1 ++ (a2 ++ r) ≡ b1 ++ (b2 ++ s) = sym (append_assoc a1 a2 r) ∙ ap (λ t. t ++ r) (sym a5) ∙ e ∙ ap (λ t. t ++ s) b5 ∙ append_assoc b1 b2 s in
    let head = line_once l m a1 b1 (a2 ++ r) (b2 ++ s) a3 b3 spread in
    lines_no_bad ls ms a2 b2 r s a4 b4 p q head.2

pub splits_no_bad : (bytes : List ℕ) (ls : List LineText) (r : List ℕ) (place : ℕ) → IsLineList bytes ls r → IsBadAt bytes place → ⊥
splits_no_bad bytes ls r place a b = lines_no_bad ls b.lines a.front b.front r b.more a.each b.each a.part b.bad (sym a.whole ∙ b.whole)

-- the first line taken off
pub splits_line : (bytes : List ℕ) (ls : List LineText) (r : List ℕ) (l : LineText) (a more : List ℕ) → IsLineList bytes ls r → IsLine l a → bytes ≡ a ++ more
    → (ms : List LineText) × (ls ≡ l ∷ ms) × IsLineList more ms r
splits_line bytes [] r l a more s la e =
    absurd (line_no_part l a more r la (ap (λ t. t ++ r) (sym s.each) ∙ sym s.whole ∙ e) s.part)
splits_line bytes (m ∷ ms) r l a more s la e =
    let each = s.each in
    let head = line_once m l each.0 a (each.1 ++ r) more each.2 la (sym (append_assoc each.0 each.1 r) ∙ ap (λ t. t ++ r) (sym each.4) ∙ sym s.whole ∙ e) in
    let h0 = head.0 in
    (ms, cc, record { front = each.1; each = each.3; part = s.part; whole = sym head.2 })

-- a bad length isn't at the front of a line list
pub splits_front : (bytes : List ℕ) (ls : List LineText) (r : List ℕ) → IsLineList bytes ls r → IsBad bytes → ⊥
splits_front bytes ls r s b = splits_no_bad bytes ls r 0 s (record { lines = []; front = []; more = bytes; each = refl; bad = b; whole = refl; here = refl })

-- lines, and then what a second reading found behind them
pub splits_behind : (bytes front rest more : List ℕ) (ls ms : List LineText) (r : List ℕ) → IsLines ls front → bytes ≡ front ++ rest → IsLineList (rest ++ more) ms r → IsLineList (bytes ++ more) (ls ++ ms) r
splits_behind bytes front rest more ls ms r each e s =
    record { front = front ++ s.front; each = IsLines-append ls ms front s.front each s.each; part = s.part; whole = ap (λ t. t ++ more) e ∙ append_assoc front rest more ∙ ap (λ t. front ++ t) s.whole ∙ sym (append_assoc front s.front r) }

pub bad_behind : (bytes front rest more : List ℕ) (ls : List LineText) (place : ℕ) → IsLines ls front → bytes ≡ front ++ rest → IsBadAt (rest ++ more) place → IsBadAt (bytes ++ more) (length front + place)
bad_behind bytes front rest more ls place each e b =
    record { lines = ls ++ b.lines; front = front ++ b.front; more = b.more; each = IsLines-append ls b.lines front b.front each b.each; bad = b.bad; whole = ap (λ t. t ++ more) e ∙ append_assoc front rest more ∙ ap (λ t. front ++ t) b.whole ∙ sym (append_assoc front b.front b.more); here = ap (λ n. length front + n) b.here ∙ sym (length-append front b.front) }

-- lines before a bad length, read twice
bad_once : (ls ms : List LineText) (f g r s : List ℕ) → IsLines ls f → IsLines ms g → IsBad r → IsBad s → f ++ r ≡ g ++ s → f ≡ g
bad_once [] [] f g r s a b p q e = a ∙ sym b
bad_once [] (m ∷ ms) f g r s a (first, more, one, others, is) p q e =
    absurd (line_no_bad m first (more ++ s) r one (ap (λ t. t ++ r) (sym a) ∙ e ∙ ap (λ t. t ++ s) is ∙ append_assoc first more s) p)
bad_once (l ∷ ls) [] f g r s (first, more, one, others, is) b p q e =
    absurd (line_no_bad l first (more ++ r) s one (ap (λ t. t ++ s) (sym b) ∙ sym e ∙ ap (λ t. t ++ r) is ∙ append_assoc first more r) q)
bad_once (l ∷ ls) (m ∷ ms) f g r s (a1, a2, a3, a4, a5) (b1, b2, b3, b4, b5) p q e =
    let spread : a1 ++ (a2 ++ r) ≡ b1 ++ (b2 ++ s) = sym (append_assoc a1 a2 r) ∙ ap (λ t. t ++ r) (sym a5) ∙ e ∙ ap (λ t. t ++ s) b5 ∙ append_assoc b1 b2 s in
    let head = line_once l m a1 b1 (a2 ++ r) (b2 ++ s) a3 b3 spread in
    a5 ∙ ap (λ t. t ++ a2) head.1 ∙ ap (λ t. b1 ++ t) (bad_once ls ms a2 b2 r s a4 b4 p q head.2) ∙ sym b5

-- a bad length stands at one place
pub one_bad_place : (bytes : List ℕ) (place other : ℕ) → IsBadAt bytes place → IsBadAt bytes other → place ≡ other
one_bad_place bytes place other a b =
    a.here ∙ ap length (bad_once a.lines b.lines a.front b.front a.more b.more a.each b.each a.bad b.bad (sym a.whole ∙ b.whole)) ∙ sym b.here
