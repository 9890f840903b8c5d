-- Bytes that spell a message have no fault, and other bytes have one first fault.
use Rattle.std.proofs.Common.{◌≡◌, ◌≢◌, ℕ, ◌+◌, List, [], ◌∷◌, ◌++◌, length, Result, Ok, Err, refl, ap, sym, ◌∙◌, subst, arith, append_assoc, ◌⊎◌, inl, inr, ⊎_elim}
use Rattle.std.specs.Prelude.{IfOk, MatchResult}
use Rattle.std.proofs.lemmas.List.{append-nil}
use Rattle.vc_pkt.specs.Line.{LineText, IsLine, IsLines, IsPart, IsBad, short}
use Rattle.vc_pkt.specs.Message.{Stepped, onward, complete, Steps, going, run, IsLineFault, IsSpelledBy, GivenBy, IsUnfinished, FirstFault, cut, bad_length, wrong_line, byte_behind, Refuses}
use Rattle.vc_pkt.specs.StepView.{Gives}
use Rattle.vc_pkt.specs.declared.fault.PktFault.{PktFault}
use Rattle.vc_pkt.specs.declared.fault.PktFault.TheVariants.{BadLength, BadRecord, CutMessage}
use Rattle.vc_pkt.specs.declared.fault.PktError.{PktError}
use Rattle.vc_pkt.specs.declared.fault.PktError.TheVariants.{Memory, Refused}
use Rattle.vc_pkt.proofs.LineLaws.{line_no_part, line_no_bad, line_once, part_no_bad}
use Rattle.vc_pkt.proofs.ListLaws.{lines_once, lines_no_bad}
use Rattle.vc_pkt.proofs.MessageLaws.{begin_lines, no_lines, run_longer, run_stays, not_cut}

module _ {S M : Type 0} (step : Steps S M) (start : S) where
  module _ (bytes : List ℕ) (message : M) (lines : List LineText) (each : IsLines lines bytes) (gives : GivenBy step start message lines) where
    behind : (ls others : List LineText) (after : List ℕ) → IsLines others after → after ≢ [] → (m : M) → run step 0 start ls ≡ Ok m → run step 0 start (ls ++ others) ≡ Ok message → ⊥
    behind ls [] after a some m e all = some a
    behind ls (l ∷ os) after a some m e all = run_longer step ls 0 start l os m message e all

    -- bytes that give a message have no fault
    pub no_fault : (f : PktFault) → FirstFault step start bytes f → ⊥
    no_fault f (cut ls after b unfinished part is) =
        let o = begin_lines ls lines bytes b.front after each b.each b.whole in
        let none = no_lines o.0 after o.2 part in
        let same : lines ≡ ls = o.1 ∙ ap (λ t. ls ++ t) none ∙ append-nil ls in
        let both : Ok message ≡ Err CutMessage = sym gives ∙ ap (run step 0 start) same ∙ unfinished in
        cc both
    no_fault f (bad_length ls after b unfinished bad is) = lines_no_bad lines ls bytes b.front [] after each b.each (short (omega arith)) bad (append-nil bytes ∙ b.whole)
    no_fault f (wrong_line ls line after b unfinished wrong own) =
        let o = begin_lines (ls ++ line ∷ []) lines bytes b.front after each b.each b.whole in
        let stays = run_stays step (ls ++ line ∷ []) o.0 0 start f (not_cut step f own) wrong in
        let both : Ok message ≡ Err f = sym gives ∙ ap (run step 0 start) o.1 ∙ stays in
        cc both
    no_fault f (byte_behind ls after m b given some is) =
        let o = begin_lines ls lines bytes b.front after each b.each b.whole in
        behind ls o.0 after o.2 some m given (ap (run step 0 start) (sym o.1) ∙ gives)

    -- and give one message
    pub one_message : (other : M) → IsSpelledBy (GivenBy step start) other bytes → message ≡ other
    one_message other (ls, a, e) =
        let same = (lines_once lines ls bytes bytes [] [] each a (short (omega arith)) (short (omega arith)) refl).0 in
        let both : Ok message ≡ Ok other = sym gives ∙ ap (run step 0 start) same ∙ e in
        cc both

  module _ (Spells : M → List LineText → Type 0) (to : (m : M) (ls : List LineText) → GivenBy step start m ls → Spells m ls) (from : (m : M) (ls : List LineText) → Spells m ls → GivenBy step start m ls) where
    module _ {X : Type 0} (view : X → M) (bytes : List ℕ) where
      pub spelled_all : (r : Result X PktError) → MatchResult r (λ x. IsSpelledBy (GivenBy step start) (view x) bytes) (Refuses step start bytes) → IfOk r (λ x. IsSpelledBy Spells (view x) bytes)
      spelled_all (Ok x) (lines, each, e) = (lines, each, to (view x) lines e)
      spelled_all (Err e) h = tt

      pub read_all : (r : Result X PktError) → MatchResult r (λ x. IsSpelledBy (GivenBy step start) (view x) bytes) (Refuses step start bytes)
          → (m : M) → IsSpelledBy Spells m bytes → Gives view r (Ok m)
      read_all (Ok x) h m (lines, each, s) = ap Ok (one_message bytes m lines each (from m lines s) (view x) h)
      read_all (Err Memory) h m (lines, each, s) = tt
      read_all (Err (Refused f)) h m (lines, each, s) = absurd (no_fault bytes m lines each (from m lines s) f h)

-- two beginnings of bytes: the lines of one begin those of the other
data Compare (ls ms : List LineText) (f g x y : List ℕ) : Type 0 where
  same : ls ≡ ms → f ≡ g → x ≡ y → Compare ls ms f g x y
  longer : (m : LineText) (os : List LineText) (first more : List ℕ) → ms ≡ ls ++ m ∷ os → IsLine m first → x ≡ first ++ more → Compare ls ms f g x y
  shorter : (l : LineText) (os : List LineText) (first more : List ℕ) → ls ≡ ms ++ l ∷ os → IsLine l first → y ≡ first ++ more → Compare ls ms f g x y

compare_behind : (l m : LineText) (ls ms : List LineText) (a b f g f' g' x y : List ℕ) → l ≡ m → a ≡ b → f ≡ a ++ f' → g ≡ b ++ g' → Compare ls ms f' g' x y → Compare (l ∷ ls) (m ∷ ms) f g x y
compare_behind l m ls ms a b f g f' g' x y e i u v (same p q r) = same (let h = e in let k = p in cc) (u ∙ ap (λ t. t ++ f') i ∙ ap (λ t. b ++ t) q ∙ sym v) r
compare_behind l m ls ms a b f g f' g' x y e i u v (longer k os first more is one whole) = longer k os first more (ap (λ t. m ∷ t) is ∙ ap (λ t. t ∷ (ls ++ k ∷ os)) (sym e)) one whole
compare_behind l m ls ms a b f g f' g' x y e i u v (shorter k os first more is one whole) = shorter k os first more (ap (λ t. l ∷ t) is ∙ ap (λ t. t ∷ (ms ++ k ∷ os)) e) one whole

compare : (ls ms : List LineText) (f g x y : List ℕ) → IsLines ls f → IsLines ms g → f ++ x ≡ g ++ y → Compare ls ms f g x y
compare [] [] f g x y a b e = same refl (a ∙ sym b) (ap (λ t. t ++ x) (sym a) ∙ e ∙ ap (λ t. t ++ y) b)
compare [] (m ∷ ms) f g x y a (first, more, one, others, is) e = longer m ms first (more ++ y) refl one (ap (λ t. t ++ x) (sym a) ∙ e ∙ ap (λ t. t ++ y) is ∙ append_assoc first more y)
compare (l ∷ ls) [] f g x y (first, more, one, others, is) b e = shorter l ls first (more ++ x) refl one (ap (λ t. t ++ y) (sym b) ∙ sym e ∙ ap (λ t. t ++ x) is ∙ append_assoc first more x)
compare (l ∷ ls) (m ∷ ms) f g x y (a1, a2, a3, a4, a5) (b1, b2, b3, b4, b5) e =
    let spread : a1 ++ (a2 ++ x) ≡ b1 ++ (b2 ++ y) = sym (append_assoc a1 a2 x) ∙ ap (λ t. t ++ x) (sym a5) ∙ e ∙ ap (λ t. t ++ y) b5 ∙ append_assoc b1 b2 y in
    let head = line_once l m a1 b1 (a2 ++ x) (b2 ++ y) a3 b3 spread in
    compare_behind l m ls ms a1 b1 f g a2 b2 x y head.0 head.1 a5 b5 (compare ls ms a2 b2 x y a4 b4 head.2)

-- the last of lines taken off
pub last_line : (ls : List LineText) (l : LineText) (f : List ℕ) → IsLines (ls ++ l ∷ []) f → (g first : List ℕ) × IsLines ls g × IsLine l first × (f ≡ g ++ first)
last_line [] l f (first, more, one, none, is) = ([], first, refl, one, is ∙ ap (λ t. first ++ t) none ∙ append-nil first)
last_line (k ∷ ls) l f (first, more, one, others, is) =
    let t = last_line ls l more others in
    (first ++ t.0, t.1, (first, t.0, one, t.2, refl), t.3, is ∙ ap (λ m. first ++ m) t.4 ∙ sym (append_assoc first t.0 t.1))

module _ {S M : Type 0} (step : Steps S M) (start : S) where
  over_step : (r : Result (Stepped S M) PktFault) (ls os : List LineText) (l : LineText) (n : ℕ) (a : M)
      → ((t : S) → run step n t ls ≡ Ok a → (k : ℕ) × (run step n t (ls ++ l ∷ os) ≡ Err (BadRecord k)))
      → going r (λ t. run step n t ls) ls n ≡ Ok a → (k : ℕ) × (going r (λ t. run step n t (ls ++ l ∷ os)) (ls ++ l ∷ os) n ≡ Err (BadRecord k))
  over_step (Err f) ls os l n a ih x = absurd (cc x)
  over_step (Ok (onward t)) ls os l n a ih x = ih t x
  over_step (Ok (complete m)) [] os l n a ih x = (n, refl)
  over_step (Ok (complete m)) (k ∷ ls) os l n a ih x = absurd (cc x)

  -- a line behind a message is at fault
  run_over : (ls : List LineText) (n : ℕ) (s : S) (l : LineText) (os : List LineText) (a : M) → run step n s ls ≡ Ok a → (k : ℕ) × (run step n s (ls ++ l ∷ os) ≡ Err (BadRecord k))
  run_over [] n s l os a x = absurd (cc x)
  run_over (k ∷ ls) n s l os a x = over_step (step n s k) ls os l (n + 1) a (λ t u. run_over ls (n + 1) t l os a u) x

  -- what stands behind lines, and why it is a fault
  data Why (ls : List LineText) (front rest : List ℕ) (fault : PktFault) : Type 0 where
    ends : IsUnfinished step start ls → IsPart rest → fault ≡ CutMessage → Why ls front rest fault
    bad : IsUnfinished step start ls → IsBad rest → fault ≡ BadLength (length front) → Why ls front rest fault
    wrong : (line : LineText) (first more : List ℕ) → IsUnfinished step start ls → IsLine line first → rest ≡ first ++ more → run step 0 start (ls ++ line ∷ []) ≡ Err fault → IsLineFault fault → Why ls front rest fault
    over : (m : M) → run step 0 start ls ≡ Ok m → rest ≢ [] → fault ≡ BadRecord (length ls) → Why ls front rest fault

  record Stop (bytes : List ℕ) (fault : PktFault) : Type 0 where
    lines : List LineText
    front : List ℕ
    rest : List ℕ
    each : IsLines lines front
    whole : bytes ≡ front ++ rest
    why : Why lines front rest fault

  stop_of : (bytes : List ℕ) (fault : PktFault) → FirstFault step start bytes fault → Stop bytes fault
  stop_of bytes fault (cut ls rest b u part is) = record { lines = ls; front = b.front; rest = rest; each = b.each; whole = b.whole; why = ends u part is }
  stop_of bytes fault (bad_length ls rest b u no_line is) = record { lines = ls; front = b.front; rest = rest; each = b.each; whole = b.whole; why = bad u no_line is }
  stop_of bytes fault (wrong_line ls line rest b u w own) =
      let t = last_line ls line b.front b.each in
      record { lines = ls; front = t.0; rest = t.1 ++ rest; each = t.2; whole = b.whole ∙ ap (λ m. m ++ rest) t.4 ∙ append_assoc t.0 t.1 rest; why = wrong line t.1 rest u t.3 refl w own }
  stop_of bytes fault (byte_behind ls rest m b given some is) = record { lines = ls; front = b.front; rest = rest; each = b.each; whole = b.whole; why = over m given some is }

  err_is : (f g : PktFault) → ◌≡◌ {A = Result M PktFault} (Err f) (Err g) → f ≡ g
  err_is f g e = cc e

  not_both : (ls : List LineText) (m : M) → IsUnfinished step start ls → run step 0 start ls ≡ Ok m → ⊥
  not_both ls m u e = let both : Ok m ≡ Err CutMessage = sym e ∙ u in cc both

  -- at one place one fault
  agree : (ls : List LineText) (front rest : List ℕ) (f g : PktFault) → Why ls front rest f → Why ls front rest g → f ≡ g
  agree ls front rest f g (ends u part is) (ends u' part' is') = is ∙ sym is'
  agree ls front rest f g (ends u part is) (bad u' no_line is') = absurd (part_no_bad rest part no_line)
  agree ls front rest f g (ends u part is) (wrong l a x u' one e w own) = absurd (line_no_part l a x rest one e part)
  agree ls front rest f g (ends u part is) (over m given some is') = absurd (not_both ls m u given)
  agree ls front rest f g (bad u no_line is) (ends u' part is') = absurd (part_no_bad rest part no_line)
  agree ls front rest f g (bad u no_line is) (bad u' no_line' is') = is ∙ sym is'
  agree ls front rest f g (bad u no_line is) (wrong l a x u' one e w own) = absurd (line_no_bad l a x rest one e no_line)
  agree ls front rest f g (bad u no_line is) (over m given some is') = absurd (not_both ls m u given)
  agree ls front rest f g (wrong l a x u one e w own) (ends u' part is') = absurd (line_no_part l a x rest one e part)
  agree ls front rest f g (wrong l a x u one e w own) (bad u' no_line is') = absurd (line_no_bad l a x rest one e no_line)
  agree ls front rest f g (wrong l a x u one e w own) (wrong k b y u' two e' w' own') =
      let same' = line_once l k a b x y one two (sym e ∙ e') in
      err_is f g (sym w ∙ ap (λ t. run step 0 start (ls ++ t ∷ [])) same'.0 ∙ w')
  agree ls front rest f g (wrong l a x u one e w own) (over m given some is') = absurd (not_both ls m u given)
  agree ls front rest f g (over m given some is) (ends u' part is') = absurd (not_both ls m u' given)
  agree ls front rest f g (over m given some is) (bad u' no_line is') = absurd (not_both ls m u' given)
  agree ls front rest f g (over m given some is) (wrong l a x u one e w own) = absurd (not_both ls m u given)
  agree ls front rest f g (over m given some is) (over m' given' some' is') = is ∙ sym is'

  -- up to a fault the lines are unfinished, or a message
  abbrev GoesOn : List LineText → Type 0
  GoesOn ls = IsUnfinished step start ls ⊎ ((m : M) × (run step 0 start ls ≡ Ok m))

  goes_on : (ls : List LineText) (front rest : List ℕ) (f : PktFault) → Why ls front rest f → GoesOn ls
  goes_on ls front rest f (ends u part is) = inl u
  goes_on ls front rest f (bad u no_line is) = inl u
  goes_on ls front rest f (wrong l a x u one e w own) = inl u
  goes_on ls front rest f (over m given some is) = inr (m, given)

  -- lines with a fault other than the end don't go on
  no_further : (ls : List LineText) (f : PktFault) → (f ≡ CutMessage → ⊥) → run step 0 start ls ≡ Err f → GoesOn ls → ⊥
  no_further ls f other e on = ⊎_elim
      (λ u. other (err_is f CutMessage (sym e ∙ u)))
      (λ d. let both : Ok d.0 ≡ Err f = sym d.1 ∙ e in cc both)
      on

  -- behind a fault nothing goes on
  stops : (ls : List LineText) (front rest : List ℕ) (f : PktFault) (m : LineText) (os : List LineText) (first more : List ℕ) → Why ls front rest f → IsLine m first → rest ≡ first ++ more → GoesOn (ls ++ m ∷ os) → ⊥
  stops ls front rest f m os first more (ends u part is) one e on = line_no_part m first more rest one e part
  stops ls front rest f m os first more (bad u no_line is) one e on = line_no_bad m first more rest one e no_line
  stops ls front rest f m os first more (wrong l a x u two e' w own) one e on =
      let line = line_once l m a first x more two one (sym e' ∙ e) in
      let here : run step 0 start (ls ++ m ∷ []) ≡ Err f = ap (λ t. run step 0 start (ls ++ t ∷ [])) (sym line.0) ∙ w in
      let stays = run_stays step (ls ++ m ∷ []) os 0 start f (not_cut step f own) here in
      no_further (ls ++ m ∷ os) f (not_cut step f own) (ap (run step 0 start) (sym (append_assoc ls (m ∷ []) os)) ∙ stays) on
  stops ls front rest f m os first more (over a given some is) one e on =
      let wrong' = run_over ls 0 start m os a given in
      no_further (ls ++ m ∷ os) (BadRecord wrong'.0) (λ z. cc z) wrong'.1 on

  one_stop : (bytes : List ℕ) (f g : PktFault) (a : Stop bytes f) (b : Stop bytes g) → Compare a.lines b.lines a.front b.front a.rest b.rest → f ≡ g
  one_stop bytes f g a b (same p q r) =
      let why' : Why a.lines a.front a.rest g = subst (λ l. Why l a.front a.rest g) (sym p) (subst (λ t. Why b.lines t a.rest g) (sym q) (subst (λ t. Why b.lines b.front t g) (sym r) b.why)) in
      agree a.lines a.front a.rest f g a.why why'
  one_stop bytes f g a b (longer m os first more is one e) =
      absurd (stops a.lines a.front a.rest f m os first more a.why one e (subst GoesOn is (goes_on b.lines b.front b.rest g b.why)))
  one_stop bytes f g a b (shorter l os first more is one e) =
      absurd (stops b.lines b.front b.rest g l os first more b.why one e (subst GoesOn is (goes_on a.lines a.front a.rest f a.why)))

  pub one_first_fault : (bytes : List ℕ) (f g : PktFault) → FirstFault step start bytes f → FirstFault step start bytes g → f ≡ g
  one_first_fault bytes f g a b =
      let s = stop_of bytes f a in
      let t = stop_of bytes g b in
      one_stop bytes f g s t (compare s.lines t.lines s.front t.front s.rest t.rest s.each t.each (sym s.whole ∙ t.whole))
