-- A message that is read line by line, for the loop that reads it and for each kind of message.
use Rattle.std.proofs.Common.{◌≡◌, ◌≢◌, ℕ, ◌+◌, ◌-◌, ◌<◌, ◌≤◌, true, false, ◌==◌, List, [], ◌∷◌, ◌++◌, length, Result, Ok, Err, refl, ap, sym, ◌∙◌, subst, arith, append_assoc, length-append}
use Rattle.std.proofs.lemmas.List.{append-nil}
use Rattle.std.proofs.lemmas.Bool.Decides.{nat_tests}
use Rattle.vc_pkt.specs.Line.{LineText, flush, text, IsLine, IsLines, IsPart}
use Rattle.vc_pkt.specs.Faults.{FaultAt}
use Rattle.vc_pkt.specs.Message.{Stepped, onward, complete, Steps, going, run, Begins, IsLineFault, IsOwnFault, IsSpelledBy, GivenBy, IsUnfinished, FirstFault, cut, bad_length, wrong_line, byte_behind, Refuses}
use Rattle.vc_pkt.specs.StepView.{Gives}
use Rattle.vc_pkt.specs.declared.fault.PktFault.{PktFault}
use Rattle.vc_pkt.specs.declared.fault.PktFault.TheVariants.{BadLength, BadRecord, SizeMismatch, CutMessage, TooMany, TooLarge}
use Rattle.vc_pkt.specs.declared.fault.PktError.{PktError}
use Rattle.vc_pkt.specs.declared.fault.PktError.TheVariants.{Memory, Refused}
use Rattle.vc_pkt.proofs.LineLaws.{line_once, line_no_part}
use Rattle.vc_pkt.proofs.ListLaws.{IsLines-push}

pub line_length : (line : LineText) (spelled : List ℕ) → IsLine line spelled → 4 ≤ length spelled
line_length flush spelled h = omega (arith, h.four)
line_length (text body) spelled (digits, size, small, e) = let four = size.four in let len = ap length e ∙ length-append digits body in omega arith

pub no_bytes : (xs : List ℕ) → true ≡ (length xs == 0) → xs ≡ []
no_bytes [] e = refl
no_bytes (x ∷ xs) e = absurd (let z : 0 < length (x ∷ xs) = omega arith in grind (arith, nat_tests))

pub some_bytes : (xs : List ℕ) → false ≡ (length xs == 0) → xs ≢ []
some_bytes [] e = λ z. cc e
some_bytes (x ∷ xs) e = λ z. cc z

-- one more line is before what follows
pub begins_line : (bytes rest spelled after : List ℕ) (lines : List LineText) (line : LineText) → Begins bytes lines rest → IsLine line spelled → rest ≡ spelled ++ after → Begins bytes (lines ++ line ∷ []) after
begins_line bytes rest spelled after lines line b h e = record {
  front = b.front ++ spelled;
  each = IsLines-push lines line b.front spelled b.each h;
  whole = b.whole ∙ ap (λ t. b.front ++ t) e ∙ sym (append_assoc b.front spelled after);
}

-- lines that begin bytes which are lines begin those
pub begin_lines : (ls lines : List LineText) (bytes front after : List ℕ) → IsLines lines bytes → IsLines ls front → bytes ≡ front ++ after → (others : List LineText) × (lines ≡ ls ++ others) × IsLines others after
begin_lines [] lines bytes front after a b e = (lines, refl, subst (λ t. IsLines lines t) (e ∙ ap (λ t. t ++ after) b) a)
begin_lines (l ∷ ls) [] bytes front after a (first, rest, one, each, is) e =
    let four = line_length l first one in
    let len : 0 ≡ (length first + length rest) + length after = ap length (sym a ∙ e) ∙ length-append front after ∙ ap (λ n. n + length after) (ap length is ∙ length-append first rest) in
    absurd (omega arith)
begin_lines (l ∷ ls) (m ∷ ms) bytes front after (a1, a2, a3, a4, a5) (b1, b2, b3, b4, b5) e =
    let spread : a1 ++ a2 ≡ b1 ++ (b2 ++ after) = sym a5 ∙ e ∙ ap (λ t. t ++ after) b5 ∙ append_assoc b1 b2 after in
    let head = line_once m l a1 b1 a2 (b2 ++ after) a3 b3 spread in
    let tail = begin_lines ls ms a2 b2 after a4 b4 head.2 in
    let h0 = head.0 in let t1 = tail.1 in
    (tail.0, cc, tail.2)

pub no_lines : (others : List LineText) (after : List ℕ) → IsLines others after → IsPart after → others ≡ []
no_lines [] after a p = refl
no_lines (o ∷ os) after (first, rest, one, each, is) p = absurd (line_no_part o first rest after one is p)

err_same : {A : Type 0} (x y : PktFault) → ◌≡◌ {A = Result A PktFault} (Err x) (Err y) → x ≡ y
err_same x y e = cc e

module _ {S M : Type 0} (step : Steps S M) where
  longer_step : (r : Result (Stepped S M) PktFault) (ls os : List LineText) (l : LineText) (n : ℕ) (a b : M)
      → ((t : S) (a b : M) → run step n t ls ≡ Ok a → run step n t (ls ++ l ∷ os) ≡ Ok b → ⊥)
      → going r (λ t. run step n t ls) ls n ≡ Ok a → going r (λ t. run step n t (ls ++ l ∷ os)) (ls ++ l ∷ os) n ≡ Ok b → ⊥
  longer_step (Err f) ls os l n a b ih x y = cc x
  longer_step (Ok (onward t)) ls os l n a b ih x y = ih t a b x y
  longer_step (Ok (complete m)) [] os l n a b ih x y = cc y
  longer_step (Ok (complete m)) (k ∷ ls) os l n a b ih x y = cc x

  -- lines that give a message give none with more lines behind them
  pub run_longer : (ls : List LineText) (n : ℕ) (s : S) (l : LineText) (os : List LineText) (a b : M) → run step n s ls ≡ Ok a → run step n s (ls ++ l ∷ os) ≡ Ok b → ⊥
  run_longer [] n s l os a b x y = cc x
  run_longer (k ∷ ls) n s l os a b x y = longer_step (step n s k) ls os l (n + 1) a b (λ t c d u v. run_longer ls (n + 1) t l os c d u v) x y

  stays_step : (r : Result (Stepped S M) PktFault) (ls os : List LineText) (n : ℕ) (f : PktFault) → (f ≡ CutMessage → ⊥)
      → ((t : S) → run step n t ls ≡ Err f → run step n t (ls ++ os) ≡ Err f)
      → going r (λ t. run step n t ls) ls n ≡ Err f → going r (λ t. run step n t (ls ++ os)) (ls ++ os) n ≡ Err f
  stays_step (Err g) ls os n f other ih x = x
  stays_step (Ok (onward t)) ls os n f other ih x = ih t x
  stays_step (Ok (complete m)) [] os n f other ih x = cc x
  stays_step (Ok (complete m)) (k ∷ ls) os n f other ih x = x

  -- a fault that isn't the end of the lines stays, whatever follows
  pub run_stays : (ls os : List LineText) (n : ℕ) (s : S) (f : PktFault) → (f ≡ CutMessage → ⊥) → run step n s ls ≡ Err f → run step n s (ls ++ os) ≡ Err f
  run_stays [] os n s f other x = absurd (other (sym (err_same CutMessage f x)))
  run_stays (k ∷ ls) os n s f other x = stays_step (step n s k) ls os (n + 1) f other (λ t u. run_stays ls os (n + 1) t f other u) x

  pub not_cut : (f : PktFault) → IsLineFault f → f ≡ CutMessage → ⊥
  not_cut f own e = subst IsLineFault e own

  module _ (start : S) where
    -- the lines so far lead to the state
    pub record SoFar (bytes rest : List ℕ) (number : ℕ) (s : S) : Type 0 where
      pub lines : List LineText
      pub begins : Begins bytes lines rest
      pub count : number ≡ length lines
      pub room : number + length rest ≤ length bytes
      pub goes : (others : List LineText) → run step 0 start (lines ++ others) ≡ run step number s others

    pub at_start : (bytes : List ℕ) → SoFar bytes bytes 0 start
    at_start bytes = record { lines = []; begins = record { front = []; each = refl; whole = refl }; count = refl; room = omega arith; goes = λ others. refl }

    module _ (bytes rest : List ℕ) (number : ℕ) (s : S) (so : SoFar bytes rest number s) where
      unfinished : IsUnfinished step start so.lines
      unfinished = ap (run step 0 start) (sym (append-nil so.lines)) ∙ so.goes []

      pub within : length rest ≤ length bytes
      within = let r = so.room in omega arith

      -- no line stands there
      pub on_no_line : (f : PktFault) → FaultAt (length bytes - length rest) rest f → FirstFault step start bytes f
      on_no_line CutMessage part = cut so.lines rest so.begins unfinished part refl
      on_no_line (BadLength place) (here, bad) =
          let len = ap length so.begins.whole ∙ length-append so.begins.front rest in
          let same : place ≡ length so.begins.front = omega arith in
          bad_length so.lines rest so.begins unfinished bad (ap BadLength same)
      on_no_line (BadRecord n) h = absurd h
      on_no_line SizeMismatch h = absurd h
      on_no_line TooMany h = absurd h
      on_no_line TooLarge h = absurd h

      module _ (line : LineText) (spelled after : List ℕ) (h : IsLine line spelled) (e : rest ≡ spelled ++ after) where
        begins' : Begins bytes (so.lines ++ line ∷ []) after
        begins' = begins_line bytes rest spelled after so.lines line so.begins h e

        pub room' : number + 1 + length after ≤ length bytes
        room' = let four = line_length line spelled h in let len = ap length e ∙ length-append spelled after in let r = so.room in omega arith

        count' : number + 1 ≡ length (so.lines ++ line ∷ [])
        count' = let len = length-append so.lines (line ∷ []) in let c = so.count in omega arith

        goes' : (others : List LineText) → run step 0 start ((so.lines ++ line ∷ []) ++ others) ≡ going (step number s line) (λ next. run step (number + 1) next others) others (number + 1)
        goes' others = ap (run step 0 start) (append_assoc so.lines (line ∷ []) others) ∙ so.goes (line ∷ others)

        alone : run step 0 start (so.lines ++ line ∷ []) ≡ going (step number s line) (λ next. run step (number + 1) next []) [] (number + 1)
        alone = ap (run step 0 start) (sym (append-nil (so.lines ++ line ∷ []))) ∙ goes' []

        pub on_more : (t : S) → step number s line ≡ Ok (onward t) → SoFar bytes after (number + 1) t
        on_more t is = record {
          lines = so.lines ++ line ∷ [];
          begins = begins';
          count = count';
          room = room';
          goes = λ others. goes' others ∙ ap (λ r. going r (λ next. run step (number + 1) next others) others (number + 1)) is;
        }

        ended : (m : M) → step number s line ≡ Ok (complete m) → run step 0 start (so.lines ++ line ∷ []) ≡ Ok m
        ended m is = alone ∙ ap (λ r. going r (λ next. run step (number + 1) next []) [] (number + 1)) is

        pub on_done : (m : M) → step number s line ≡ Ok (complete m) → after ≡ [] → IsSpelledBy (GivenBy step start) m bytes
        on_done m is none =
            let b = begins' in
            (so.lines ++ line ∷ [], subst (λ t. IsLines (so.lines ++ line ∷ []) t) (sym (b.whole ∙ ap (λ t. b.front ++ t) none ∙ append-nil b.front)) b.each, ended m is)

        pub on_behind : (m : M) → step number s line ≡ Ok (complete m) → after ≢ [] → FirstFault step start bytes (BadRecord (number + 1))
        on_behind m is some = byte_behind (so.lines ++ line ∷ []) after m begins' (ended m is) some (ap BadRecord count')

        module _ (line_faults : (number : ℕ) (state : S) (line : LineText) → IsOwnFault (step number state line)) where
          on_fault : (f : PktFault) → step number s line ≡ Err f → FirstFault step start bytes f
          on_fault f is =
              wrong_line so.lines line after begins' unfinished
              (alone ∙ ap (λ r. going r (λ next. run step (number + 1) next []) [] (number + 1)) is)
              (subst IsOwnFault is (line_faults number s line))

          pub on_error : {X : Type 0} (view : X → Stepped S M) (e : PktError) → Gives view (Err e) (step number s line) → Refuses step start bytes e
          on_error view Memory g = tt
          on_error view (Refused f) g = on_fault f g
