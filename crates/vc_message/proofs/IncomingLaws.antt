-- A message from a reader, line by line: for the loop that takes it.
use Rattle.std.proofs.Common.{◌≡◌, ◌≢◌, ℕ, ◌+◌, ◌-◌, List, [], ◌∷◌, ◌++◌, length, Result, Ok, Err, refl, ap, sym, ◌∙◌, subst, arith, append_assoc, length-append, ◌⊎◌, inl, inr}
use Rattle.std.specs.Prelude.{Option}
use Rattle.std.specs.Io.KnownBytes.{Consumes, IsAtEnd}
use Rattle.std.proofs.KnownBytes.{Consumes-nil, Consumes-trans}
use Rattle.std.proofs.lemmas.List.{append-nil}
use Rattle.vc_object.proofs.Texts.{agreeing}
use Rattle.vc_pkt.specs.Faults.{FaultAt}
use Rattle.vc_pkt.specs.Line.{LineText, IsLine, IsLines, IsPart, short, begun}
use Rattle.vc_pkt.specs.Message.{Stepped, onward, complete, Steps, going, run, IsOwnFault, GivenBy, cut}
use Rattle.vc_pkt.specs.StepView.{Gives}
use Rattle.vc_pkt.specs.declared.fault.PktFault.{PktFault}
use Rattle.vc_pkt.specs.declared.fault.PktFault.TheVariants.{BadLength, BadRecord, CutMessage, SizeMismatch, TooLarge, TooMany}
use Rattle.vc_pkt.specs.declared.fault.PktError.{PktError}
use Rattle.vc_pkt.specs.declared.fault.PktError.TheVariants as errors
use Rattle.vc_pkt.proofs.LineLaws.{line_no_bad, line_no_part, line_once, part_no_bad}
use Rattle.vc_pkt.proofs.MessageLaws.{SoFar, at_start, not_cut, on_done, on_error, on_more, on_no_line}
use Rattle.vc_message.specs.Incoming.{IsBegun, IsLineOf, whole, wrong, ended, IsLoss, IsWithinLine, Takes, TakesFault, TakesText, TakesWithinLine, Fails}
use Rattle.vc_message.specs.IncomingFault.{of_pkt}
use Rattle.vc_message.specs.declared.incoming_fault.IncomingFault.{IncomingFault}
use Rattle.vc_message.specs.declared.incoming_fault.IncomingFault.TheVariants.{Failed, Memory, Unread}

no_length : (xs : List ℕ) → length xs ≡ 0 → xs ≡ []
no_length [] e = refl
no_length (x ∷ xs) e = absurd (omega (arith, e))

-- the bytes of a line are that line
pub line_here : (new : Option (List ℕ)) (line : LineText) (read spelled more : List ℕ) → IsLineOf new read → IsLine line spelled → read ≡ spelled ++ more → IsLine line read
line_here new line read spelled more (whole other is) h e =
    subst (λ t. IsLine line t) (line_once line other spelled read more [] h is (sym e ∙ sym (append-nil read))).1 h
line_here new line read spelled more (wrong bad) h e = absurd (line_no_bad line spelled more read h e bad)
line_here new line read spelled more (ended part end) h e = absurd (line_no_part line spelled more read h e part)

-- a line is no fault
pub line_has_no_fault : (line : LineText) (bytes read : List ℕ) (fault : PktFault) → IsLine line bytes → read ≡ bytes → FaultAt 0 read fault → ⊥
line_has_no_fault line bytes read CutMessage is same part = line_no_part line bytes [] read is (same ∙ sym (append-nil bytes)) part
line_has_no_fault line bytes read (BadLength place) is same (at, bad) = line_no_bad line bytes [] read is (same ∙ sym (append-nil bytes)) bad
line_has_no_fault line bytes read (BadRecord place) is same none = none
line_has_no_fault line bytes read SizeMismatch is same none = none
line_has_no_fault line bytes read TooMany is same none = none
line_has_no_fault line bytes read TooLarge is same none = none

-- in a buffer that was empty, what was read is all
pub in_empty : (before read now : List ℕ) → before ≡ [] → now ≡ before ++ read → now ≡ read
in_empty before read now none e = e ∙ ap (λ t. t ++ read) none

-- the place behind what was read
pub end_is : (place end len : ℕ) (now read : List ℕ) → end ≡ place + len → len ≡ length now → now ≡ read → end ≡ place + length read
end_is place end len now read e long same = e ∙ ap (λ n. place + n) (long ∙ ap length same)

-- where less than a line was read, the reader has no more
at_end : (new : Option (List ℕ)) (read : List ℕ) → IsLineOf new read → IsPart read → IsAtEnd new
at_end new read (whole line is) part = absurd (line_no_part line read [] read is (sym (append-nil read)) part)
at_end new read (wrong bad) part = absurd (part_no_bad read part bad)
at_end new read (ended less end) part = end

-- a step that was taken is the one that was met
pub step_is : {X Y : Type 0} (view : X → Y) (read : Result Y PktFault) (x y : X) → read ≡ Ok (view x) → x ≡ y → read ≡ Ok (view y)
step_is view read x y e is = e ∙ ap (λ s. Ok (view s)) is

module _ {S M : Type 0} (step : Steps S M) (line_faults : (number : ℕ) (state : S) (line : LineText) → IsOwnFault (step number state line)) where
  -- the bytes are lines that more must follow, and less than a line
  record Cut (number : ℕ) (s : S) (bytes : List ℕ) : Type 0 where
    lines : List LineText
    front : List ℕ
    rest : List ℕ
    each : IsLines lines front
    is : bytes ≡ front ++ rest
    goes : run step number s lines ≡ Err CutMessage
    part : IsPart rest

  at_once : (number : ℕ) (s : S) (bytes : List ℕ) → IsPart bytes → Cut number s bytes
  at_once number s bytes part = record { lines = []; front = []; rest = bytes; each = refl; is = refl; goes = refl; part = part }

  behind_line : (number : ℕ) (s t : S) (line : LineText) (first more : List ℕ) → IsLine line first → step number s line ≡ Ok (onward t) → Cut (number + 1) t more → Cut number s (first ++ more)
  behind_line number s t line first more h e c = record {
    lines = line ∷ c.lines;
    front = first ++ c.front;
    rest = c.rest;
    each = (first, c.front, h, c.each, refl);
    is = ap (λ r. first ++ r) c.is ∙ sym (append_assoc first c.front c.rest);
    goes = ap (λ r. going r (λ next. run step (number + 1) next c.lines) c.lines (number + 1)) e ∙ c.goes;
    part = c.part;
  }

  module _ (number : ℕ) (s t : S) (line : LineText) (first behind a b : List ℕ) (h : IsLine line first) (is : step number s line ≡ Ok (onward t)) (next : (z : List ℕ) → behind ≡ z ++ b → Cut (number + 1) t z) where
    within_first : ((z : List ℕ) × (a ≡ first ++ z) × (behind ≡ z ++ b)) ⊎ ((z : List ℕ) × (first ≡ a ++ z) × (b ≡ z ++ behind)) → Cut number s a
    within_first (inl (z, e, r)) = subst (λ c. Cut number s c) (sym e) (behind_line number s t line first z h is (next z r))
    within_first (inr ([], e, r)) =
        subst (λ c. Cut number s c) (append-nil first ∙ e ∙ append-nil a) (behind_line number s t line first [] h is (next [] (sym r)))
    within_first (inr (z ∷ zs, e, r)) = at_once number s a (begun line (z ∷ zs) (λ n. cc n) (subst (λ c. IsLine line c) e h))

  own_fault : (f : PktFault) → IsOwnFault {X = Stepped S M} (Err f) → ◌≡◌ {A = Result M PktFault} (Err f) (Err CutMessage) → ⊥
  own_fault f own e = not_cut step f own (cc e)

  module _ (number : ℕ) (s : S) (line : LineText) (ls : List LineText) (first behind a b : List ℕ) (h : IsLine line first) (e : first ++ behind ≡ a ++ b)
      (next : (t : S) (z : List ℕ) → run step (number + 1) t ls ≡ Err CutMessage → behind ≡ z ++ b → Cut (number + 1) t z) where
    by_step : (r : Result (Stepped S M) PktFault) → step number s line ≡ r → going r (λ t. run step (number + 1) t ls) ls (number + 1) ≡ Err CutMessage → Cut number s a
    by_step (Err f) is goes = absurd (own_fault f (subst IsOwnFault is (line_faults number s line)) goes)
    by_step (Ok (onward t)) is goes = within_first number s t line first behind a b h is (λ z r. next t z goes r) (agreeing a first b behind (sym e))
    by_step (Ok (complete m)) is goes = absurd (ends ls goes)
      where
        ends : (ls : List LineText) → going {S = S} (Ok (complete m)) (λ t. run step (number + 1) t ls) ls (number + 1) ≡ Err CutMessage → ⊥
        ends [] goes = cc goes
        ends (k ∷ ks) goes = cc goes

  -- each proper beginning of lines that more must follow, and of a part of the next line, is cut
  cut_before : (lines : List LineText) (number : ℕ) (s : S) (front read a b : List ℕ) → IsLines lines front → IsWithinLine read → run step number s lines ≡ Err CutMessage → front ++ read ≡ a ++ b → b ≢ [] → Cut number s a
  cut_before [] number s front read a b each within goes e some = at_once number s a (within a b (ap (λ t. t ++ read) (sym each) ∙ e) some)
  cut_before (l ∷ ls) number s front read a b (first, more, h, others, is) within goes e some =
      by_step number s l ls first (more ++ read) a b h (sym (append_assoc first more read) ∙ ap (λ t. t ++ read) (sym is) ∙ e)
      (λ t z on r. cut_before ls (number + 1) t more read z b others within on r some)
      (step number s l) refl goes

  module _ (start : S) where
    -- the bytes that were taken are lines, which lead to the state
    pub record TakenSoFar (old now : Option (List ℕ)) (place number : ℕ) (s : S) : Type 0 where
      pub bytes : List ℕ
      pub here : place ≡ length bytes
      pub so : SoFar step start bytes [] number s
      pub consumed : Consumes old now bytes

    pub none_taken : (old : Option (List ℕ)) (s : S) → s ≡ start → TakenSoFar old old 0 0 s
    none_taken old s is = subst (λ t. TakenSoFar old old 0 0 t) (sym is) (record { bytes = []; here = refl; so = at_start step start []; consumed = Consumes-nil old })

    widened : (bytes read : List ℕ) (number : ℕ) (s : S) → SoFar step start bytes [] number s → SoFar step start (bytes ++ read) read number s
    widened bytes read number s so = record {
      lines = so.lines;
      begins = record { front = so.begins.front; each = so.begins.each; whole = ap (λ t. t ++ read) (so.begins.whole ∙ append-nil so.begins.front) };
      count = so.count;
      room = (let r = so.room in let len = length-append bytes read in omega (arith, r, len));
      goes = so.goes;
    }

    needed : (bytes read : List ℕ) (number : ℕ) (s : S) → SoFar step start bytes [] number s → IsWithinLine read → (front more : List ℕ) → bytes ++ read ≡ front ++ more → more ≢ [] → IsBegun step start front
    needed bytes read number s so within front more e some =
        let goes = ap (run step 0 start) (sym (append-nil so.lines)) ∙ so.goes [] in
        let c = cut_before so.lines 0 start so.begins.front read front more so.begins.each within goes (ap (λ t. t ++ read) (sym (so.begins.whole ∙ append-nil so.begins.front)) ∙ e) some in
        cut c.lines c.rest (record { front = c.front; each = c.each; whole = c.is }) c.goes c.part refl

    module _ (old now new : Option (List ℕ)) (read : List ℕ) (place number : ℕ) (s : S) (so : TakenSoFar old now place number s) (took : TakesWithinLine now new read) where
      abbrev all : List ℕ
      all = so.bytes ++ read

      takes_more : Takes step start old new all
      takes_more = record { consumed = Consumes-trans old now new so.bytes read so.consumed took.0; needed = needed so.bytes read number s so.so took.1 }

      -- the reader failed, or memory was short
      pub on_loss : (e : IncomingFault) → IsLoss e → Fails step start old new e
      on_loss Memory lost = (all, takes_more)
      on_loss Failed lost = (all, takes_more)
      on_loss (Unread f) lost = absurd lost

      there : SoFar step start all read number s
      there = widened so.bytes read number s so.so

      long : length all ≡ place + length read
      long = length-append so.bytes read ∙ ap (λ n. n + length read) (sym so.here)

      module _ (line : IsLineOf new read) where
        -- nothing came
        pub on_nothing : place + length read ≡ 0 → Consumes old new [] × IsAtEnd new
        on_nothing none =
            let empty = no_length all (long ∙ none) in
            (subst (λ t. Consumes old new t) empty takes_more.consumed, at_end new read line (short (omega (arith, none))))

        module _ (some : place + length read ≢ 0) where
          some_bytes : all ≢ []
          some_bytes none = some (sym long ∙ ap length none)

          -- what came is no line
          pub on_no_line_read : (f : PktFault) → FaultAt place read f → TakesFault step start old new f
          on_no_line_read f h =
              let same : place ≡ length all - length read = omega (arith, long) in
              record {
                bytes = all;
                taken = takes_more;
                some = some_bytes;
                first = on_no_line step start all read number s there f (subst (λ n. FaultAt n read f) same h);
                end = λ e. at_end new read line (subst (λ g. FaultAt place read g) e h);
              }

          module _ (l : LineText) (h : IsLine l read) where
            whole_line : read ≡ read ++ []
            whole_line = sym (append-nil read)

            -- the line is refused, or memory is short
            pub on_refusal : {X : Type 0} (view : X → Stepped S M) (e : PktError) → Gives view (Err e) (step number s l) → Fails step start old new (of_pkt e)
            on_refusal view errors.Memory g = (all, takes_more)
            on_refusal view (errors.Refused f) g = record {
              bytes = all;
              taken = takes_more;
              some = some_bytes;
              first = on_error step start all read number s there l read [] h whole_line line_faults view (errors.Refused f) g;
              end = λ e. absurd (not_cut step f (subst IsOwnFault g (line_faults number s l)) e);
            }

            -- the message is whole
            pub on_last : (m : M) → step number s l ≡ Ok (complete m) → TakesText step start (GivenBy step start) old new m
            on_last m e = (all, takes_more, on_done step start all read number s there l read [] h whole_line m e refl)

            -- more lines are to come
            pub on_next : (t : S) → step number s l ≡ Ok (onward t) → TakenSoFar old new (place + length read) (number + 1) t
            on_next t e = record { bytes = all; here = sym long; so = on_more step start all read number s there l read [] h whole_line t e; consumed = takes_more.consumed }
