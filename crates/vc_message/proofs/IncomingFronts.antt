-- What is taken of a reader whose bytes are known: the message that is first of them, or their first fault.
use Rattle.std.proofs.Common.{◌≡◌, ℕ, List, [], ◌∷◌, ◌++◌, length, Option, Some, None, Result, Ok, Err, refl, ap, sym, ◌∙◌, subst, arith, append_assoc, ◌⊎◌, inl, inr}
use Rattle.std.specs.Prelude.{IfOk, IfErr, IfSome, IfNone}
use Rattle.std.proofs.lemmas.List.{append-nil}
use Rattle.vc_object.proofs.Texts.{agreeing}
use Rattle.vc_pkt.specs.Line.{LineText, IsLines, short}
use Rattle.vc_pkt.specs.Message.{Steps, Begins, IsSpelledBy, GivenBy, FirstFault, cut, bad_length, wrong_line, byte_behind}
use Rattle.vc_pkt.specs.declared.fault.PktFault.{PktFault}
use Rattle.vc_pkt.specs.declared.fault.PktFault.TheVariants.{BadLength, BadRecord, CutMessage, SizeMismatch, TooLarge, TooMany}
use Rattle.vc_pkt.proofs.FaultLaws.{no_fault, one_message}
use Rattle.vc_pkt.proofs.LineLaws.{bad_more}
use Rattle.vc_model.specs.Message.{Message as Sent}
use Rattle.vc_message.specs.AnyMessage.{MessageText, any_step, beginning}
use Rattle.vc_message.specs.AnyView.{message_text}
use Rattle.vc_message.specs.Incoming.{Fails, GivesMessage, IsFaultOf, Takes, TakesFault, TakesMessage, TakesNothing, TakesText}
use Rattle.vc_message.specs.Machine.{Reads, TextOf}
use Rattle.vc_message.specs.declared.incoming_fault.IncomingFault.{IncomingFault}
use Rattle.vc_message.specs.declared.incoming_fault.IncomingFault.TheVariants.{Failed, Memory, Unread}
use Rattle.vc_message.specs.declared.message.Message.{Message}
use Rattle.vc_message.proofs.AnyLaws.{any_given, any_spelled}
use Rattle.vc_message.proofs.MachineTexts.{text_is}

nil_left : (x y : List ℕ) → x ++ y ≡ [] → x ≡ []
nil_left [] y e = refl
nil_left (b ∷ x) y e = cc e

abbrev IsCut : PktFault → Type 0
IsCut f = (f ≡ CutMessage) ⊎ (f ≡ CutMessage → ⊥)

is_cut : (f : PktFault) → IsCut f
is_cut CutMessage = inl refl
is_cut (BadLength place) = inr (λ e. cc e)
is_cut (BadRecord place) = inr (λ e. cc e)
is_cut SizeMismatch = inr (λ e. cc e)
is_cut TooMany = inr (λ e. cc e)
is_cut TooLarge = inr (λ e. cc e)

module _ {S M : Type 0} (step : Steps S M) (start : S) where
  abbrev longer : (bytes rest more : List ℕ) (lines : List LineText) → Begins bytes lines rest → Begins (bytes ++ more) lines (rest ++ more)
  longer bytes rest more lines b = record { front = b.front; each = b.each; whole = ap (λ t. t ++ more) b.whole ∙ append_assoc b.front rest more }

  -- a fault stays, whatever follows, unless it is the end of the bytes
  fault_stays : (bytes more : List ℕ) (f : PktFault) → (f ≡ CutMessage → ⊥) → FirstFault step start bytes f → FirstFault step start (bytes ++ more) f
  fault_stays bytes more f other (cut lines rest b u part is) = absurd (other is)
  fault_stays bytes more f other (bad_length lines rest b u bad is) = bad_length lines (rest ++ more) (longer bytes rest more lines b) u (bad_more rest more bad) is
  fault_stays bytes more f other (wrong_line lines line rest b u w own) = wrong_line lines line (rest ++ more) (longer bytes rest more (lines ++ line ∷ []) b) u w own
  fault_stays bytes more f other (byte_behind lines rest m b given some is) =
      byte_behind lines (rest ++ more) m (longer bytes rest more lines b) given (λ e. some (nil_left rest more e)) is

  -- what is taken has the first fault of all that the reader has
  by_cut : (bytes taken left : List ℕ) (f : PktFault) → IsCut f → bytes ≡ taken ++ left → (f ≡ CutMessage → left ≡ []) → FirstFault step start taken f → FirstFault step start bytes f
  by_cut bytes taken left f (inl is) e end first = subst (λ t. FirstFault step start t f) (sym (e ∙ ap (λ t. taken ++ t) (end is) ∙ append-nil taken)) first
  by_cut bytes taken left f (inr other) e end first = subst (λ t. FirstFault step start t f) (sym e) (fault_stays taken left f other first)

  pub known_fault : (bytes : List ℕ) (new : Option (List ℕ)) (f : PktFault) → TakesFault step start (Some bytes) new f → FirstFault step start bytes f
  known_fault bytes None f t = absurd t.taken.consumed
  known_fault bytes (Some left) f t = by_cut bytes t.bytes left f (is_cut f) t.taken.consumed t.end t.first

  -- a message is first of the bytes
  module _ (bytes rest : List ℕ) (message : M) (lines : List LineText) (each : IsLines lines bytes) (given : GivenBy step start message lines) where
    never : (f : PktFault) → FirstFault step start bytes f → ⊥
    never f first = no_fault step start bytes message lines each given f first

    abbrev Apart : List ℕ → List ℕ → Type 0
    Apart taken left = ((z : List ℕ) × (taken ≡ bytes ++ z) × (rest ≡ z ++ left)) ⊎ ((z : List ℕ) × (bytes ≡ taken ++ z) × (left ≡ z ++ rest))

    fault_apart : (taken left : List ℕ) (f : PktFault) → IsCut f → Takes step start (Some (bytes ++ rest)) (Some left) taken → (f ≡ CutMessage → left ≡ []) → FirstFault step start taken f → Apart taken left → ⊥
    fault_apart taken left f either t end first (inl ([], e, r)) = never f (subst (λ b. FirstFault step start b f) (e ∙ append-nil bytes) first)
    fault_apart taken left f either t end first (inl (z ∷ zs, e, r)) = never CutMessage (t.needed bytes (z ∷ zs) e (λ n. cc n))
    fault_apart taken left f either t end first (inr (z, e, r)) = never f (by_cut bytes taken z f either e (λ is. nil_left z rest (sym r ∙ end is)) first)

    pub no_fault_taken : (new : Option (List ℕ)) (f : PktFault) → TakesFault step start (Some (bytes ++ rest)) new f → ⊥
    no_fault_taken None f t = t.taken.consumed
    no_fault_taken (Some left) f t = fault_apart t.bytes left f (is_cut f) t.taken t.end t.first (agreeing t.bytes bytes left rest (sym t.taken.consumed))

    pub not_nothing : (new : Option (List ℕ)) → TakesNothing (Some (bytes ++ rest)) new → ⊥
    not_nothing None t = t.0
    not_nothing (Some left) t =
        let none = nil_left bytes rest (t.0 ∙ t.1) in
        never CutMessage (cut [] bytes (record { front = []; each = refl; whole = refl }) refl (short (let len = ap length none in omega (arith, len))) refl)

    message_apart : (taken left : List ℕ) (other : M) (ls : List LineText) → IsLines ls taken → GivenBy step start other ls → Takes step start (Some (bytes ++ rest)) (Some left) taken → Apart taken left
        → (taken ≡ bytes) × (◌≡◌ {A = Option (List ℕ)} (Some left) (Some rest))
    message_apart taken left other ls all gives t (inl ([], e, r)) = (e ∙ append-nil bytes, ap Some (sym r))
    message_apart taken left other ls all gives t (inl (z ∷ zs, e, r)) = absurd (never CutMessage (t.needed bytes (z ∷ zs) e (λ n. cc n)))
    message_apart taken left other ls all gives t (inr ([], e, r)) = (sym (e ∙ append-nil taken), ap Some r)
    message_apart taken left other ls all gives t (inr (z ∷ zs, e, r)) =
        absurd (never (BadRecord (length ls)) (byte_behind ls (z ∷ zs) other (record { front = taken; each = all; whole = e }) gives (λ n. cc n) refl))

    pub one_message_taken : (new : Option (List ℕ)) (taken : List ℕ) (other : M) → Takes step start (Some (bytes ++ rest)) new taken → IsSpelledBy (GivenBy step start) other taken → (taken ≡ bytes) × (new ≡ Some rest)
    one_message_taken None taken other t s = absurd t.consumed
    one_message_taken (Some left) taken other t (ls, all, gives) = message_apart taken left other ls all gives t (agreeing taken bytes left rest (sym t.consumed))

-- ---- any kind
abbrev Answer : Type 0
Answer = Result (Option Message) IncomingFault

-- what the lines give
abbrev TakesGiven : Option (List ℕ) → Option (List ℕ) → Answer → Type 0
TakesGiven old new r = IfOk r (λ taken. IfSome taken (λ message. TakesText any_step beginning (GivenBy any_step beginning) old new (message_text message)))

-- bytes that are given by lines of a message are a message of the machine
pub taken_as : (old new : Option (List ℕ)) (t : MessageText) → TakesText any_step beginning (GivenBy any_step beginning) old new t → TakesMessage old new t
taken_as old new t (bytes, taken, (lines, each, e)) =
    let s = any_spelled t lines e in
    ((bytes, taken, (lines, each, s)), text_is t lines s)

module _ (old new : Option (List ℕ)) where
  pub message_taken : (r : Answer) → TakesGiven old new r → IfOk r (λ taken. IfSome taken (λ message. TakesMessage old new (message_text message)))
  message_taken (Ok (Some message)) h = taken_as old new (message_text message) h
  message_taken (Ok None) h = tt
  message_taken (Err e) h = tt

  pub fault_known : (r : Answer) → IfErr r (Fails any_step beginning old new) → IfErr r (IsFaultOf old)
  fault_known (Ok taken) h = tt
  fault_known (Err e) h = by old e h
    where
      by : (before : Option (List ℕ)) (e : IncomingFault) → Fails any_step beginning before new e → IsFaultOf before e
      by None e h = tt
      by (Some bytes) (Unread f) h = known_fault any_step beginning bytes new f h
      by (Some bytes) Failed h = tt
      by (Some bytes) Memory h = tt

module _ (new : Option (List ℕ)) (bytes rest : List ℕ) (m : Sent) (reads : Reads bytes m) where
  gives_lines : IsSpelledBy (GivenBy any_step beginning) reads.text bytes
  gives_lines = let s = reads.spelled in (s.0, s.1, any_given reads.text s.0 s.2)

  -- what is taken is the text that the bytes spell
  given_text : (t : MessageText) → TakesText any_step beginning (GivenBy any_step beginning) (Some (bytes ++ rest)) new t → TextOf m t × (new ≡ Some rest)
  given_text t (taken, takes, given) =
      let g = gives_lines in
      let end = one_message_taken any_step beginning bytes rest reads.text g.0 g.1 g.2 new taken t takes given in
      let same = one_message any_step beginning bytes reads.text g.0 g.1 g.2 t (subst (λ b. IsSpelledBy (GivenBy any_step beginning) t b) end.0 given) in
      (subst (λ x. TextOf m x) same reads.is, end.1)

  by_answer : (r : Answer) → TakesGiven (Some (bytes ++ rest)) new r → IfOk r (λ taken. IfNone taken (TakesNothing (Some (bytes ++ rest)) new)) → IfErr r (Fails any_step beginning (Some (bytes ++ rest)) new)
      → GivesMessage m rest new r
  by_answer (Ok (Some message)) h none fault = given_text (message_text message) h
  by_answer (Ok None) h none fault = let g = gives_lines in not_nothing any_step beginning bytes rest reads.text g.0 g.1 g.2 new none
  by_answer (Err (Unread f)) h none fault = let g = gives_lines in absurd (no_fault_taken any_step beginning bytes rest reads.text g.0 g.1 g.2 new f fault)
  by_answer (Err Failed) h none fault = tt
  by_answer (Err Memory) h none fault = tt

  pub known_message : (old : Option (List ℕ)) (r : Answer) → old ≡ Some (bytes ++ rest)
      → TakesGiven old new r → IfOk r (λ taken. IfNone taken (TakesNothing old new)) → IfErr r (Fails any_step beginning old new) → GivesMessage m rest new r
  known_message old r is h none fault =
      by_answer r
      (subst (λ o. TakesGiven o new r) is h)
      (subst (λ o. IfOk r (λ taken. IfNone taken (TakesNothing o new))) is none)
      (subst (λ o. IfErr r (Fails any_step beginning o new)) is fault)
