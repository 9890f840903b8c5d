-- For the lines of answers: what a message is read as, and one more line.
use Rattle.std.proofs.Common.{◌≡◌, ◌<◌, ◌+◌, ◌++◌, ◌∷◌, [], ℕ, List, refl, sym, ap, ◌∙◌, subst, length, take, get_or}
use Rattle.std.specs.Prelude.{Result, Ok, Err}
use Rattle.std.proofs.lemmas.List.{append_assoc, take_more}
use Rattle.vc_events.specs.declared.answers.Answer.{Answer}
use Rattle.vc_events.specs.declared.letters.Letter.{Letter}
use Rattle.vc_message.specs.AnyMessage.{MessageText}
use Rattle.vc_message.specs.AnyView.{message_text}
use Rattle.vc_pkt.specs.StepView.{Gives}
use Rattle.vc_pkt.specs.declared.fault.PktError.{PktError}
use Rattle.vc_pkt.specs.declared.fault.PktError.TheVariants.{Refused}
use Rattle.vc_pkt.specs.declared.fault.PktFault.{PktFault}
use Rattle.vc_script.specs.Printing.{AddsLine, AddsLines, AreLines, AreWords, objects_words}

-- what was read is the message
abbrev IsReadAs : Result MessageText PktFault → MessageText → Type 0
IsReadAs r message = Ok message ≡ r

pub read_words : (read message : MessageText) (words : List ℕ) → IsReadAs (Ok read) message → words ≡ objects_words read → words ≡ objects_words message
read_words read message words same is =
    let h : message ≡ read = cc in
    is ∙ sym (ap objects_words h)

-- a message is not refused
refused_no_message : (X : Type 0) (message : MessageText) (fault : PktFault) → IsReadAs (Err fault) message → X
refused_no_message X message fault e = cc

pub no_refusal : (X : Type 0) (message : MessageText) (error : PktError) (fault : PktFault) → error ≡ Refused fault → Gives message_text (Err error) (Ok message) → X
no_refusal X message error fault is given = refused_no_message X message fault (subst (λ e. Gives message_text (Err e) (Ok message)) is given)

-- a line after the others
one_behind : (letters : List Letter) (answers : List Answer) (a : Answer) (added words : List ℕ) → AreLines letters answers added → AreWords letters a words → AreLines letters (answers ++ a ∷ []) (added ++ (words ++ 10 ∷ []))
one_behind letters [] a added words lines is = (words, [], is, refl, ap (λ (front : List ℕ). front ++ (words ++ 10 ∷ [])) lines)
one_behind letters (b ∷ answers) a added words (first, others, is_first, is_others, spelled) is =
    (first, others ++ (words ++ 10 ∷ []), is_first, one_behind letters answers a others words is_others is, ap (λ (front : List ℕ). front ++ (words ++ 10 ∷ [])) spelled ∙ append_assoc first (10 ∷ others) (words ++ 10 ∷ []))

-- the line of the next answer
pub one_line_more : (letters : List Letter) (answers : List Answer) (i : ℕ) (a : Answer) (old text new : List ℕ) → i < length answers → a ≡ get_or answers i a → AddsLines letters (take i answers) old text → AddsLine letters a text new → AddsLines letters (take (i + 1) answers) old new
one_line_more letters answers i a old text new within is (added, lines, grown) (words, are_words, more) =
    let lines_more = one_behind letters (take i answers) a added words lines are_words in
    let front : take i answers ++ a ∷ [] ≡ take (i + 1) answers = ap (λ b. take i answers ++ b ∷ []) is ∙ sym (take_more answers i a within) in
    (added ++ (words ++ 10 ∷ []), subst (λ answered. AreLines letters answered (added ++ (words ++ 10 ∷ []))) front lines_more, more ∙ ap (λ (front : List ℕ). front ++ (words ++ 10 ∷ [])) grown ∙ append_assoc old added (words ++ 10 ∷ []))
