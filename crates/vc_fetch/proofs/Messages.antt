-- What the lines of a list and of an error message give is what they spell.
use Rattle.std.proofs.Common.{◌≡◌, ℕ, Bool, true, false, cond, List, [], ◌∷◌, ◌++◌, Option, Some, None, Result, Ok, Err, refl, ap, ◌∙◌}
use Rattle.std.specs.Prelude.{codes}
use Rattle.std.specs.Str.{bytes_eq}
use Rattle.std.proofs.lemmas.Slice.Eq.{bytes_eq-Decides}
use Rattle.vc_object.specs.Lines.{after_word}
use Rattle.vc_object.proofs.LineTexts.{after_word_some, after_word_again}
use Rattle.vc_pkt.specs.Line.{LineText, flush, text}
use Rattle.vc_pkt.specs.TextLine.{without_lf}
use Rattle.vc_pkt.specs.Message.{Stepped, onward, complete, going, run, GivenBy}
use Rattle.vc_pkt.specs.declared.fault.PktFault.{PktFault}
use Rattle.vc_pkt.specs.declared.fault.PktFault.TheVariants.{BadRecord}
use Rattle.vc_pkt.proofs.StreamLaws.{ok_same}
use Rattle.vc_fetch.specs.ListMessage.{ListText, list, SpellsList, list_step}
use Rattle.vc_fetch.specs.ErrorMessage.{SpellsError, error_of, error_step}

-- ---- List
abbrev worded_or : Bool → Result (Stepped Bool ListText) PktFault
worded_or b = cond b (Ok (onward true)) (Err (BadRecord 0))

list_end : (m : ListText) (rest : List LineText) → run list_step 1 true rest ≡ Ok m → rest ≡ flush ∷ []
list_end m [] e = absurd (cc e)
list_end m (flush ∷ []) e = refl
list_end m (flush ∷ l ∷ ls) e = absurd (cc e)
list_end m (text t ∷ ls) e = absurd (cc e)

list_first : (m : ListText) (line : List ℕ) (rest : List LineText) (b : Bool) → bytes_eq (without_lf line) (codes "list") ≡ b → going (worded_or b) (λ t. run list_step 1 t rest) rest 1 ≡ Ok m → SpellsList m (text line ∷ rest)
list_first m line rest true is e = record { first = line; word = (bytes_eq-Decides (without_lf line) (codes "list")).0 is; whole = ap (λ t. text line ∷ t) (list_end m rest e) }
list_first m line rest false is e = absurd (cc e)

pub list_spelled : (m : ListText) (lines : List LineText) → GivenBy list_step false m lines → SpellsList m lines
list_spelled m [] e = absurd (cc e)
list_spelled m (flush ∷ ls) e = absurd (cc e)
list_spelled m (text line ∷ rest) e = list_first m line rest (bytes_eq (without_lf line) (codes "list")) refl e

one_list : (m : ListText) → list ≡ m
one_list list = refl

pub list_given : (m : ListText) (lines : List LineText) → SpellsList m lines → GivenBy list_step false m lines
list_given m lines s =
    let is = (bytes_eq-Decides (without_lf s.first) (codes "list")).1 s.word in
    ap (run list_step 0 false) s.whole ∙ ap (λ b. going (worded_or b) (λ t. run list_step 1 t (flush ∷ [])) (flush ∷ []) 1) is ∙ ap Ok (one_list m)

-- ---- Error
error_end : (words found : List ℕ) (k : Unit {0} → Result (List ℕ) PktFault) (rest : List LineText) → going (Ok (complete found)) k rest 1 ≡ Ok words → (rest ≡ []) × (found ≡ words)
error_end words found k [] e = (refl, ok_same found words e)
error_end words found k (l ∷ ls) e = absurd (cc e)

error_first : (words line : List ℕ) (rest : List LineText) (o : Option (List ℕ)) → after_word (codes "ERR ") (without_lf line) ≡ o → going (error_of 0 o) (λ t. run error_step 1 t rest) rest 1 ≡ Ok words → SpellsError words (text line ∷ rest)
error_first words line rest (Some found) is e =
    let d = error_end words found (λ t. run error_step 1 t rest) rest e in
    record { first = line; spelled = after_word_some (codes "ERR ") (without_lf line) found is ∙ ap (λ t. codes "ERR " ++ t) d.1; whole = ap (λ t. text line ∷ t) d.0 }
error_first words line rest None is e = absurd (cc e)

pub error_spelled : (words : List ℕ) (lines : List LineText) → GivenBy error_step tt words lines → SpellsError words lines
error_spelled words [] e = absurd (cc e)
error_spelled words (flush ∷ ls) e = absurd (cc e)
error_spelled words (text line ∷ rest) e = error_first words line rest (after_word (codes "ERR ") (without_lf line)) refl e

pub error_given : (words : List ℕ) (lines : List LineText) → SpellsError words lines → GivenBy error_step tt words lines
error_given words lines s =
    ap (run error_step 0 tt) s.whole
    ∙ ap (λ t. going (error_of 0 (after_word (codes "ERR ") t)) (λ u. run error_step 1 u []) [] 1) s.spelled
    ∙ ap (λ o. going (error_of 0 o) (λ u. run error_step 1 u []) [] 1) (after_word_again (codes "ERR ") words)
