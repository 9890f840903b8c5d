-- What the lines of a message of any kind give is what they spell: that of the kind which takes the first line.
use Rattle.std.proofs.Common.{◌≡◌, ℕ, ◌+◌, Bool, true, false, List, [], ◌∷◌, Result, Ok, Err, refl, ap, sym, ◌∙◌, subst, arith}
use Rattle.std.specs.List.{flat_map}
use Rattle.std.specs.FinMap.{empty}
use Rattle.hex.specs.Hex.{is_hex_digit}
use Rattle.vc_pkt.specs.Line.{LineText, spelling}
use Rattle.vc_pkt.specs.Message.{Stepped, onward, complete, Steps, going, run, GivenBy, IsSpelledBy}
use Rattle.vc_pkt.specs.declared.fault.PktFault.{PktFault}
use Rattle.vc_pkt.specs.declared.fault.PktFault.TheVariants.{BadRecord}
use Rattle.vc_fetch.specs.Advert.{RefIds, AdvertText, advert_step}
use Rattle.vc_fetch.specs.ErrorMessage.{error_step}
use Rattle.vc_fetch.specs.ListMessage.{ListText, list, list_step}
use Rattle.vc_fetch.specs.Pack.{PackState, PackText, starting, pack_step}
use Rattle.vc_fetch.specs.Want.{WantState, WantText, wanting, want_step}
use Rattle.vc_fetch.proofs.Adverts.{advert_spelled, advert_given}
use Rattle.vc_fetch.proofs.Messages.{list_spelled, list_given, error_spelled, error_given}
use Rattle.vc_fetch.proofs.Packs.{pack_spelled, pack_given}
use Rattle.vc_fetch.proofs.Wants.{want_spelled, want_given}
use Rattle.vc_fetch.proofs.WrittenAdverts.{written_advert}
use Rattle.vc_fetch.proofs.WrittenMessages.{written_list, written_error, written_want, written_pack}
use Rattle.vc_push.specs.Push.{PushState, PushText, commanding, no_commands, push_step}
use Rattle.vc_push.specs.Report.{ReportState, ReportText, unpacking, report_step}
use Rattle.vc_push.proofs.Pushes.{push_spelled, push_given}
use Rattle.vc_push.proofs.Reports.{report_spelled, report_given}
use Rattle.vc_push.proofs.WrittenPushes.{written_push, written_report}
use Rattle.vc_message.specs.AnyMessage.{MessageText, a_list, an_advert, a_want, a_pack, a_push, a_report, an_error, SpellsMessage, IsWrittenMessage, message_lines, AnyState, beginning, in_list, in_advert, in_want, in_pack, in_push, in_report, in_error, Read, lifted, as_list, as_advert, as_want, as_pack, as_push, as_report, as_error, or_next, first_step, any_step}
use Rattle.vc_message.proofs.FirstLines.{list_third, want_third, pack_third, report_third, error_third, push_third, advert_third, push_no_advert, third}
use Rattle.vc_message.specs.Machine.{TextOf, IsWritten}
use Rattle.vc_model.specs.Message.{Message}

-- ---- one kind's messages as messages of any
abbrev mapped : {M : Type 0} → (M → MessageText) → Result M PktFault → Result MessageText PktFault
mapped txt (Ok m) = Ok (txt m)
mapped txt (Err fault) = Err fault

mapped_ok : {M : Type 0} (txt : M → MessageText) (r : Result M PktFault) (t : MessageText) → mapped txt r ≡ Ok t → (m : M) × (r ≡ Ok m) × (txt m ≡ t)
mapped_ok txt (Ok m) t e = (m, refl, cc e)
mapped_ok txt (Err fault) t e = absurd (cc e)

abbrev Next : Type 0
Next = AnyState → Result MessageText PktFault

module _ {S M : Type 0} (step : Steps S M) (state : S → AnyState) (txt : M → MessageText) where
  going_lifted : (r : Result (Stepped S M) PktFault) (lines : List LineText) (n : ℕ) (k : S → Result M PktFault) (next : Next)
      → ((s : S) → next (state s) ≡ mapped txt (k s)) → going (lifted state txt r) next lines n ≡ mapped txt (going r k lines n)
  going_lifted (Err fault) lines n k next h = refl
  going_lifted (Ok (onward s)) lines n k next h = h s
  going_lifted (Ok (complete m)) [] n k next h = refl
  going_lifted (Ok (complete m)) (l ∷ ls) n k next h = refl

  -- where the kind takes the line, it is what the line does
  hit : (r : Result (Stepped S M) PktFault) (x : Stepped S M) (other : Read) → r ≡ Ok x → or_next (lifted state txt r) other ≡ lifted state txt (Ok x)
  hit (Ok (onward s)) x other e = ap (λ q. lifted state txt q) e
  hit (Ok (complete m)) x other e = ap (λ q. lifted state txt q) e
  hit (Err fault) x other e = absurd (cc e)

  -- where it doesn't, the others are asked
  miss : (r : Result (Stepped S M) PktFault) (other : Read) → ((x : Stepped S M) → r ≡ Ok x → ⊥) → or_next (lifted state txt r) other ≡ other
  miss (Ok x) other never = absurd (never x refl)
  miss (Err fault) other never = refl

  module _ (same : (n : ℕ) (s : S) (l : LineText) → any_step n (state s) l ≡ lifted state txt (step n s l)) where
    run_lifted : (lines : List LineText) (n : ℕ) (s : S) → run any_step n (state s) lines ≡ mapped txt (run step n s lines)
    run_lifted [] n s = refl
    run_lifted (l ∷ ls) n s =
        ap (λ r. going r (λ t. run any_step (n + 1) t ls) ls (n + 1)) (same n s l)
        ∙ going_lifted (step n s l) ls (n + 1) (λ t. run step (n + 1) t ls) (λ t. run any_step (n + 1) t ls) (λ t. run_lifted ls (n + 1) t)

    behind : (x : Stepped S M) (ls : List LineText) → going (lifted state txt (Ok x)) (λ t. run any_step 1 t ls) ls 1 ≡ mapped txt (going (Ok x) (λ t. run step 1 t ls) ls 1)
    behind x ls = going_lifted (Ok x) ls 1 (λ t. run step 1 t ls) (λ t. run any_step 1 t ls) (λ t. run_lifted ls 1 t)

    module _ (start : S) where
      given : ((l : LineText) (x : Stepped S M) → step 0 start l ≡ Ok x → first_step 0 l ≡ lifted state txt (Ok x)) → (m : M) (lines : List LineText) → GivenBy step start m lines → GivenBy any_step beginning (txt m) lines
      given takes m [] e = absurd (cc e)
      given takes m (l ∷ ls) e = by (step 0 start l) refl e
        where
          by : (r : Result (Stepped S M) PktFault) → step 0 start l ≡ r → going r (λ t. run step 1 t ls) ls 1 ≡ Ok m → going (first_step 0 l) (λ t. run any_step 1 t ls) ls 1 ≡ Ok (txt m)
          by (Err fault) is e = absurd (cc e)
          by (Ok x) is e = ap (λ r. going r (λ t. run any_step 1 t ls) ls 1) (takes l x is) ∙ behind x ls ∙ ap (mapped txt) e

      module _ (spelled : (m : M) (lines : List LineText) → GivenBy step start m lines → SpellsMessage (txt m) lines) (l : LineText) (ls : List LineText) (t : MessageText) where
        found : (x : Stepped S M) → step 0 start l ≡ Ok x → going (lifted state txt (Ok x)) (λ u. run any_step 1 u ls) ls 1 ≡ Ok t → SpellsMessage t (l ∷ ls)
        found x is e =
            let m = mapped_ok txt (going (Ok x) (λ u. run step 1 u ls) ls 1) t (sym (behind x ls) ∙ e) in
            subst (λ u. SpellsMessage u (l ∷ ls)) m.2 (spelled m.0 (l ∷ ls) (ap (λ r. going r (λ u. run step 1 u ls) ls 1) is ∙ m.1))

        tried : (other : Read) → (going other (λ u. run any_step 1 u ls) ls 1 ≡ Ok t → SpellsMessage t (l ∷ ls))
            → going (or_next (lifted state txt (step 0 start l)) other) (λ u. run any_step 1 u ls) ls 1 ≡ Ok t → SpellsMessage t (l ∷ ls)
        tried other rest e = by (step 0 start l) refl e
          where
            by : (r : Result (Stepped S M) PktFault) → step 0 start l ≡ r → going (or_next (lifted state txt r) other) (λ u. run any_step 1 u ls) ls 1 ≡ Ok t → SpellsMessage t (l ∷ ls)
            by (Err fault) is e = rest e
            by (Ok (onward s)) is e = found (onward s) is e
            by (Ok (complete m)) is e = found (complete m) is e

-- ---- the first line
no_digit : (n c : ℕ) → is_hex_digit c ≡ false → n ≡ c → is_hex_digit n ≡ true → ⊥
no_digit n c never e d = let z : true ≡ false = sym d ∙ ap is_hex_digit e ∙ never in cc z

-- what the kinds from one on make of a line
abbrev from_advert : LineText → Read
from_advert l = or_next (as_advert (advert_step 0 empty l)) (Err (BadRecord 0))

abbrev from_push : LineText → Read
from_push l = or_next (as_push (push_step 0 (commanding no_commands) l)) (from_advert l)

abbrev from_error : LineText → Read
from_error l = or_next (as_error (error_step 0 tt l)) (from_push l)

abbrev from_report : LineText → Read
from_report l = or_next (as_report (report_step 0 unpacking l)) (from_error l)

abbrev from_pack : LineText → Read
from_pack l = or_next (as_pack (pack_step 0 starting l)) (from_report l)

abbrev from_want : LineText → Read
from_want l = or_next (as_want (want_step 0 (wanting []) l)) (from_pack l)

module _ (l : LineText) where
  no_list : (third l ≡ 115 → ⊥) → first_step 0 l ≡ from_want l
  no_list never = miss list_step in_list (λ _. a_list) (list_step 0 false l) (from_want l) (λ x e. never (list_third l x e))

  no_want : (third l ≡ 110 → ⊥) → from_want l ≡ from_pack l
  no_want never = miss want_step in_want a_want (want_step 0 (wanting []) l) (from_pack l) (λ x e. never (want_third l x e))

  no_pack : (third l ≡ 75 → ⊥) → from_pack l ≡ from_report l
  no_pack never = miss pack_step in_pack a_pack (pack_step 0 starting l) (from_report l) (λ x e. never (pack_third l x e))

  no_report : (third l ≡ 112 → ⊥) → from_report l ≡ from_error l
  no_report never = miss report_step in_report a_report (report_step 0 unpacking l) (from_error l) (λ x e. never (report_third l x e))

  no_error : (third l ≡ 82 → ⊥) → from_error l ≡ from_push l
  no_error never = miss error_step in_error an_error (error_step 0 tt l) (from_push l) (λ x e. never (error_third l x e))

  -- a line that begins with an id is no line of a word
  no_word : is_hex_digit (third l) ≡ true → first_step 0 l ≡ from_push l
  no_word d =
      no_list (λ e. no_digit (third l) 115 refl e d) ∙ no_want (λ e. no_digit (third l) 110 refl e d) ∙ no_pack (λ e. no_digit (third l) 75 refl e d)
      ∙ no_report (λ e. no_digit (third l) 112 refl e d) ∙ no_error (λ e. no_digit (third l) 82 refl e d)

  list_takes : (x : Stepped Bool ListText) → list_step 0 false l ≡ Ok x → first_step 0 l ≡ as_list (Ok x)
  list_takes x e = hit list_step in_list (λ _. a_list) (list_step 0 false l) x (from_want l) e

  want_takes : (x : Stepped WantState WantText) → want_step 0 (wanting []) l ≡ Ok x → first_step 0 l ≡ as_want (Ok x)
  want_takes x e =
      let is = want_third l x e in
      no_list (λ h. omega (arith, is, h)) ∙ hit want_step in_want a_want (want_step 0 (wanting []) l) x (from_pack l) e

  pack_takes : (x : Stepped PackState PackText) → pack_step 0 starting l ≡ Ok x → first_step 0 l ≡ as_pack (Ok x)
  pack_takes x e =
      let is = pack_third l x e in
      no_list (λ h. omega (arith, is, h)) ∙ no_want (λ h. omega (arith, is, h)) ∙ hit pack_step in_pack a_pack (pack_step 0 starting l) x (from_report l) e

  report_takes : (x : Stepped ReportState ReportText) → report_step 0 unpacking l ≡ Ok x → first_step 0 l ≡ as_report (Ok x)
  report_takes x e =
      let is = report_third l x e in
      no_list (λ h. omega (arith, is, h)) ∙ no_want (λ h. omega (arith, is, h)) ∙ no_pack (λ h. omega (arith, is, h))
      ∙ hit report_step in_report a_report (report_step 0 unpacking l) x (from_error l) e

  error_takes : (x : Stepped (Unit {0}) (List ℕ)) → error_step 0 tt l ≡ Ok x → first_step 0 l ≡ as_error (Ok x)
  error_takes x e =
      let is = error_third l x e in
      no_list (λ h. omega (arith, is, h)) ∙ no_want (λ h. omega (arith, is, h)) ∙ no_pack (λ h. omega (arith, is, h)) ∙ no_report (λ h. omega (arith, is, h))
      ∙ hit error_step in_error an_error (error_step 0 tt l) x (from_push l) e

  push_takes : (x : Stepped PushState PushText) → push_step 0 (commanding no_commands) l ≡ Ok x → first_step 0 l ≡ as_push (Ok x)
  push_takes x e = no_word (push_third l x e) ∙ hit push_step in_push a_push (push_step 0 (commanding no_commands) l) x (from_advert l) e

  advert_takes : (x : Stepped RefIds AdvertText) → advert_step 0 empty l ≡ Ok x → first_step 0 l ≡ as_advert (Ok x)
  advert_takes x e =
      no_word (advert_third l x e)
      ∙ miss push_step in_push a_push (push_step 0 (commanding no_commands) l) (from_advert l) (λ y f. push_no_advert l y x f e)
      ∙ hit advert_step in_advert an_advert (advert_step 0 empty l) x (Err (BadRecord 0)) e

-- ---- both ways
pub any_given : (t : MessageText) (lines : List LineText) → SpellsMessage t lines → GivenBy any_step beginning t lines
any_given a_list lines s = given list_step in_list (λ _. a_list) (λ n u l. refl) false list_takes list lines (list_given list lines s)
any_given (an_advert m) lines s = given advert_step in_advert an_advert (λ n u l. refl) empty advert_takes m lines (advert_given m lines s)
any_given (a_want m) lines s = given want_step in_want a_want (λ n u l. refl) (wanting []) want_takes m lines (want_given m lines s)
any_given (a_pack m) lines s = given pack_step in_pack a_pack (λ n u l. refl) starting pack_takes m lines (pack_given m lines s)
any_given (a_push m) lines s = given push_step in_push a_push (λ n u l. refl) (commanding no_commands) push_takes m lines (push_given m lines s)
any_given (a_report m) lines s = given report_step in_report a_report (λ n u l. refl) unpacking report_takes m lines (report_given m lines s)
any_given (an_error m) lines s = given error_step in_error an_error (λ n u l. refl) tt error_takes m lines (error_given m lines s)

list_back : (m : ListText) (lines : List LineText) → GivenBy list_step false m lines → SpellsMessage a_list lines
list_back list lines e = list_spelled list lines e

pub any_spelled : (t : MessageText) (lines : List LineText) → GivenBy any_step beginning t lines → SpellsMessage t lines
any_spelled t [] e = absurd (cc e)
any_spelled t (l ∷ ls) e =
    tried list_step in_list (λ _. a_list) (λ n u k. refl) false list_back l ls t (from_want l)
    (tried want_step in_want a_want (λ n u k. refl) (wanting []) want_spelled l ls t (from_pack l)
    (tried pack_step in_pack a_pack (λ n u k. refl) starting pack_spelled l ls t (from_report l)
    (tried report_step in_report a_report (λ n u k. refl) unpacking report_spelled l ls t (from_error l)
    (tried error_step in_error an_error (λ n u k. refl) tt error_spelled l ls t (from_push l)
    (tried push_step in_push a_push (λ n u k. refl) (commanding no_commands) push_spelled l ls t (from_advert l)
    (tried advert_step in_advert an_advert (λ n u k. refl) empty advert_spelled l ls t (Err (BadRecord 0)) (λ h. absurd (cc h))))))))
    e

-- ---- as it is written
pub written_message : (t : MessageText) → IsWrittenMessage t → IsSpelledBy SpellsMessage t (flat_map spelling (message_lines t))
written_message a_list w = written_list
written_message (an_advert m) w = written_advert m w
written_message (a_want m) w = written_want m w
written_message (a_pack m) w = written_pack m w
written_message (a_push m) w = written_push m w
written_message (a_report m) w = written_report m w
written_message (an_error m) w = written_error m w

-- a message of the machine that is written so is read as it
pub written_so : (m : Message) (t : MessageText) (bytes : List ℕ) → TextOf m t → IsWrittenMessage t → bytes ≡ flat_map spelling (message_lines t) → IsWritten m bytes
written_so m t bytes is written spelled = record {
  text = t;
  is = is;
  written = written;
  spelled = spelled;
  reads = record { text = t; is = is; spelled = subst (λ (b : List ℕ). IsSpelledBy SpellsMessage t b) (sym spelled) (written_message t written) };
}
