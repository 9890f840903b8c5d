-- Lines of a report, as the functions that read them see them.
use Rattle.std.proofs.Common.{◌≡◌, ◌≢◌, ℕ, ◌==◌, ◌||◌, Bool, true, false, cond, List, ◌∷◌, ◌++◌, Option, Some, None, refl, ap, ◌∙◌, subst, arith, []}
use Rattle.std.specs.Prelude.{codes}
use Rattle.std.specs.List.{list_any}
use Rattle.std.specs.Str.{bytes_eq}
use Rattle.std.proofs.lemmas.Bool.Decides.{nat_tests}
use Rattle.std.proofs.lemmas.Slice.Eq.{bytes_eq-Decides}
use Rattle.std.proofs.lemmas.Bool.{or_parts}
use Rattle.std.proofs.lemmas.Option.{same_Some}
use Rattle.vc_object.specs.Bytes.{Without, cut}
use Rattle.vc_object.specs.Lines.{after_word}
use Rattle.vc_object.proofs.LineTexts.{after_word_some, after_word_again}
use Rattle.vc_object.proofs.Texts.{cut_found, cut_some}
use Rattle.vc_pkt.specs.TextLine.{without_lf}
use Rattle.vc_fetch.specs.Advert.{is_break}
use Rattle.vc_push.specs.Push.{named}
use Rattle.vc_push.specs.Report.{IsUnpackLine, IsOkLine, IsNgLine, IsOptionLine, new_id, unpack_of, unpack_line, Said, accepts, refuses, opts, nothing, accepts_or, ok_said, refuses_or, ng_parts, ng_said, said_as, said}
use Rattle.vc_push.proofs.CommandLines.{named_some, named_again}

-- ---- a name has no space
no_space : (name : List ℕ) → list_any is_break name ≡ false → Without 32 name
no_space [] e = tt
no_space (b ∷ name) e =
    let p = or_parts (is_break b) (list_any is_break name) e in
    let q = or_parts (b == 0) (b == 10 || b == 32) p.0 in
    let r = or_parts (b == 10) (b == 32) q.1 in
    let other : b ≢ 32 = let f = r.1 in grind (arith, nat_tests) in
    (other, no_space name p.1)

-- ---- the first line
pub unpack_some : (line : List ℕ) (unpack : Option (List ℕ)) → unpack_line line ≡ Some unpack → IsUnpackLine unpack line
unpack_some line unpack e = of (after_word (codes "unpack ") (without_lf line)) refl e
  where
    of_words : (words : List ℕ) (b : Bool) → bytes_eq words (codes "ok") ≡ b → without_lf line ≡ codes "unpack " ++ words → cond b (Some None) (Some (Some words)) ≡ Some unpack → IsUnpackLine unpack line
    of_words words true is at e =
        let same = same_Some None unpack e in
        subst (λ u. IsUnpackLine u line) same (at ∙ ap (λ t. codes "unpack " ++ t) ((bytes_eq-Decides words (codes "ok")).0 is))
    of_words words false is at e =
        let same = same_Some (Some words) unpack e in
        let other : words ≢ codes "ok" = λ h. let a = (bytes_eq-Decides words (codes "ok")).1 h in cc (a, is) in
        subst (λ u. IsUnpackLine u line) same (at, other)

    of : (o : Option (List ℕ)) → after_word (codes "unpack ") (without_lf line) ≡ o → unpack_of o ≡ Some unpack → IsUnpackLine unpack line
    of None is e = absurd (cc e)
    of (Some words) is e = of_words words (bytes_eq words (codes "ok")) refl (after_word_some (codes "unpack ") (without_lf line) words is) e

pub unpack_again : (line : List ℕ) (unpack : Option (List ℕ)) → IsUnpackLine unpack line → unpack_line line ≡ Some unpack
unpack_again line None h = ap (λ t. unpack_of (after_word (codes "unpack ") t)) h
unpack_again line (Some words) (spelled, other) =
    ap (λ t. unpack_of (after_word (codes "unpack ") t)) spelled ∙ ap unpack_of (after_word_again (codes "unpack ") words) ∙ ap (λ b. cond b (Some None) (Some (Some words))) no
  where
    by : (b : Bool) → bytes_eq words (codes "ok") ≡ b → b ≡ false
    by true is = absurd (other ((bytes_eq-Decides words (codes "ok")).0 is))
    by false is = refl

    no : bytes_eq words (codes "ok") ≡ false
    no = by (bytes_eq words (codes "ok")) refl

-- ---- lines that accept, refuse or opt
-- what is read of a line, from what follows each word
abbrev read : List ℕ → Option (List ℕ) → Option (List ℕ) → Option (List ℕ) → Said
read line ok ng option = said_as ok ok_said (said_as ng ng_said (said_as option (λ words. opts (new_id line)) nothing))

-- what a line means that says this
abbrev pub Means : List ℕ → Said → Type 0
Means line (accepts name) = IsOkLine name line
Means line (refuses name reason) = IsNgLine name reason line
Means line (opts new) = IsOptionLine line × (new ≡ new_id line)
Means line nothing = Unit {0}

ok_means : (line words : List ℕ) (o : Option (List ℕ)) → named words ≡ o → without_lf line ≡ codes "ok " ++ words → Means line (accepts_or o)
ok_means line words None is at = tt
ok_means line words (Some name) is at = let n = named_some words name is in record { legal = n.0; spelled = at ∙ ap (λ t. codes "ok " ++ t) n.1 }

name_means : (line front reason : List ℕ) (o : Option (List ℕ)) → named front ≡ o → without_lf line ≡ codes "ng " ++ (front ++ 32 ∷ reason) → Means line (refuses_or o reason)
name_means line front reason None is at = tt
name_means line front reason (Some name) is at = let n = named_some front name is in record { legal = n.0; spelled = at ∙ ap (λ t. codes "ng " ++ (t ++ 32 ∷ reason)) n.1 }

ng_means : (line words : List ℕ) (o : Option (List ℕ × List ℕ)) → cut 32 words ≡ o → without_lf line ≡ codes "ng " ++ words → Means line (ng_parts o)
ng_means line words None is at = tt
ng_means line words (Some (front, reason)) is at =
    name_means line front reason (named front) refl (at ∙ ap (λ t. codes "ng " ++ t) (cut_some 32 words front reason is).1)

read_means : (line : List ℕ) (ok ng option : Option (List ℕ)) → after_word (codes "ok ") (without_lf line) ≡ ok → after_word (codes "ng ") (without_lf line) ≡ ng → after_word (codes "option ") (without_lf line) ≡ option
    → Means line (read line ok ng option)
read_means line (Some words) ng option a b c = ok_means line words (named words) refl (after_word_some (codes "ok ") (without_lf line) words a)
read_means line None (Some words) option a b c = ng_means line words (cut 32 words) refl (after_word_some (codes "ng ") (without_lf line) words b)
read_means line None None (Some words) a b c = (record { words = words; spelled = after_word_some (codes "option ") (without_lf line) words c }, refl)
read_means line None None None a b c = tt

pub said_means : (line : List ℕ) (s : Said) → said line ≡ s → Means line s
unfolding said
said_means line s e = subst (Means line) e (read_means line _ _ _ refl refl refl)

abbrev read_text : List ℕ → List ℕ → Said
read_text line words = read line (after_word (codes "ok ") words) (after_word (codes "ng ") words) (after_word (codes "option ") words)

pub ok_again : (name line : List ℕ) → IsOkLine name line → said line ≡ accepts name
unfolding said
ok_again name line h = ap (read_text line) h.spelled ∙ ap accepts_or (named_again name h.legal)

pub ng_again : (name reason line : List ℕ) → IsNgLine name reason line → said line ≡ refuses name reason
unfolding said
ng_again name reason line h =
    ap (read_text line) h.spelled ∙ ap ng_parts (cut_found 32 name reason (no_space name h.legal.plain)) ∙ ap (λ o. refuses_or o reason) (named_again name h.legal)

pub option_again : (line : List ℕ) → IsOptionLine line → said line ≡ opts (new_id line)
unfolding said
option_again line h = ap (read_text line) h.spelled
