-- A text is read as one set at most, and goes wrong in one place at most.
use Rattle.std.proofs.Common.{◌≡◌, ◌⊎◌, inl, inr, ℕ, List, [], ◌∷◌, ◌++◌, Bool, true, false, ◌==◌, MatchBool, MatchResult, Result, Ok, Err, IfOk, IfErr, length, nat_eq, codes, true≢false, refl, sym, ap, subst, ◌∙◌, arith}
use Rattle.std.specs.List.{starts_with}
use Rattle.vc_expression.specs.Base.{name_of}
use Rattle.vc_expression.specs.Grammar.{RevText}
use Rattle.vc_expression.specs.Outcome.{Outcome, Read, Bad, Then, IsPlace}
use Rattle.vc_expression.specs.Faults.{ReadsRev}
use Rattle.vc_expression.specs.SetGrammar.{TermText, From, To, Both, IsSet}
use Rattle.vc_expression.specs.SetReading.{Behind, AllParents, Itself, SinceParent, UpTo, Nothing, Wrong, behind_at, range_view, excluded_at, ReadsBehind, Front, Excludes, Dotted, Based, front_at, ReadsFront, ReadsTerm, after_spaces, Ending, Done, Stopped, EndsWith, ReadsSet, IsBadSetAt, SetError}
use Rattle.vc_expression.specs.declared.suffix.Dots.{Dots}
use Rattle.vc_expression.specs.declared.fault.ParseFault.{ParseFault}
use Rattle.vc_expression.specs.declared.fault.ParseFault.TheVariants as faults
use Rattle.vc_expression.proofs.ExprLemmas.{reads_rev_same}
use Rattle.vc_expression.proofs.OutcomeLemmas.{then_same}
use Rattle.vc_expression.proofs.SetLemmas.{set_found}
use Rattle.vc_expression.proofs.SetAgain.{Spelled, set_again}

range_same : (b : Bool) (dots : Dots) (first : RevText) (text : List ℕ) (o p : Outcome TermText) → MatchBool b (o ≡ Read (range_view dots (From first)) text) (Then (ReadsRev text) (λ second rest q. q ≡ Read (range_view dots (Both first second)) rest) o) → MatchBool b (p ≡ Read (range_view dots (From first)) text) (Then (ReadsRev text) (λ second rest q. q ≡ Read (range_view dots (Both first second)) rest) p) → o ≡ p
range_same true dots first text o p x y = x ∙ sym y
range_same false dots first text o p x y = then_same (ReadsRev text) (λ second rest q. q ≡ Read (range_view dots (Both first second)) rest) o p (reads_rev_same text) (λ a r v w e f. e ∙ sym f) x y

behind_same : (rev : RevText) (text : List ℕ) (b : Behind) (o p : Outcome TermText) → ReadsBehind rev text b o → ReadsBehind rev text b p → o ≡ p
behind_same rev text (AllParents rest) o p x y = x ∙ sym y
behind_same rev text (Itself rest) o p x y = x ∙ sym y
behind_same rev text (SinceParent n rest) o p x y = x ∙ sym y
behind_same rev text (UpTo dots rest) o p x y = range_same (length (name_of rest) == 0) dots rev rest o p x y
behind_same rev text Nothing o p x y = x ∙ sym y
behind_same rev text Wrong o p x y = x ∙ sym y

front_same : (text : List ℕ) (f : Front) (o p : Outcome TermText) → ReadsFront text f o → ReadsFront text f p → o ≡ p
front_same text (Excludes rest) o p x y = then_same (ReadsRev rest) (λ rev behind q. q ≡ excluded_at rev behind) o p (reads_rev_same rest) (λ a r v w e f. e ∙ sym f) x y
front_same text (Dotted dots rest) o p x y = then_same (ReadsRev rest) (λ rev behind q. q ≡ Read (range_view dots (To rev)) behind) o p (reads_rev_same rest) (λ a r v w e f. e ∙ sym f) x y
front_same text Based o p x y = then_same (ReadsRev text) (λ rev behind q. ReadsBehind rev behind (behind_at behind) q) o p (reads_rev_same text) (λ a r v w e f. behind_same a r (behind_at r) v w e f) x y

pub term_same : (text : List ℕ) (o p : Outcome TermText) → ReadsTerm text o → ReadsTerm text p → o ≡ p
term_same text o p x y = front_same text (front_at text) o p x y

ends_same : (text : List ℕ) (e f : Ending) → EndsWith text e → EndsWith text f → e ≡ f
ends_same text (Done t) (Done u) x y = let s = term_same text (Read t []) (Read u []) x y in cc s
ends_same text (Done t) (Stopped q) x (inl y) = let s = term_same text (Read t []) (Bad q) x y in absurd (cc s)
ends_same text (Done t) (Stopped q) x (inr y) = let s = term_same text (Read t []) (Read y.0 q) x y.1 in let e : q ≡ [] = cc s in absurd (y.2 e)
ends_same text (Stopped r) (Done u) (inl x) y = let s = term_same text (Bad r) (Read u []) x y in absurd (cc s)
ends_same text (Stopped r) (Done u) (inr x) y = let s = term_same text (Read x.0 r) (Read u []) x.1 y in let e : r ≡ [] = cc s in absurd (x.2 e)
ends_same text (Stopped r) (Stopped q) (inl x) (inl y) = let s = term_same text (Bad r) (Bad q) x y in cc s
ends_same text (Stopped r) (Stopped q) (inl x) (inr y) = let s = term_same text (Bad r) (Read y.0 q) x y.1 in absurd (cc s)
ends_same text (Stopped r) (Stopped q) (inr x) (inl y) = let s = term_same text (Read x.0 r) (Bad q) x.1 y in absurd (cc s)
ends_same text (Stopped r) (Stopped q) (inr x) (inr y) = let s = term_same text (Read x.0 r) (Read y.0 q) x.1 y.1 in cc s

-- no term that has a space behind it ends the text
ends_none : (text : List ℕ) (e : Ending) (u : TermText) (q : List ℕ) → EndsWith text e → ReadsTerm text (Read u q) → starts_with nat_eq q (codes " ") ≡ true → ⊥
ends_none text (Done t) u q x y s = let h = term_same text (Read t []) (Read u q) x y in let e : q ≡ [] = cc h in true≢false (sym (rw e at s))
ends_none text (Stopped r) u q (inl x) y s = let h = term_same text (Bad r) (Read u q) x y in cc h
ends_none text (Stopped r) u q (inr x) y s = let h = term_same text (Read x.0 r) (Read u q) x.1 y in let e : q ≡ r = cc h in true≢false (sym (rw e at s) ∙ x.3)

pub set_same : (text : List ℕ) (ts us : List TermText) (e f : Ending) → ReadsSet text ts e → ReadsSet text us f → (ts ≡ us) × (e ≡ f)
set_same text [] [] e f x y = (refl, ends_same text e f x y)
set_same text [] (u ∷ us) e f x y = absurd (ends_none text e u y.0 x y.1 y.2)
set_same text (t ∷ ts) [] e f x y = absurd (ends_none text f t x.0 y x.1 x.2)
set_same text (t ∷ ts) (u ∷ us) e f x y =
    let s = term_same text (Read t x.0) (Read u y.0) x.1 y.1 in
    let term : t ≡ u = cc s in
    let rest : y.0 ≡ x.0 = cc s in
    let others = set_same (after_spaces x.0) ts us e f x.3 (subst (λ (r : List ℕ). ReadsSet (after_spaces r) us f) rest y.3) in
    let same = others.0 in
    (cc (term, same), others.1)

-- what was read of a text: its terms, the last one apart
abbrev pub IsRead : List ℕ → List TermText → Type 0
IsRead text terms = (before : List TermText) × (last : TermText) × (terms ≡ before ++ last ∷ []) × ReadsSet text before (Done last)

read_found : (text : List ℕ) (terms : List TermText) → IsRead text terms → IsSet text terms
read_found text terms r = subst (λ (ts : List TermText). IsSet text ts) (sym r.2) (set_found text r.0 r.1 r.3)

read_same : (text : List ℕ) (terms others : List TermText) → IsRead text terms → Spelled text others → terms ≡ others
read_same text terms others r s =
    let both = set_same text r.0 s.before (Done r.1) (Done s.last) r.3 s.reads in
    let before = both.0 in
    let ends = both.1 in
    let last : r.1 ≡ s.last = cc ends in
    let all = r.2 in
    let spelled = s.all in
    cc (before, last, all, spelled)

error_none : (text : List ℕ) (e : ParseFault) (terms : List TermText) → SetError text e → Spelled text terms → e ≡ faults.Memory
error_none text (faults.BadSyntax place) terms r s = let h = (set_same text r.0 s.before (Stopped r.1) (Done s.last) r.2 s.reads).1 in absurd (cc h)
error_none text faults.Memory terms r s = refl

module _ {E : Type 0} (view : E → List TermText) (text : List ℕ) where
  pub result_ok : (r : Result E ParseFault) → IfOk r (λ set. IsRead text (view set)) → IfOk r (λ set. IsSet text (view set))
  result_ok (Ok set) ok = read_found text (view set) ok
  result_ok (Err e) ok = tt

  pub result_found : (r : Result E ParseFault) → IfOk r (λ set. IsRead text (view set)) → IfErr r (SetError text) → (terms : List TermText) → IsSet text terms → MatchResult r (λ set. view set ≡ terms) (λ e. e ≡ faults.Memory)
  result_found (Ok set) ok err terms i = read_same text (view set) terms ok (set_again text terms i)
  result_found (Err e) ok err terms i = error_none text e terms err (set_again text terms i)

same_place : (text r q : List ℕ) (a b : ℕ) → r ≡ q → IsPlace text r a → IsPlace text q b → a ≡ b
same_place text r q a b e x y = let l : length r ≡ length q = ap length e in omega (arith, l, x, y)

bad_only : (text : List ℕ) (e : ParseFault) (place : ℕ) → SetError text e → IsBadSetAt text place → (e ≡ faults.BadSyntax place) ⊎ (e ≡ faults.Memory)
bad_only text (faults.BadSyntax at) place x y =
    let ends = (set_same text x.0 y.0 (Stopped x.1) (Stopped y.1) x.2 y.2).1 in
    let rest : x.1 ≡ y.1 = cc ends in
    inl (ap faults.BadSyntax (same_place text x.1 y.1 at place rest x.3 y.3))
bad_only text faults.Memory place x y = inr refl

module _ {E : Type 0} (view : E → List TermText) (text : List ℕ) where
  pub result_only : (r : Result E ParseFault) → IfOk r (λ set. IsRead text (view set)) → IfErr r (SetError text) → (place : ℕ) → IsBadSetAt text place → MatchResult r (λ _. ⊥) (λ e. (e ≡ faults.BadSyntax place) ⊎ (e ≡ faults.Memory))
  result_only (Ok set) ok err place b = let ends = (set_same text ok.0 b.0 (Done ok.1) (Stopped b.1) ok.3 b.2).1 in cc ends
  result_only (Err e) ok err place b = bad_only text e place err b
