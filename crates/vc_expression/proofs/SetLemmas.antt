-- What a term is read as is spelled so.
use Rattle.std.proofs.Common.{◌≡◌, ◌≢◌, ◌⊎◌, inl, inr, ℕ, List, ◌∷◌, ◌++◌, Bool, true, false, cond, ◌==◌, Option, Some, None, MatchBool, length, drop, nat_eq, codes, ◌<◌, true≢false, refl, sym, ap, subst, ◌∙◌, append_assoc, arith, []}
use Rattle.std.specs.List.{starts_with, AllByRecursion}
use Rattle.std.proofs.lemmas.List.{append-nil, length-append}
use Rattle.std.proofs.lemmas.Bool.Decides.{nat_tests}
use Rattle.vc_lemmas.proofs.Texts.{split_from_starts}
use Rattle.vc_object.proofs.Reading.{chosen}
use Rattle.vc_expression.specs.Base.{name_of}
use Rattle.vc_expression.specs.Steps.{counted_at}
use Rattle.vc_expression.specs.Grammar.{RevText, IsRev, IsCount}
use Rattle.vc_expression.specs.Outcome.{Outcome, Read, Bad, Onward, Then, FaultAt}
use Rattle.vc_expression.specs.Faults.{RevRead, ReadsRev}
use Rattle.vc_expression.specs.SetGrammar.{TermText, Include, Exclude, Parents, ExcludeParents, Only, Since, Both, From, To, IsTerm, IsSet, AreSpaces, dots_text}
use Rattle.vc_expression.specs.SetReading.{Behind, AllParents, Itself, SinceParent, UpTo, Nothing, Wrong, since_at, dots_at, or_dots, behind_at, range_view, excluded_at, ReadsFrom, ReadsBehind, Front, Excludes, Dotted, Based, or_dotted, front_at, ReadsFront, ReadsTerm, TermFound, after_spaces, Ending, Done, Stopped, EndsWith, ReadsSet, SetError}
use Rattle.vc_expression.specs.declared.fault.ParseFault.{ParseFault}
use Rattle.vc_expression.specs.declared.fault.ParseFault.TheVariants as faults
use Rattle.vc_expression.specs.declared.suffix.Dots.{Dots}
use Rattle.vc_expression.specs.declared.suffix.Dots.TheVariants.{Two, Three}
use Rattle.vc_expression.proofs.StepLemmas.{counted_front}
use Rattle.vc_expression.proofs.ExprLemmas.{rev_front}

-- the text of what stands behind a base
abbrev pub BehindText : List ℕ → Behind → Type 0
BehindText text (AllParents rest) = text ≡ codes "^@" ++ rest
BehindText text (Itself rest) = text ≡ codes "^!" ++ rest
BehindText text (SinceParent n rest) = (digits : List ℕ) × IsCount digits n × (n ≢ 0) × (text ≡ codes "^-" ++ (digits ++ rest))
BehindText text (UpTo dots rest) = text ≡ dots_text dots ++ rest
BehindText text Nothing = Unit {0}
BehindText text Wrong = Unit {0}

pub dots_front : (text : List ℕ) (found : Dots × List ℕ) → dots_at text ≡ Some found → text ≡ dots_text found.0 ++ found.1
dots_front text found e = elim (chosen (starts_with nat_eq text (codes "...")) _ _ _ e) [
  | inl h ↦ let same : (Three, drop 3 text) ≡ found = cc h.1 in subst (λ (f : Dots × List ℕ). text ≡ dots_text f.0 ++ f.1) same (split_from_starts text (codes "...") h.0)
  | inr h ↦ elim (chosen (starts_with nat_eq text (codes "..")) _ _ _ h.1) [
    | inl h ↦ let same : (Two, drop 2 text) ≡ found = cc h.1 in subst (λ (f : Dots × List ℕ). text ≡ dots_text f.0 ++ f.1) same (split_from_starts text (codes "..") h.0)
    | inr h ↦ absurd (cc h.1)
  ]
]

or_dots_text : (text : List ℕ) (o : Option (Dots × List ℕ)) → dots_at text ≡ o → BehindText text (or_dots o)
or_dots_text text None e = tt
or_dots_text text (Some found) e = dots_front text found e

since_text : (text rest : List ℕ) (o : Option (ℕ × List ℕ)) → text ≡ codes "^-" ++ rest → counted_at rest ≡ o → BehindText text (since_at o)
since_text text rest None t e = tt
since_text text rest (Some found) t e = at_zero (found.0 == 0) refl
  where
    at_zero : (b : Bool) → (found.0 == 0) ≡ b → BehindText text (cond b Wrong (SinceParent found.0 found.1))
    at_zero true h = tt
    at_zero false h =
        let f = counted_front rest found e in
        let some : found.0 ≢ 0 = grind (arith, nat_tests, h) in
        (f.0, f.1, some, t ∙ ap (λ r. codes "^-" ++ r) f.2)

pub behind_text : (text : List ℕ) → BehindText text (behind_at text)
behind_text text = elim (split (starts_with nat_eq text (codes "^@"))) [
  | inl h ↦ subst (λ (b : Bool). BehindText text (cond b (AllParents (drop 2 text)) (next text))) (sym h) (split_from_starts text (codes "^@") h)
  | inr h ↦ subst (λ (b : Bool). BehindText text (cond b (AllParents (drop 2 text)) (next text))) (sym h) (next_text text)
]
  where
    split : (b : Bool) → (b ≡ true) ⊎ (b ≡ false)
    split true = inl refl
    split false = inr refl

    last : List ℕ → Behind
    last t = cond (starts_with nat_eq t (codes "^-")) (since_at (counted_at (drop 2 t))) (or_dots (dots_at t))

    next : List ℕ → Behind
    next t = cond (starts_with nat_eq t (codes "^!")) (Itself (drop 2 t)) (last t)

    last_text : (t : List ℕ) → BehindText t (last t)
    last_text t = elim (split (starts_with nat_eq t (codes "^-"))) [
      | inl h ↦ subst (λ (b : Bool). BehindText t (cond b (since_at (counted_at (drop 2 t))) (or_dots (dots_at t)))) (sym h) (since_text t (drop 2 t) (counted_at (drop 2 t)) (split_from_starts t (codes "^-") h) refl)
      | inr h ↦ subst (λ (b : Bool). BehindText t (cond b (since_at (counted_at (drop 2 t))) (or_dots (dots_at t)))) (sym h) (or_dots_text t (dots_at t) refl)
    ]

    next_text : (t : List ℕ) → BehindText t (next t)
    next_text t = elim (split (starts_with nat_eq t (codes "^!"))) [
      | inl h ↦ subst (λ (b : Bool). BehindText t (cond b (Itself (drop 2 t)) (last t))) (sym h) (split_from_starts t (codes "^!") h)
      | inr h ↦ subst (λ (b : Bool). BehindText t (cond b (Itself (drop 2 t)) (last t))) (sym h) (last_text t)
    ]

-- the text of how a term begins
abbrev pub FrontText : List ℕ → Front → Type 0
FrontText text (Excludes rest) = text ≡ codes "^" ++ rest
FrontText text (Dotted dots rest) = text ≡ dots_text dots ++ rest
FrontText text Based = Unit {0}

or_dotted_text : (text : List ℕ) (o : Option (Dots × List ℕ)) → dots_at text ≡ o → FrontText text (or_dotted o)
or_dotted_text text None e = tt
or_dotted_text text (Some found) e = dots_front text found e

pub front_text : (text : List ℕ) → FrontText text (front_at text)
front_text text = at_caret (starts_with nat_eq text (codes "^")) refl
  where
    at_caret : (b : Bool) → starts_with nat_eq text (codes "^") ≡ b → FrontText text (cond b (Excludes (drop 1 text)) (or_dotted (dots_at text)))
    at_caret true h = split_from_starts text (codes "^") h
    at_caret false h = or_dotted_text text (dots_at text) refl

-- what stands behind a base and steps
pub behind : (x s rest text : List ℕ) → text ≡ s ++ rest → x ++ text ≡ (x ++ s) ++ rest
behind x s rest text e = ap (λ t. x ++ t) e ∙ sym (append_assoc x s rest)

-- a term that is read is given
found_is : (text : List ℕ) (made term : TermText) (left rest : List ℕ) → Read term rest ≡ Read made left → TermFound text made left → TermFound text term rest
found_is text made term left rest e f =
    let t : term ≡ made = cc e in
    let r : rest ≡ left = cc e in
    subst (λ (u : TermText). TermFound text u rest) (sym t) (subst (λ (l : List ℕ). TermFound text made l) (sym r) f)

excluded_found : (b : Bool) (text : List ℕ) (rev : RevText) (left : List ℕ) (term : TermText) (rest : List ℕ) → starts_with nat_eq left (codes "^@") ≡ b → RevRead text rev left → Read term rest ≡ cond b (Read (ExcludeParents rev) (drop 2 left)) (Read (Exclude rev) left) → TermFound (codes "^" ++ text) term rest
excluded_found true text rev left term rest h r e =
    let f = rev_front text rev left r in
    found_is _ (ExcludeParents rev) term (drop 2 left) rest e (94 ∷ (f.0 ++ codes "^@"), (f.0, f.1, refl), ap (λ t. 94 ∷ t) (f.2 ∙ behind f.0 (codes "^@") (drop 2 left) left (split_from_starts left (codes "^@") h)))
excluded_found false text rev left term rest h r e =
    let f = rev_front text rev left r in
    found_is _ (Exclude rev) term left rest e (94 ∷ f.0, (f.0, f.1, refl), ap (λ t. 94 ∷ t) f.2)

to_found : (dots : Dots) (text : List ℕ) (rev : RevText) (rest : List ℕ) → RevRead text rev rest → TermFound (dots_text dots ++ text) (range_view dots (To rev)) rest
to_found Two text rev rest r = let f = rev_front text rev rest r in (codes ".." ++ f.0, (f.0, f.1, refl), ap (λ t. codes ".." ++ t) f.2)
to_found Three text rev rest r = let f = rev_front text rev rest r in (codes "..." ++ f.0, (f.0, f.1, refl), ap (λ t. codes "..." ++ t) f.2)

from_found : (dots : Dots) (first : RevText) (x text : List ℕ) → IsRev x first → TermFound (x ++ (dots_text dots ++ text)) (range_view dots (From first)) text
from_found Two first x text i = (x ++ codes "..", (x, i, refl), behind x (codes "..") text (codes ".." ++ text) refl)
from_found Three first x text i = (x ++ codes "...", (x, i, refl), behind x (codes "...") text (codes "..." ++ text) refl)

both_found : (dots : Dots) (first second : RevText) (x text rest : List ℕ) → IsRev x first → RevRead text second rest → TermFound (x ++ (dots_text dots ++ text)) (range_view dots (Both first second)) rest
both_found Two first second x text rest i r =
    let f = rev_front text second rest r in
    (x ++ (codes ".." ++ f.0), (x, f.0, i, f.1, refl), behind x (codes ".." ++ f.0) rest (codes ".." ++ text) (ap (λ t. codes ".." ++ t) f.2))
both_found Three first second x text rest i r =
    let f = rev_front text second rest r in
    (x ++ (codes "..." ++ f.0), (x, f.0, i, f.1, refl), behind x (codes "..." ++ f.0) rest (codes "..." ++ text) (ap (λ t. codes "..." ++ t) f.2))

second_found : (dots : Dots) (first : RevText) (x text : List ℕ) (term : TermText) (rest : List ℕ) (o : Outcome RevText) → IsRev x first → ReadsRev text o → Onward (λ second left p. p ≡ Read (range_view dots (Both first second)) left) (Read term rest) o → TermFound (x ++ (dots_text dots ++ text)) term rest
second_found dots first x text term rest (Read second left) i r e = found_is _ (range_view dots (Both first second)) term left rest e (both_found dots first second x text left i r)
second_found dots first x text term rest (Bad left) i r e = absurd (cc e)

range_found : (b : Bool) (dots : Dots) (first : RevText) (x text : List ℕ) (term : TermText) (rest : List ℕ) → IsRev x first → MatchBool b (Read term rest ≡ Read (range_view dots (From first)) text) (Then (ReadsRev text) (λ second left o. o ≡ Read (range_view dots (Both first second)) left) (Read term rest)) → TermFound (x ++ (dots_text dots ++ text)) term rest
range_found true dots first x text term rest i e = found_is _ (range_view dots (From first)) term text rest e (from_found dots first x text i)
range_found false dots first x text term rest i t = second_found dots first x text term rest t.0 i t.1 t.2

behind_found : (x : List ℕ) (rev : RevText) (text : List ℕ) (b : Behind) (term : TermText) (rest : List ℕ) → IsRev x rev → BehindText text b → ReadsBehind rev text b (Read term rest) → TermFound (x ++ text) term rest
behind_found x rev text (AllParents left) term rest i t e = found_is _ (Parents rev) term left rest e (x ++ codes "^@", (x, i, refl), behind x (codes "^@") left text t)
behind_found x rev text (Itself left) term rest i t e = found_is _ (Only rev) term left rest e (x ++ codes "^!", (x, i, refl), behind x (codes "^!") left text t)
behind_found x rev text (SinceParent n left) term rest i t e =
    found_is _ (Since rev n) term left rest e (x ++ (codes "^-" ++ t.0), (x, t.0, i, t.1, t.2, refl), behind x (codes "^-" ++ t.0) left text t.3)
behind_found x rev text (UpTo dots left) term rest i t e =
    subst (λ (s : List ℕ). TermFound (x ++ s) term rest) (sym t) (range_found (length (name_of left) == 0) dots rev x left term rest i e)
behind_found x rev text Nothing term rest i t e = found_is _ (Include rev) term text rest e (x, i, refl)
behind_found x rev text Wrong term rest i t e = absurd (cc e)

excludes_found : (text : List ℕ) (term : TermText) (rest : List ℕ) (o : Outcome RevText) → ReadsRev text o → Onward (λ rev left p. p ≡ excluded_at rev left) (Read term rest) o → TermFound (codes "^" ++ text) term rest
excludes_found text term rest (Read rev left) r e = excluded_found (starts_with nat_eq left (codes "^@")) text rev left term rest refl r e
excludes_found text term rest (Bad left) r e = absurd (cc e)

dotted_found : (dots : Dots) (text : List ℕ) (term : TermText) (rest : List ℕ) (o : Outcome RevText) → ReadsRev text o → Onward (λ rev left p. p ≡ Read (range_view dots (To rev)) left) (Read term rest) o → TermFound (dots_text dots ++ text) term rest
dotted_found dots text term rest (Read rev left) r e = found_is _ (range_view dots (To rev)) term left rest e (to_found dots text rev left r)
dotted_found dots text term rest (Bad left) r e = absurd (cc e)

based_found : (text : List ℕ) (term : TermText) (rest : List ℕ) (o : Outcome RevText) → ReadsRev text o → Onward (λ rev left p. ReadsBehind rev left (behind_at left) p) (Read term rest) o → TermFound text term rest
based_found text term rest (Read rev left) r e =
    let f = rev_front text rev left r in
    subst (λ (t : List ℕ). TermFound t term rest) (sym f.2) (behind_found f.0 rev left (behind_at left) term rest f.1 (behind_text left) e)
based_found text term rest (Bad left) r e = absurd (cc e)

front_found : (text : List ℕ) (f : Front) (term : TermText) (rest : List ℕ) → FrontText text f → ReadsFront text f (Read term rest) → TermFound text term rest
front_found text (Excludes left) term rest t r = subst (λ (s : List ℕ). TermFound s term rest) (sym t) (excludes_found left term rest r.0 r.1 r.2)
front_found text (Dotted dots left) term rest t r = subst (λ (s : List ℕ). TermFound s term rest) (sym t) (dotted_found dots left term rest r.0 r.1 r.2)
front_found text Based term rest t r = based_found text term rest r.0 r.1 r.2

-- what is read as a term is spelled so
pub term_found : (text : List ℕ) (term : TermText) (rest : List ℕ) → ReadsTerm text (Read term rest) → TermFound text term rest
term_found text term rest r = front_found text (front_at text) term rest (front_text text) r

-- a fault of the second end of a range is one of the range
pub from_bad : (source : List ℕ) (dots : Dots) (first : RevText) (text : List ℕ) (e : ParseFault) → (length (name_of text) == 0) ≡ false → FaultAt source (Then (ReadsRev text) (λ second rest o. o ≡ Read (range_view dots (Both first second)) rest)) e → FaultAt source (ReadsFrom dots first text) e
from_bad source dots first text (faults.BadSyntax place) some f = (f.0, rw some f.1, f.2)
from_bad source dots first text faults.Memory some f = tt

-- Spaces between terms.

spaces_at : (b : ℕ) (bs : List ℕ) (t : Bool) → (b == 32) ≡ t → ((spaces : List ℕ) × AllByRecursion (λ x. x ≡ 32) spaces × (bs ≡ spaces ++ after_spaces bs)) → (spaces : List ℕ) × AllByRecursion (λ x. x ≡ 32) spaces × (b ∷ bs ≡ spaces ++ cond t (after_spaces bs) (b ∷ bs))
spaces_at b bs true h f = let e : b ≡ 32 = grind (arith, nat_tests, h) in (b ∷ f.0, (e, f.1), ap (λ t. b ∷ t) f.2)
spaces_at b bs false h f = ([], tt, refl)

pub spaces_front : (text : List ℕ) → (spaces : List ℕ) × AllByRecursion (λ b. b ≡ 32) spaces × (text ≡ spaces ++ after_spaces text)
spaces_front [] = ([], tt, refl)
spaces_front (b ∷ bs) = spaces_at b bs (b == 32) refl (spaces_front bs)

-- behind a space less is left
pub spaces_shorter : (text : List ℕ) → starts_with nat_eq text (codes " ") ≡ true → length (after_spaces text) < length text
spaces_shorter [] h = absurd (true≢false (sym h))
spaces_shorter (b ∷ bs) h =
    let e : b ≡ 32 = let f = split_from_starts (b ∷ bs) (codes " ") h in cc f in
    let f = spaces_front bs in
    rw e (omega (arith, ap length f.2, length-append f.0 (after_spaces bs)))

-- Sets that are read.

-- what follows the terms that were read ends them
pub set_stops : (source rest : List ℕ) (before : List TermText) (ending : Ending) → ((others : List TermText) (e : Ending) → ReadsSet rest others e → ReadsSet source (before ++ others) e) → EndsWith rest ending → ReadsSet source before ending
set_stops source rest before ending go e = subst (λ (ts : List TermText). ReadsSet source ts ending) (append-nil before) (go [] ending e)

pub set_bad : (source rest : List ℕ) (before : List TermText) (e : ParseFault) → ((others : List TermText) (f : Ending) → ReadsSet rest others f → ReadsSet source (before ++ others) f) → FaultAt source (ReadsTerm rest) e → SetError source e
set_bad source rest before (faults.BadSyntax place) go f = (before, f.0, set_stops source rest before (Stopped f.0) go (inl f.1), f.2)
set_bad source rest before faults.Memory go f = tt

pub set_more : (source rest after : List ℕ) (before others : List TermText) (term : TermText) (ending : Ending) → ((ts : List TermText) (e : Ending) → ReadsSet rest ts e → ReadsSet source (before ++ ts) e) → ReadsTerm rest (Read term after) → starts_with nat_eq after (codes " ") ≡ true → ReadsSet (after_spaces after) others ending → ReadsSet source ((before ++ term ∷ []) ++ others) ending
set_more source rest after before others term ending go r s h = rw append_assoc (go (term ∷ others) ending (after, r, s, h))

cons_set : (text a spaces next : List ℕ) (term : TermText) (others : List TermText) → IsTerm a term → AreSpaces spaces → IsSet next others → text ≡ a ++ (spaces ++ next) → IsSet text (term ∷ others)
cons_set text a spaces next term [] t s i e = absurd i
cons_set text a spaces next term (u ∷ us) t s i e = (a, spaces, next, t, s, i, e)

-- what is read as a set is spelled so
pub set_found : (text : List ℕ) (before : List TermText) (last : TermText) → ReadsSet text before (Done last) → IsSet text (before ++ last ∷ [])
set_found text [] last r = let f = term_found text last [] r in subst (λ (t : List ℕ). IsTerm t last) (sym (f.2 ∙ append-nil f.0)) f.1
set_found text (term ∷ others) last r =
    let f = term_found text term r.0 r.1 in
    let s = spaces_front r.0 in
    let some : s.0 ≢ [] = λ e. let shorter = spaces_shorter r.0 r.2 in let same : r.0 ≡ after_spaces r.0 = s.2 ∙ ap (λ x. x ++ after_spaces r.0) e in omega (arith, shorter, ap length same) in
    cons_set text f.0 s.0 (after_spaces r.0) term (others ++ last ∷ []) f.1 (some, s.1) (set_found (after_spaces r.0) others last r.3) (f.2 ∙ ap (λ x. f.0 ++ x) s.2)
