-- What is spelled as a set is read so.
use Rattle.std.proofs.Common.{◌≡◌, ◌≢◌, inl, inr, ℕ, List, ◌∷◌, ◌++◌, Bool, true, false, ◌==◌, Some, None, length, drop, nat_eq, codes, true≢false, refl, sym, ap, subst, ◌∙◌, append_assoc, arith, []}
use Rattle.std.specs.List.{starts_with, AllByRecursion, slice_split, onto_first, list_any}
use Rattle.std.proofs.lemmas.List.{append-nil}
use Rattle.std.proofs.lemmas.Bool.Decides.{nat_tests}
use Rattle.std.proofs.lemmas.Bool.{or_parts}
use Rattle.vc_lemmas.proofs.Texts.{split_from_starts}
use Rattle.vc_refname.specs.RefName.{breaks}
use Rattle.vc_refname.specs.declared.fault.NameFault.TheVariants as rules
use Rattle.vc_expression.specs.Base.{IsBase, is_stop, name_of}
use Rattle.vc_expression.specs.Steps.{counted_at}
use Rattle.vc_expression.specs.Grammar.{RevText, IsRev, IsCount}
use Rattle.vc_expression.specs.Outcome.{Outcome, Read, Bad, Onward}
use Rattle.vc_expression.specs.Faults.{RevRead, ReadsRev}
use Rattle.vc_expression.specs.SetGrammar.{TermText, EndsText, Include, Exclude, Parents, ExcludeParents, Only, Since, Range, Symmetric, Both, From, To, IsTerm, IsEnds, IsSet, AreSpaces, dots_text}
use Rattle.vc_expression.specs.SetReading.{Behind, SinceParent, UpTo, Nothing, dots_at, behind_at, range_view, excluded_at, ReadsBehind, Front, Dotted, Based, front_at, ReadsFront, ReadsTerm, after_spaces, Done, ReadsSet}
use Rattle.vc_expression.specs.declared.suffix.Dots.{Dots}
use Rattle.vc_expression.specs.declared.suffix.Dots.TheVariants.{Two, Three}
use Rattle.vc_expression.proofs.NameLemmas.{plain_base, goes_on}
use Rattle.vc_expression.proofs.StepLemmas.{Ends, counted_again}
use Rattle.vc_expression.proofs.ExprLemmas.{Tail, tail_none, no_base, rev_again}

-- the end of the text, or a space
abbrev pub IsGap : List ℕ → Type 0
IsGap [] = Unit {0}
IsGap (b ∷ bs) = b ≡ 32

gap_tail : (rest : List ℕ) → IsGap rest → Tail rest
gap_tail [] g = tail_none
gap_tail (b ∷ bs) g = rw g record { ends = (refl, refl, refl); stops = inr refl; other = refl }

gap_name : (rest : List ℕ) → IsGap rest → (length (name_of rest) == 0) ≡ true
gap_name [] g = refl
gap_name (b ∷ bs) g = rw g refl

gap_behind : (rest : List ℕ) → IsGap rest → behind_at rest ≡ Nothing
gap_behind [] g = refl
gap_behind (b ∷ bs) g = rw g refl

gap_excluded : (rev : RevText) (rest : List ℕ) → IsGap rest → Read (Exclude rev) rest ≡ excluded_at rev rest
gap_excluded rev [] g = refl
gap_excluded rev (b ∷ bs) g = rw g refl

-- A term begins with its base.

no_front : (text part : List ℕ) → ((rest : List ℕ) → text ≢ part ++ rest) → starts_with nat_eq text part ≡ false
no_front text part other = at_test (starts_with nat_eq text part) refl
  where
    at_test : (b : Bool) → starts_with nat_eq text part ≡ b → b ≡ false
    at_test true h = absurd (other (drop (length part) text) (split_from_starts text part h))
    at_test false h = refl

no_dots_at : (text : List ℕ) → starts_with nat_eq text (codes "..") ≡ false → dots_at text ≡ None
no_dots_at text two =
    let three : starts_with nat_eq text (codes "...") ≡ false = no_front text (codes "...") (λ rest e. true≢false (sym (let t : starts_with nat_eq (codes "..." ++ rest) (codes "..") ≡ false = rw e at two in sym t))) in
    rw (three, two) refl

no_stop : (b : ℕ) (bs : List ℕ) → is_stop (b ∷ bs) ≡ false → ((b == 94) ≡ false) × (starts_with nat_eq (b ∷ bs) (codes "..") ≡ false)
no_stop b bs h =
    let a = or_parts (b == 32) _ h in
    let c = or_parts (b == 94) _ a.1 in
    let d = or_parts (b == 126) _ c.1 in
    (c.0, (or_parts (b == 58) _ d.1).1)

front_based : (b : ℕ) (bs : List ℕ) → is_stop (b ∷ bs) ≡ false → front_at (b ∷ bs) ≡ Based
front_based b bs h =
    let both = no_stop b bs h in
    let caret : starts_with nat_eq (b ∷ bs) (codes "^") ≡ false = no_front (b ∷ bs) (codes "^") (λ rest e. let same : b ≡ 94 = cc e in true≢false (rw same at both.0)) in
    let none = no_dots_at (b ∷ bs) both.1 in
    rw (caret, none) refl

base_front : (base t : List ℕ) → IsBase base → front_at (base ++ t) ≡ Based
base_front [] t i = absurd (no_base [] i)
base_front (b ∷ bs) t i = front_based b (bs ++ t) (goes_on b bs t (plain_base (b ∷ bs) i))

rev_front_at : (x : List ℕ) (rev : RevText) (rest : List ℕ) → IsRev x rev → front_at (x ++ rest) ≡ Based
rev_front_at x rev rest i = ap front_at (ap (λ f. f ++ rest) i.3 ∙ append_assoc rev.base i.0 rest) ∙ base_front rev.base (i.0 ++ rest) i.1

-- a term that begins with a base
based_again : (x : List ℕ) (rev : RevText) (behind : List ℕ) (term : TermText) (rest : List ℕ) → IsRev x rev → Tail behind → ReadsBehind rev behind (behind_at behind) (Read term rest) → ReadsTerm (x ++ behind) (Read term rest)
based_again x rev behind term rest i t r =
    let f : front_at (x ++ behind) ≡ Based = rev_front_at x rev behind i in
    subst (λ (g : Front). ReadsFront (x ++ behind) g (Read term rest)) (sym f) (Read rev behind, rev_again x rev behind i t, r)

-- the same, with what stands behind the base spelled out
suffixed : (a x s : List ℕ) (rev : RevText) (term : TermText) (rest : List ℕ) → a ≡ x ++ s → IsRev x rev → Tail (s ++ rest) → ReadsBehind rev (s ++ rest) (behind_at (s ++ rest)) (Read term rest) → ReadsTerm (a ++ rest) (Read term rest)
suffixed a x s rev term rest e i t r =
    subst (λ (text : List ℕ). ReadsTerm text (Read term rest)) (sym (ap (λ y. y ++ rest) e ∙ append_assoc x s rest)) (based_again x rev (s ++ rest) term rest i t r)

-- No base begins with a dot.

dot_first : (parts : List (List ℕ)) → list_any (λ part. starts_with nat_eq part (codes ".")) (onto_first 46 parts) ≡ true
dot_first [] = refl
dot_first (part ∷ parts) = refl

begins_with_dot : (bs : List ℕ) → breaks rules.DotBegin (codes "refs/" ++ (46 ∷ bs)) ≡ true
begins_with_dot bs = dot_first (slice_split (λ byte. byte == 47) bs)

no_dot_name : (base bs : List ℕ) → base ≡ 46 ∷ bs → breaks rules.DotBegin (codes "refs/" ++ base) ≡ false → ⊥
no_dot_name base bs e h = true≢false (sym (begins_with_dot bs) ∙ sym (ap (λ (b : List ℕ). breaks rules.DotBegin (codes "refs/" ++ b)) e) ∙ h)

at_no_dot : (bs : List ℕ) → codes "@" ≡ 46 ∷ bs → ⊥
at_no_dot bs e = true≢false (ap (λ (t : List ℕ). starts_with nat_eq t (codes "@")) e)

no_dot_base : (base bs : List ℕ) → base ≡ 46 ∷ bs → IsBase base → ⊥
no_dot_base base bs e (inl h) = at_no_dot bs (sym h ∙ e)
no_dot_base base bs e (inr h) = no_dot_name base bs e (h.1 rules.DotBegin)

-- what follows two dots is no third one
abbrev NoDot : List ℕ → Type 0
NoDot [] = Unit {0}
NoDot (b ∷ bs) = (b == 46) ≡ false

base_no_dot : (base t : List ℕ) → IsBase base → NoDot (base ++ t)
base_no_dot [] t i = absurd (no_base [] i)
base_no_dot (b ∷ bs) t i = at_test (b == 46) refl
  where
    at_test : (v : Bool) → (b == 46) ≡ v → v ≡ false
    at_test true h = let e : b ≡ 46 = grind (arith, nat_tests, h) in absurd (no_dot_base (b ∷ bs) bs (ap (λ (k : ℕ). k ∷ bs) e) i)
    at_test false h = refl

rev_no_dot : (x : List ℕ) (rev : RevText) (rest : List ℕ) → IsRev x rev → NoDot (x ++ rest)
rev_no_dot x rev rest i = subst NoDot (sym (ap (λ f. f ++ rest) i.3 ∙ append_assoc rev.base i.0 rest)) (base_no_dot rev.base (i.0 ++ rest) i.1)

gap_no_dot : (rest : List ℕ) → IsGap rest → NoDot rest
gap_no_dot [] g = tt
gap_no_dot (b ∷ bs) g = rw g refl

two_dots : (t : List ℕ) → NoDot t → dots_at (codes ".." ++ t) ≡ Some (Two, t)
two_dots [] n = refl
two_dots (b ∷ bs) n =
    let three : starts_with nat_eq (codes ".." ++ (b ∷ bs)) (codes "...") ≡ false = no_front (codes ".." ++ (b ∷ bs)) (codes "...") (λ rest e. let same : b ≡ 46 = cc e in true≢false (rw same at n)) in
    rw three refl

dots_behind : (dots : Dots) (t : List ℕ) → NoDot t → behind_at (dots_text dots ++ t) ≡ UpTo dots t
dots_behind Two t n = rw (two_dots t n) refl
dots_behind Three t n = refl

dots_tail : (dots : Dots) (t : List ℕ) → Tail (dots_text dots ++ t)
dots_tail Two t = record { ends = (refl, refl, refl); stops = inr refl; other = refl }
dots_tail Three t = record { ends = (refl, refl, refl); stops = inr refl; other = refl }

-- a base is no empty name
name_some : (x : List ℕ) (rev : RevText) (rest : List ℕ) → IsRev x rev → Tail rest → (length (name_of (x ++ rest)) == 0) ≡ false
name_some x rev rest i t =
    let named : name_of (x ++ rest) ≡ rev.base = sym (rev_again x rev rest i t).base in
    rw named (some rev.base i.1)
  where
    some : (base : List ℕ) → IsBase base → (length base == 0) ≡ false
    some [] h = absurd (no_base [] h)
    some (b ∷ bs) h = grind (arith, nat_tests)

from_again : (dots : Dots) (a x : List ℕ) (rev : RevText) (rest : List ℕ) → IsRev x rev → a ≡ x ++ dots_text dots → IsGap rest → ReadsTerm (a ++ rest) (Read (range_view dots (From rev)) rest)
from_again dots a x rev rest i e g =
    let b : behind_at (dots_text dots ++ rest) ≡ UpTo dots rest = dots_behind dots rest (gap_no_dot rest g) in
    let none : (length (name_of rest) == 0) ≡ true = gap_name rest g in
    suffixed a x (dots_text dots) rev (range_view dots (From rev)) rest e i (dots_tail dots rest) (subst (λ (h : Behind). ReadsBehind rev (dots_text dots ++ rest) h (Read (range_view dots (From rev)) rest)) (sym b) (rw none refl))

both_again : (dots : Dots) (a x y : List ℕ) (first second : RevText) (rest : List ℕ) → IsRev x first → IsRev y second → a ≡ x ++ (dots_text dots ++ y) → IsGap rest → ReadsTerm (a ++ rest) (Read (range_view dots (Both first second)) rest)
both_again dots a x y first second rest i j e g =
    let tail = gap_tail rest g in
    let b : behind_at (dots_text dots ++ (y ++ rest)) ≡ UpTo dots (y ++ rest) = dots_behind dots (y ++ rest) (rev_no_dot y second rest j) in
    let some : (length (name_of (y ++ rest)) == 0) ≡ false = name_some y second rest j tail in
    let term = range_view dots (Both first second) in
    subst (λ (text : List ℕ). ReadsTerm text (Read term rest))
    (sym (ap (λ t. t ++ rest) e ∙ append_assoc x (dots_text dots ++ y) rest ∙ ap (λ t. x ++ t) (append_assoc (dots_text dots) y rest)))
    (based_again x first (dots_text dots ++ (y ++ rest)) term rest i (dots_tail dots (y ++ rest))
    (subst (λ (h : Behind). ReadsBehind first (dots_text dots ++ (y ++ rest)) h (Read term rest)) (sym b) (rw some (Read second rest, rev_again y second rest j tail, refl))))

to_again : (dots : Dots) (a y : List ℕ) (rev : RevText) (rest : List ℕ) → IsRev y rev → a ≡ dots_text dots ++ y → IsGap rest → ReadsTerm (a ++ rest) (Read (range_view dots (To rev)) rest)
to_again dots a y rev rest i e g =
    let f : front_at (dots_text dots ++ (y ++ rest)) ≡ Dotted dots (y ++ rest) = at_dots dots (y ++ rest) (rev_no_dot y rev rest i) in
    subst (λ (text : List ℕ). ReadsTerm text (Read (range_view dots (To rev)) rest)) (sym (ap (λ t. t ++ rest) e ∙ append_assoc (dots_text dots) y rest))
    (subst (λ (h : Front). ReadsFront (dots_text dots ++ (y ++ rest)) h (Read (range_view dots (To rev)) rest)) (sym f) (Read rev rest, rev_again y rev rest i (gap_tail rest g), refl))
  where
    at_dots : (d : Dots) (t : List ℕ) → NoDot t → front_at (dots_text d ++ t) ≡ Dotted d t
    at_dots Two t n = rw (two_dots t n) refl
    at_dots Three t n = refl

ends_again : (dots : Dots) (a : List ℕ) (ends : EndsText) (rest : List ℕ) → IsEnds (dots_text dots) a ends → IsGap rest → ReadsTerm (a ++ rest) (Read (range_view dots ends) rest)
ends_again dots a (Both first second) rest i g = both_again dots a i.0 i.1 first second rest i.2 i.3 i.4 g
ends_again dots a (From rev) rest i g = from_again dots a i.0 rev rest i.1 i.2 g
ends_again dots a (To rev) rest i g = to_again dots a i.0 rev rest i.1 i.2 g

since_again : (digits : List ℕ) (n : ℕ) (rest : List ℕ) → IsCount digits n → n ≢ 0 → Ends rest → behind_at (codes "^-" ++ (digits ++ rest)) ≡ SinceParent n rest
since_again digits n rest i some e =
    let read : counted_at (digits ++ rest) ≡ Some (n, rest) = counted_again digits n rest i e in
    let test : (n == 0) ≡ false = grind (arith, nat_tests, some) in
    rw (read, test) refl

-- a term that is spelled is read, at the end of the text or before a space
pub term_again : (a : List ℕ) (term : TermText) (rest : List ℕ) → IsTerm a term → IsGap rest → ReadsTerm (a ++ rest) (Read term rest)
term_again a (Include rev) rest i g = based_again a rev rest (Include rev) rest i (gap_tail rest g) (rw (gap_behind rest g) refl)
term_again a (Exclude rev) rest i g =
    rw i.2 (Read rev rest, rev_again i.0 rev rest i.1 (gap_tail rest g), gap_excluded rev rest g)
term_again a (Parents rev) rest i g = suffixed a i.0 (codes "^@") rev (Parents rev) rest i.2 i.1 record { ends = (refl, refl, refl); stops = inr refl; other = refl } refl
term_again a (ExcludeParents rev) rest i g =
    rw (i.2, append_assoc) (Read rev (codes "^@" ++ rest), rev_again i.0 rev (codes "^@" ++ rest) i.1 record { ends = (refl, refl, refl); stops = inr refl; other = refl }, refl)
term_again a (Only rev) rest i g = suffixed a i.0 (codes "^!") rev (Only rev) rest i.2 i.1 record { ends = (refl, refl, refl); stops = inr refl; other = refl } refl
term_again a (Since rev n) rest i g =
    let b : behind_at (codes "^-" ++ (i.1 ++ rest)) ≡ SinceParent n rest = since_again i.1 n rest i.3 i.4 (gap_tail rest g).ends in
    suffixed a i.0 (codes "^-" ++ i.1) rev (Since rev n) rest i.5 i.2 record { ends = (refl, refl, refl); stops = inr refl; other = refl } (rw b refl)
term_again a (Range ends) rest i g = ends_again Two a ends rest i g
term_again a (Symmetric ends) rest i g = ends_again Three a ends rest i g

-- no term begins with a space
space_no_rev : (bs : List ℕ) (rev : RevText) (rest : List ℕ) → RevRead (32 ∷ bs) rev rest → ⊥
space_no_rev bs rev rest r = no_base [] (subst IsBase r.base r.is_base)

space_no_term : (bs : List ℕ) (term : TermText) (rest : List ℕ) → ReadsTerm (32 ∷ bs) (Read term rest) → ⊥
space_no_term bs term rest r = at_rev r.0 r.1 r.2
  where
    at_rev : (o : Outcome RevText) → ReadsRev (32 ∷ bs) o → Onward (λ rev behind p. ReadsBehind rev behind (behind_at behind) p) (Read term rest) o → ⊥
    at_rev (Read rev behind) x y = space_no_rev bs rev behind x
    at_rev (Bad behind) x y = cc y

abbrev NoSpace : List ℕ → Type 0
NoSpace [] = Unit {0}
NoSpace (b ∷ bs) = (b == 32) ≡ false

term_no_space : (text : List ℕ) (term : TermText) (rest : List ℕ) → ReadsTerm text (Read term rest) → NoSpace text
term_no_space [] term rest r = tt
term_no_space (b ∷ bs) term rest r = at_test (b == 32) refl
  where
    at_test : (v : Bool) → (b == 32) ≡ v → v ≡ false
    at_test true h = let e : b ≡ 32 = grind (arith, nat_tests, h) in absurd (space_no_term bs term rest (subst (λ (k : ℕ). ReadsTerm (k ∷ bs) (Read term rest)) e r))
    at_test false h = refl

set_no_space : (text : List ℕ) (before : List TermText) (last : TermText) → ReadsSet text before (Done last) → NoSpace text
set_no_space text [] last r = term_no_space text last [] r
set_no_space text (term ∷ others) last r = term_no_space text term r.0 r.1

after_none : (rest : List ℕ) → NoSpace rest → after_spaces rest ≡ rest
after_none [] n = refl
after_none (b ∷ bs) n = rw n refl

after_again : (spaces rest : List ℕ) → AllByRecursion (λ b. b ≡ 32) spaces → NoSpace rest → after_spaces (spaces ++ rest) ≡ rest
after_again [] rest a n = after_none rest n
after_again (b ∷ bs) rest a n = rw a.0 (after_again bs rest a.1 n)

spaces_gap : (spaces rest : List ℕ) → AreSpaces spaces → IsGap (spaces ++ rest) × (starts_with nat_eq (spaces ++ rest) (codes " ") ≡ true)
spaces_gap [] rest s = absurd (s.0 refl)
spaces_gap (b ∷ bs) rest s = (s.1.0, rw s.1.0 refl)

-- the terms of a set, the last one apart
pub record Spelled (text : List ℕ) (terms : List TermText) : Type 0 where
  pub before : List TermText
  pub last : TermText
  pub all : terms ≡ before ++ last ∷ []
  pub reads : ReadsSet text before (Done last)

-- a set that is spelled is read
pub set_again : (text : List ℕ) (terms : List TermText) → IsSet text terms → Spelled text terms
set_again text [] i = absurd i
set_again text (term ∷ []) i =
    record { before = []; last = term; all = refl; reads = subst (λ (t : List ℕ). ReadsTerm t (Read term [])) (append-nil text) (term_again text term [] i tt) }
set_again text (term ∷ other ∷ others) i =
    let r = set_again i.2 (other ∷ others) i.5 in
    let gap = spaces_gap i.1 i.2 i.4 in
    let after : after_spaces (i.1 ++ i.2) ≡ i.2 = after_again i.1 i.2 i.4.1 (set_no_space i.2 r.before r.last r.reads) in
    record {
      before = term ∷ r.before;
      last = r.last;
      all = ap (λ ts. term ∷ ts) r.all;
      reads = rw i.6 (i.1 ++ i.2, term_again i.0 term (i.1 ++ i.2) i.3 gap.0, gap.1, subst (λ (t : List ℕ). ReadsSet t r.before (Done r.last)) (sym after) r.reads);
    }
