-- A step that is read is spelled so, and a step that is spelled is read.
use Rattle.std.proofs.Common.{◌≡◌, ◌⊎◌, inl, inr, ℕ, ◌<◌, List, ◌∷◌, ◌++◌, Bool, true, false, cond, ◌==◌, ◌||◌, Option, Some, None, length, drop, nat_eq, nat_lt, codes, refl, sym, ap, ◌∙◌, subst, arith, []}
use Rattle.std.specs.List.{AllByRecursion, starts_with}
use Rattle.std.proofs.lemmas.Bool.Decides.{nat_tests, Decides-eqb}
use Rattle.std.proofs.lemmas.List.{nil_from_length}
use Rattle.vc_lemmas.proofs.Texts.{split_from_starts}
use Rattle.vc_expression.specs.Digits.{IsDigit, is_digit, digits_of, after_digits, number}
use Rattle.vc_expression.specs.Seen.{Found}
use Rattle.vc_expression.specs.Steps.{step_at, caret_at, braced_at, counted_at, with_count}
use Rattle.vc_expression.specs.Grammar.{IsCount, IsStep}
use Rattle.vc_expression.specs.declared.token.Step.{Step}
use Rattle.vc_expression.specs.declared.token.Step.TheVariants as steps
use Rattle.vc_object.specs.declared.kind.Kind.TheVariants as kinds
use Rattle.vc_object.proofs.Reading.{chosen}
use Rattle.vc_expression.proofs.DigitLemmas.{all_digits, test_from_digit, digit_marks}

-- The digits and what follows them are the text.

digits_at : (b : ℕ) (bs : List ℕ) (t : Bool) → is_digit b ≡ t → digits_of bs ++ after_digits bs ≡ bs → cond t (b ∷ digits_of bs) [] ++ cond t (after_digits bs) (b ∷ bs) ≡ b ∷ bs
digits_at b bs true h e = ap (λ t. b ∷ t) e
digits_at b bs false h e = refl

digits_parts : (text : List ℕ) → digits_of text ++ after_digits text ≡ text
digits_parts [] = refl
digits_parts (b ∷ bs) = digits_at b bs (is_digit b) refl (digits_parts bs)

no_digits : (text : List ℕ) → length (digits_of text) ≡ 0 → digits_of text ≡ []
no_digits text e = nil_from_length (digits_of text) e

counted_more : (text : List ℕ) (found : ℕ × List ℕ) → (length (digits_of text) == 0) ≡ false → ((nat_lt 9 (length (digits_of text)) ≡ true) × (None ≡ Some found)) ⊎ ((nat_lt 9 (length (digits_of text)) ≡ false) × (Some (number (digits_of text), after_digits text) ≡ Some found)) → (digits : List ℕ) × IsCount digits found.0 × (text ≡ digits ++ found.1)
counted_more text found some (inl h) = absurd (cc h.1)
counted_more text found some (inr h) =
    let same : (number (digits_of text), after_digits text) ≡ found = cc h.1 in (
      digits_of text,
      inr record {
        all = all_digits text;
        some = grind (arith, nat_tests);
        short = grind (arith, nat_tests, h.0);
        value = sym (ap (λ f. f.0) same);
      },
      sym (digits_parts text) ∙ ap (λ r. digits_of text ++ r) (ap (λ f. f.1) same),
    )

counted_first : (text : List ℕ) (found : ℕ × List ℕ) → ((length (digits_of text) == 0) ≡ true) × (Some (1, after_digits text) ≡ Some found) → (digits : List ℕ) × IsCount digits found.0 × (text ≡ digits ++ found.1)
counted_first text found h =
    let none : length (digits_of text) ≡ 0 = grind (arith, nat_tests, h.0) in
    let same : (1, after_digits text) ≡ found = cc h.1 in (
      [],
      inl (refl, sym (ap (λ f. f.0) same)),
      sym (digits_parts text) ∙ ap (λ d. d ++ after_digits text) (no_digits text none) ∙ ap (λ f. f.1) same,
    )

pub counted_front : (text : List ℕ) (found : ℕ × List ℕ) → counted_at text ≡ Some found → (digits : List ℕ) × IsCount digits found.0 × (text ≡ digits ++ found.1)
counted_front text found e = elim (chosen (length (digits_of text) == 0) _ _ _ e) [
  | inl h ↦ counted_first text found h
  | inr h ↦ counted_more text found h.0 (chosen (nat_lt 9 (length (digits_of text))) _ _ _ h.1)
]

-- what a step is spelled as, and what follows it
abbrev pub Front : List ℕ → Step → List ℕ → Type 0
Front text step rest = (a : List ℕ) × IsStep a step × (text ≡ a ++ rest)

-- the same behind `^{`
abbrev Braced : List ℕ → Step → List ℕ → Type 0
Braced text step rest = (a : List ℕ) × IsStep (codes "^{" ++ a) step × (text ≡ a ++ rest)

braced_found : (text part : List ℕ) (step s : Step) (rest : List ℕ) → IsStep (codes "^{" ++ part) step → starts_with nat_eq text part ≡ true → Found step (drop (length part) text) ≡ Found s rest → Braced text s rest
braced_found text part step s rest i h e =
    let same : step ≡ s = cc e in
    let after : drop (length part) text ≡ rest = cc e in
    (part, subst (λ (k : Step). IsStep (codes "^{" ++ part) k) same i, split_from_starts text part h ∙ ap (λ r. part ++ r) after)

braced_front : (text : List ℕ) (s : Step) (rest : List ℕ) → braced_at text ≡ Found s rest → Braced text s rest
braced_front text s rest e = elim (chosen (starts_with nat_eq text (codes "}")) _ _ _ e) [
  | inl h ↦ braced_found text (codes "}") steps.Peel s rest refl h.0 h.1
  | inr h ↦ elim (chosen (starts_with nat_eq text (codes "commit}")) _ _ _ h.1) [
    | inl h ↦ braced_found text (codes "commit}") (steps.PeelTo kinds.Commit) s rest refl h.0 h.1
    | inr h ↦ elim (chosen (starts_with nat_eq text (codes "tree}")) _ _ _ h.1) [
      | inl h ↦ braced_found text (codes "tree}") (steps.PeelTo kinds.Tree) s rest refl h.0 h.1
      | inr h ↦ elim (chosen (starts_with nat_eq text (codes "blob}")) _ _ _ h.1) [
        | inl h ↦ braced_found text (codes "blob}") (steps.PeelTo kinds.Blob) s rest refl h.0 h.1
        | inr h ↦ elim (chosen (starts_with nat_eq text (codes "tag}")) _ _ _ h.1) [
          | inl h ↦ braced_found text (codes "tag}") (steps.PeelTo kinds.Tag) s rest refl h.0 h.1
          | inr h ↦ absurd (cc h.1)
        ]
      ]
    ]
  ]
]

-- a number behind its mark
marked : (mark : ℕ) (make : ℕ → Step) (read : Option (ℕ × List ℕ)) (text : List ℕ) → counted_at text ≡ read → ((n : ℕ) (digits : List ℕ) → IsCount digits n → IsStep (mark ∷ digits) (make n)) → (s : Step) (rest : List ℕ) → with_count make read ≡ Found s rest → Front (mark ∷ text) s rest
marked mark make None text r spelled s rest e = absurd (cc e)
marked mark make (Some found) text r spelled s rest e =
    let front = counted_front text found r in
    let same : make found.0 ≡ s = cc e in
    let after : found.1 ≡ rest = cc e in
    (mark ∷ front.0, subst (λ (k : Step). IsStep (mark ∷ front.0) k) same (spelled found.0 front.0 front.1), ap (λ t. mark ∷ t) (front.2 ∙ ap (λ r. front.0 ++ r) after))

eqb_is : (a b : ℕ) → (a == b) ≡ true → a ≡ b
eqb_is a b h = (Decides-eqb a b).0 h

caret_front : (text : List ℕ) (s : Step) (rest : List ℕ) → caret_at text ≡ Found s rest → Front (94 ∷ text) s rest
caret_front [] s rest e =
    let same : steps.Parent 1 ≡ s = cc e in
    let after : [] ≡ rest = cc e in
    (94 ∷ [], subst (λ (k : Step). IsStep (94 ∷ []) k) same ([], refl, inl (refl, refl)), ap (λ r. 94 ∷ r) after)
caret_front (b ∷ bs) s rest e = elim (chosen (b == 64 || (b == 33 || b == 45)) _ _ _ e) [
  | inl h ↦ absurd (cc h.1)
  | inr h ↦ elim (chosen (b == 123) _ _ _ h.1) [
    | inl h ↦
        let brace : b ≡ 123 = eqb_is b 123 h.0 in
        let f = braced_front bs s rest h.1 in (codes "^{" ++ f.0, f.1, ap (λ x. 94 ∷ x ∷ bs) brace ∙ ap (λ t. codes "^{" ++ t) f.2)
    | inr h ↦ marked 94 steps.Parent (counted_at (b ∷ bs)) (b ∷ bs) refl (λ n digits i. (digits, refl, i)) s rest h.1
  ]
]

-- a step that is read is spelled so
pub step_front : (text : List ℕ) (s : Step) (rest : List ℕ) → step_at text ≡ Found s rest → Front text s rest
step_front [] s rest e = absurd (cc e)
step_front (b ∷ bs) s rest e = elim (chosen (b == 94) _ _ _ e) [
  | inl h ↦
      let mark : b ≡ 94 = eqb_is b 94 h.0 in
      let f = caret_front bs s rest h.1 in (f.0, f.1, ap (λ x. x ∷ bs) mark ∙ f.2)
  | inr h ↦ elim (chosen (b == 126) _ _ _ h.1) [
    | inl h ↦
        let mark : b ≡ 126 = eqb_is b 126 h.0 in
        let f = marked 126 steps.Ancestor (counted_at bs) bs refl (λ n digits i. (digits, refl, i)) s rest h.1 in (f.0, f.1, ap (λ x. x ∷ bs) mark ∙ f.2)
    | inr h ↦ absurd (cc h.1)
  ]
]

-- a step takes at least a byte
pub step_some : (a : List ℕ) (s : Step) → IsStep a s → 0 < length a
step_some a (steps.Parent n) i = rw i.1 (omega arith)
step_some a (steps.Ancestor n) i = rw i.1 (omega arith)
step_some a steps.Peel i = rw i (omega arith)
step_some a (steps.PeelTo kind) i = rw i (omega arith)

-- no step goes on with these bytes
abbrev pub Ends : List ℕ → Type 0
Ends [] = Unit {0}
Ends (b ∷ bs) = (is_digit b ≡ false) × ((b == 123) ≡ false) × ((b == 64 || (b == 33 || b == 45)) ≡ false)

own_digits : (digits rest : List ℕ) → AllByRecursion IsDigit digits → Ends rest → (digits_of (digits ++ rest) ≡ digits) × (after_digits (digits ++ rest) ≡ rest)
own_digits [] [] a e = (refl, refl)
own_digits [] (b ∷ bs) a e = (rw e.0 refl, rw e.0 refl)
own_digits (d ∷ ds) rest a e =
    let both = own_digits ds rest a.1 e in
    let digit : is_digit d ≡ true = test_from_digit d a.0 in
    (rw digit (ap (λ t. d ∷ t) both.0), rw digit both.1)

pub counted_again : (digits : List ℕ) (n : ℕ) (rest : List ℕ) → IsCount digits n → Ends rest → counted_at (digits ++ rest) ≡ Some (n, rest)
counted_again digits n rest (inl h) e =
    let both = own_digits [] rest tt e in
    rw (h.0, h.1, both.0, both.1) refl
counted_again digits n rest (inr h) e =
    let both = own_digits digits rest h.all e in
    let some : (length digits == 0) ≡ false = grind (arith, nat_tests, h.some) in
    let short : nat_lt 9 (length digits) ≡ false = grind (arith, nat_tests, h.short) in
    rw (both.0, both.1, some, short, ← h.value) refl

-- behind `^` no sign comes that makes it another step
abbrev Unmarked : List ℕ → Type 0
Unmarked [] = Unit {0}
Unmarked (b ∷ bs) = ((b == 123) ≡ false) × ((b == 64 || (b == 33 || b == 45)) ≡ false)

caret_unmarked : (text : List ℕ) → Unmarked text → caret_at text ≡ with_count steps.Parent (counted_at text)
caret_unmarked [] u = refl
caret_unmarked (b ∷ bs) u = rw (u.1, u.0) refl

unmarked : (digits : List ℕ) (n : ℕ) (rest : List ℕ) → IsCount digits n → Ends rest → Unmarked (digits ++ rest)
unmarked [] n [] i e = tt
unmarked [] n (b ∷ bs) i e = (e.1, e.2)
unmarked (d ∷ ds) n rest (inl h) e = absurd (cc h.0)
unmarked (d ∷ ds) n rest (inr h) e = digit_marks d h.all.0

pub step_again : (a : List ℕ) (s : Step) (rest : List ℕ) → IsStep a s → Ends rest → step_at (a ++ rest) ≡ Found s rest
step_again a (steps.Parent n) rest i e =
    rw i.1 (caret_unmarked (i.0 ++ rest) (unmarked i.0 n rest i.2 e) ∙ ap (with_count steps.Parent) (counted_again i.0 n rest i.2 e))
step_again a (steps.Ancestor n) rest i e = rw i.1 (ap (with_count steps.Ancestor) (counted_again i.0 n rest i.2 e))
step_again a steps.Peel rest i e = rw i refl
step_again a (steps.PeelTo kinds.Commit) rest i e = rw i refl
step_again a (steps.PeelTo kinds.Tree) rest i e = rw i refl
step_again a (steps.PeelTo kinds.Blob) rest i e = rw i refl
step_again a (steps.PeelTo kinds.Tag) rest i e = rw i refl

-- a step may follow a step
pub step_ends : (a : List ℕ) (s : Step) (rest : List ℕ) → IsStep a s → Ends (a ++ rest)
step_ends a (steps.Parent n) rest i = rw i.1 (refl, refl, refl)
step_ends a (steps.Ancestor n) rest i = rw i.1 (refl, refl, refl)
step_ends a steps.Peel rest i = rw i (refl, refl, refl)
step_ends a (steps.PeelTo kind) rest i = rw i (refl, refl, refl)
