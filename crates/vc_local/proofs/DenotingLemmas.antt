-- What an expression denotes rests on refs, HEAD, objects and the names that are stored, and on the index only where it names a path
-- of it: for the tie of a repository's files to the machine's, whose index may be another where none is read.
use Rattle.std.proofs.Common.{◌≡◌, ℕ, zero, suc, Bool, true, false, List, [], ◌∷◌, Option, Some, None, Result, Ok, Err, MatchBool, MatchOption, nat_lt, length, ap, ◌∙◌}
use Rattle.vc_object.specs.Decoding.{StoredObject}
use Rattle.vc_object.specs.ObjectMap.{ObjectMap}
use Rattle.vc_object.specs.declared.id.ObjectId.{ObjectId}
use Rattle.vc_object.specs.declared.kind.Kind.{Kind}
use Rattle.vc_object.specs.declared.kind.Kind.TheVariants as kinds
use Rattle.vc_object.specs.declared.mode.Mode.{Mode}
use Rattle.vc_object.specs.declared.mode.Mode.TheVariants as modes
use Rattle.vc_rev.specs.Answer.{After}
use Rattle.vc_expression.specs.Grammar.{RevText, ExprText, Object, InTree, InIndex}
use Rattle.vc_rev.specs.Meaning.{Answer, or_refusal, pick, places, is_prefix, is_head, id_of, components, child_at, PeelsTo, PicksFrom, FirstParents, AncestorGives, PeelGives, StepGives, StepsGive, FirstValue, PrefixGives, DigitsGive, ShortGives, NameGives, RevGives, EntryGives, PathGives, Denotes}
use Rattle.vc_rev.specs.Source.{Source, source}
use Rattle.vc_rev.specs.declared.refusal.Refusal.{Refusal}
use Rattle.vc_rev.specs.declared.refusal.Refusal.TheVariants.{Unknown, Ambiguous, TooShort, NoSuchParent, WrongKind, NoSuchPath}
use Rattle.vc_expression.specs.declared.token.Step.{Step}
use Rattle.vc_expression.specs.declared.token.Step.TheVariants as steps

-- one answer after another
after_on : {A B : Type 0} (F G : Result A Refusal → Type 0) (h k : A → Result B Refusal → Type 0) (answer : Result B Refusal)
    → ((first : Result A Refusal) → F first → G first) → ((a : A) → h a answer → k a answer) → After F h answer → After G k answer
after_on F G h k answer first next (Ok a, f, n) = (Ok a, first (Ok a) f, next a n)
after_on F G h k answer first next (Err e, f, n) = (Err e, first (Err e) f, n)

by_test : (b : Bool) {P Q R S : Type 0} → (P → R) → (Q → S) → MatchBool b P Q → MatchBool b R S
by_test true then_on else_on p = then_on p
by_test false then_on else_on q = else_on q

by_value : {A P Q : Type 0} (o : Option A) (R : A → Type 0) → (P → Q) → MatchOption o P R → MatchOption o Q R
by_value None R none p = none p
by_value (Some x) R none r = r

-- the index is the same where the expression names a path of it
abbrev pub IsIndexSame : (i j : List ℕ → Option ObjectId) → ExprText → Type 0
IsIndexSame i j (Object rev) = Unit {0}
IsIndexSame i j (InTree rev text) = Unit {0}
IsIndexSame i j (InIndex text) = i text ≡ j text

module _ (ref : List ℕ → Option ObjectId) (head : Option ObjectId) (i j : List ℕ → Option ObjectId) (objects : ObjectMap) (P Q : ObjectId → Type 0)
    (to : (id : ObjectId) → P id → Q id) (from : (id : ObjectId) → Q id → P id) where
  abbrev s : Source
  s = source (record { ref = ref; head = head; index = i }) objects P

  abbrev t : Source
  t = source (record { ref = ref; head = head; index = j }) objects Q

  peels : (x : ObjectId) (found : Result (ObjectId × StoredObject) Refusal) → PeelsTo s x found → PeelsTo t x found
  peels x (Ok found) h = h
  peels x (Err Unknown) h = h
  peels x (Err WrongKind) h = h
  peels x (Err Ambiguous) h = h
  peels x (Err TooShort) h = h
  peels x (Err NoSuchParent) h = h
  peels x (Err NoSuchPath) h = h

  picks : (step : Step) (x : ObjectId) (a : Answer) → PicksFrom s step x a → PicksFrom t step x a
  picks step x a = after_on (PeelsTo s x) (PeelsTo t x) (λ found b. b ≡ pick step found) (λ found b. b ≡ pick step found) a (peels x) (λ found h. h)

  first_parents : (n : ℕ) (x : ObjectId) (a : Answer) → FirstParents s n x a → FirstParents t n x a
  first_parents zero x a = λ h. h
  first_parents (suc n) x a = after_on (PicksFrom s (steps.Parent 1) x) (PicksFrom t (steps.Parent 1) x) (FirstParents s n) (FirstParents t n) a (picks (steps.Parent 1) x) (λ y. first_parents n y a)

  ancestor : (n : ℕ) (x : ObjectId) (a : Answer) → AncestorGives s n x a → AncestorGives t n x a
  ancestor zero x a = picks (steps.Parent 0) x a
  ancestor (suc n) x a = first_parents (suc n) x a

  peel_to : (kind : Kind) (x : ObjectId) (a : Answer) → PeelGives s kind x a → PeelGives t kind x a
  peel_to kinds.Tag x a = λ h. h
  peel_to kinds.Blob x a = picks (steps.PeelTo kinds.Blob) x a
  peel_to kinds.Tree x a = picks (steps.PeelTo kinds.Tree) x a
  peel_to kinds.Commit x a = picks (steps.PeelTo kinds.Commit) x a

  one_step : (step : Step) (x : ObjectId) (a : Answer) → StepGives s step x a → StepGives t step x a
  one_step (steps.Parent n) x a = picks (steps.Parent n) x a
  one_step (steps.Ancestor n) x a = ancestor n x a
  one_step steps.Peel x a = picks steps.Peel x a
  one_step (steps.PeelTo kind) x a = peel_to kind x a

  all_steps : (list : List Step) (x : ObjectId) (a : Answer) → StepsGive s list x a → StepsGive t list x a
  all_steps [] x a = λ h. h
  all_steps (step ∷ others) x a = after_on (StepGives s step x) (StepGives t step x) (StepsGive s others) (StepsGive t others) a (one_step step x) (λ y. all_steps others y a)

  first_value : (names : List (List ℕ)) (a : Option ObjectId) → FirstValue s names a → FirstValue t names a
  first_value [] a h = h
  first_value (name ∷ names) a (value, gives, rest) = (value, gives, by_value value (λ id. a ≡ Some id) (first_value names a) rest)

  prefix : (digits : List ℕ) (a : Answer) → PrefixGives s digits a → PrefixGives t digits a
  prefix digits (Ok id) h = ((to id h.0.0, h.0.1), λ other begins. h.1 other (from other begins.0, begins.1))
  prefix digits (Err Unknown) h = λ other begins. h other (from other begins.0, begins.1)
  prefix digits (Err Ambiguous) (x, y, first, second, apart) = (x, y, (to x first.0, first.1), (to y second.0, second.1), apart)
  prefix digits (Err TooShort) h = h
  prefix digits (Err NoSuchParent) h = h
  prefix digits (Err WrongKind) h = h
  prefix digits (Err NoSuchPath) h = h

  by_digits : (name : List ℕ) (a : Answer) → DigitsGive s name a → DigitsGive t name a
  by_digits name a = by_test (is_prefix name) (by_test (nat_lt (length name) 4) (λ h. h) (prefix name a)) (λ h. h)

  short : (name : List ℕ) (a : Answer) → ShortGives s name a → ShortGives t name a
  short name a (value, first, rest) = (value, first_value (places name) value first, by_value value (λ id. a ≡ Ok id) (by_digits name a) rest)

  by_name : (name : List ℕ) (a : Answer) → NameGives s name a → NameGives t name a
  by_name name a = by_test (is_head name) (λ h. h) (by_value (id_of name) (λ id. a ≡ Ok id) (short name a))

  revision : (rev : RevText) (a : Answer) → RevGives s rev a → RevGives t rev a
  revision rev a = after_on (NameGives s rev.base) (NameGives t rev.base) (StepsGive s rev.steps) (StepsGive t rev.steps) a (by_name rev.base) (λ x. all_steps rev.steps x a)

  entry : (parts : List (List ℕ)) (mode : Mode) (x : ObjectId) (a : Answer) → EntryGives s parts mode x a → EntryGives t parts mode x a
  entry [] mode x a = λ h. h
  entry (part ∷ parts) mode x a =
      after_on (λ c. c ≡ child_at s part mode x) (λ c. c ≡ child_at t part mode x) (λ child. EntryGives s parts child.0 child.1) (λ child. EntryGives t parts child.0 child.1) a
      (λ c h. h) (λ child. entry parts child.0 child.1 a)

  path : (text : List ℕ) (x : ObjectId) (a : Answer) → PathGives s text x a → PathGives t text x a
  path text x a =
      after_on (PicksFrom s (steps.PeelTo kinds.Tree) x) (PicksFrom t (steps.PeelTo kinds.Tree) x) (EntryGives s (components text) modes.Tree) (EntryGives t (components text) modes.Tree) a
      (picks (steps.PeelTo kinds.Tree) x) (λ y. entry (components text) modes.Tree y a)

  pub denotes_on : (e : ExprText) (a : Answer) → IsIndexSame i j e → Denotes s e a → Denotes t e a
  denotes_on (Object rev) a same = revision rev a
  denotes_on (InTree rev text) a same = after_on (RevGives s rev) (RevGives t rev) (PathGives s text) (PathGives t text) a (revision rev) (λ x. path text x a)
  denotes_on (InIndex text) a same = λ h. h ∙ ap (λ (o : Option ObjectId). or_refusal o NoSuchPath) same
