-- An expression denotes one answer at most.
use Rattle.std.proofs.Common.{◌≡◌, ◌⊎◌, inl, inr, ℕ, zero, suc, Bool, true, false, List, [], ◌∷◌, Option, Some, None, Result, Ok, Err, IfOk, IfErr, MatchBool, MatchOption, MatchResult, Contains, option_map, option_and_then, nat_lt, length, refl, sym, ap, subst, ◌∙◌}
use Rattle.vc_object_map.specs.Graph.{LinksTo, Reaches, itself, onward}
use Rattle.vc_object.specs.Decoding.{StoredObject}
use Rattle.vc_object.specs.ObjectMap.{ObjectMap}
use Rattle.vc_object.specs.declared.id.ObjectId.{ObjectId}
use Rattle.vc_object.specs.declared.kind.Kind.{Kind}
use Rattle.vc_object.specs.declared.kind.Kind.TheVariants as kinds
use Rattle.vc_object.specs.declared.mode.Mode.{Mode}
use Rattle.vc_object.specs.declared.mode.Mode.TheVariants as modes
use Rattle.vc_rev.specs.Answer.{After, Continues, IsAnswered, IsTold}
use Rattle.vc_expression.specs.Grammar.{RevText, ExprText, Object, InTree, InIndex}
use Rattle.vc_rev.specs.Meaning.{target_in, tag_links, pick, places, is_prefix, is_head, id_of, components, child_at, PeelsTo, PicksFrom, FirstParents, AncestorGives, PeelGives, StepGives, StepsGive, RefGives, FirstValue, PrefixGives, DigitsGive, ShortGives, NameGives, RevGives, EntryGives, PathGives, Denotes}
use Rattle.vc_rev.specs.Question.{Question}
use Rattle.vc_rev.specs.Source.{Source}
use Rattle.vc_rev.specs.declared.refusal.Refusal.{Refusal}
use Rattle.vc_rev.specs.declared.refusal.Refusal.TheVariants.{Unknown, Ambiguous, TooShort, NoSuchParent, WrongKind, NoSuchPath}
use Rattle.vc_rev.specs.declared.refusal.RevFault.{RevFault}
use Rattle.vc_rev.specs.declared.refusal.RevFault.TheVariants as faults
use Rattle.vc_rev.specs.declared.refusal.SourceFault.{SourceFault}
use Rattle.vc_expression.specs.declared.token.Step.{Step}
use Rattle.vc_expression.specs.declared.token.Step.TheVariants as steps
use Rattle.vc_rev.proofs.NamesLemmas.{one_is}

-- at most one thing is given
abbrev pub AtMostOne : {A : Type 0} → (A → Type 0) → Type 0
AtMostOne {A} Gives = (a b : A) → Gives a → Gives b → a ≡ b

pub equal_one : {A : Type 0} (x : A) → AtMostOne (λ a. a ≡ x)
equal_one x a b p q = p ∙ sym q

-- one answer after another
pub after_one : {A B : Type 0} (First : Result A Refusal → Type 0) (next : A → Result B Refusal → Type 0) → AtMostOne First → ((x : A) → AtMostOne (next x)) → AtMostOne (After First next)
after_one {A} {B} First next first then a b p q = by p.0 q.0 (first p.0 q.0 p.1 q.1) p.2 q.2
  where
    by : (x y : Result A Refusal) → x ≡ y → Continues next a x → Continues next b y → a ≡ b
    by (Ok x) (Ok y) e h k = let same : x ≡ y = cc e in then x a b h (subst (λ z. next z b) (sym same) k)
    by (Err x) (Err y) e h k = let same : x ≡ y = cc e in h ∙ ap Err same ∙ sym k
    by (Ok x) (Err y) e h k = absurd (cc e)
    by (Err x) (Ok y) e h k = absurd (cc e)

pub test_one : {A : Type 0} (b : Bool) (P Q : A → Type 0) → AtMostOne P → AtMostOne Q → AtMostOne (λ x. MatchBool b (P x) (Q x))
test_one true P Q p q x y h k = p x y h k
test_one false P Q p q x y h k = q x y h k

pub option_one : {A X : Type 0} (o : Option X) (P : A → Type 0) (Q : X → A → Type 0) → AtMostOne P → ((x : X) → AtMostOne (Q x)) → AtMostOne (λ a. MatchOption o (P a) (λ x. Q x a))
option_one None P Q p q a b h k = p a b h k
option_one (Some x) P Q p q a b h k = q x a b h k

-- Links of which each name has one at most lead along one line.
module _ {Id : Type 0} (links : Id → Option (List Id)) (single : (x y z : Id) → LinksTo links x y → LinksTo links x z → y ≡ z) where
  reaches_first : {x z : Id} → Reaches links x z → (x ≡ z) ⊎ ((y : Id) × LinksTo links x y × Reaches links y z)
  reaches_first itself = inl refl
  reaches_first {x} (onward {y} {z} r l) = elim (reaches_first r) [
    | inl is ↦ inr (z, subst (λ v. LinksTo links v z) (sym is) l, itself)
    | inr f ↦ inr (f.0, f.1, onward f.2 l)
  ]

  -- of two names that x reaches, one reaches the other
  in_line : {x y z : Id} → Reaches links x y → Reaches links x z → Reaches links y z ⊎ Reaches links z y
  in_line p itself = inr p
  in_line {x} {y} p (onward {y = w} {z = z} q l) = elim (in_line p q) [
    | inl r ↦ inl (onward r l)
    | inr r ↦ elim (reaches_first r) [
      | inl is ↦ inl (subst (λ v. Reaches links v z) is (onward itself l))
      | inr f ↦ inr (subst (λ v. Reaches links v y) (single w f.0 z f.1 l) f.2)
    ]
  ]

  -- a name without links reaches itself alone
  reaches_stuck : {y z : Id} → links y ≡ None → Reaches links y z → y ≡ z
  reaches_stuck none itself = refl
  reaches_stuck {y} none (onward {y = w} {z = z} r l) =
      let same : y ≡ w = reaches_stuck none r in
      let e : Some l.0 ≡ None = sym l.1 ∙ ap links (sym same) ∙ none in
      absurd (cc e)

  pub ends_same : {x y z : Id} → links y ≡ None → links z ≡ None → Reaches links x y → Reaches links x z → y ≡ z
  ends_same no_y no_z p q = elim (in_line p q) [
    | inl r ↦ reaches_stuck no_y r
    | inr r ↦ sym (reaches_stuck no_z r)
  ]

-- a tag links to one name
tag_single : (objects : ObjectMap) (x y z : ObjectId) → LinksTo (tag_links objects) x y → LinksTo (tag_links objects) x z → y ≡ z
tag_single objects x y z p q = by (option_and_then target_in (objects x)) p q
  where
    is_that : (t v : ObjectId) → (ys : List ObjectId) × (◌≡◌ {A = Option (List ObjectId)} (Some (t ∷ [])) (Some ys)) × Contains ys v → v ≡ t
    is_that t v h = let same : h.0 ≡ t ∷ [] = let e = h.1 in cc e in one_is t v (subst (λ ys. Contains ys v) same h.2)

    by : (o : Option ObjectId) → (ys : List ObjectId) × (option_map (λ t. t ∷ []) o ≡ Some ys) × Contains ys y → (ys : List ObjectId) × (option_map (λ t. t ∷ []) o ≡ Some ys) × Contains ys z → y ≡ z
    by None h k = let e = h.1 in absurd (cc e)
    by (Some t) h k = is_that t y h ∙ sym (is_that t z k)

no_links : (objects : ObjectMap) (x : ObjectId) → option_and_then target_in (objects x) ≡ None → tag_links objects x ≡ None
no_links objects x e = ap (option_map (λ t. t ∷ [])) e

module _ (s : Source) where
  absent_ends : (y : ObjectId) → s.objects y ≡ None → tag_links s.objects y ≡ None
  absent_ends y e = no_links s.objects y (ap (option_and_then target_in) e)

  found_ends : (y : ObjectId) (o : StoredObject) → s.objects y ≡ Some o → target_in o ≡ None → tag_links s.objects y ≡ None
  found_ends y o e none = no_links s.objects y (ap (option_and_then target_in) e ∙ none)

  -- what is reached by tags that lead back ends nowhere
  no_end : (x y : ObjectId) → PeelsTo s x (Err WrongKind) → Reaches (tag_links s.objects) x y → tag_links s.objects y ≡ None → ⊥
  no_end x y closed r none = let e = closed y r in absurd (cc (e, none))

  -- an absent object and one that is there don't both end the tags
  not_absent : (x : ObjectId) (f : ObjectId × StoredObject) → PeelsTo s x (Ok f) → PeelsTo s x (Err Unknown) → ⊥
  not_absent x f p q =
      let same : f.0 ≡ q.0 = ends_same (tag_links s.objects) (tag_single s.objects) (found_ends f.0 f.1 p.1 p.2) (absent_ends q.0 q.2) p.0 q.1 in
      let e : Some f.1 ≡ None = sym p.1 ∙ ap s.objects same ∙ q.2 in
      cc e

  pub peels_one : (x : ObjectId) → AtMostOne (PeelsTo s x)
  peels_one x (Ok f) (Ok g) p q =
      let same : f.0 ≡ g.0 = ends_same (tag_links s.objects) (tag_single s.objects) (found_ends f.0 f.1 p.1 p.2) (found_ends g.0 g.1 q.1 q.2) p.0 q.0 in
      let objects : Some f.1 ≡ Some g.1 = sym p.1 ∙ ap s.objects same ∙ q.1 in
      let held : f.1 ≡ g.1 = cc objects in
      let both : (f.0, f.1) ≡ (g.0, g.1) = cc (same, held) in
      ap Ok both
  peels_one x (Ok f) (Err Unknown) p q = absurd (not_absent x f p q)
  peels_one x (Ok f) (Err WrongKind) p q = absurd (no_end x f.0 q p.0 (found_ends f.0 f.1 p.1 p.2))
  peels_one x (Err Unknown) (Ok f) p q = absurd (not_absent x f q p)
  peels_one x (Err Unknown) (Err Unknown) p q = refl
  peels_one x (Err Unknown) (Err WrongKind) p q = absurd (no_end x p.0 q p.1 (absent_ends p.0 p.2))
  peels_one x (Err WrongKind) (Ok f) p q = absurd (no_end x f.0 p q.0 (found_ends f.0 f.1 q.1 q.2))
  peels_one x (Err WrongKind) (Err Unknown) p q = absurd (no_end x q.0 p q.1 (absent_ends q.0 q.2))
  peels_one x (Err WrongKind) (Err WrongKind) p q = refl
  peels_one x (Err Ambiguous) b p q = absurd p
  peels_one x (Err TooShort) b p q = absurd p
  peels_one x (Err NoSuchParent) b p q = absurd p
  peels_one x (Err NoSuchPath) b p q = absurd p
  peels_one x a (Err Ambiguous) p q = absurd q
  peels_one x a (Err TooShort) p q = absurd q
  peels_one x a (Err NoSuchParent) p q = absurd q
  peels_one x a (Err NoSuchPath) p q = absurd q

  pub picks_one : (step : Step) (x : ObjectId) → AtMostOne (PicksFrom s step x)
  picks_one step x = after_one (PeelsTo s x) (λ found a. a ≡ pick step found) (peels_one x) (λ found. equal_one (pick step found))

  parents_one : (n : ℕ) (x : ObjectId) → AtMostOne (FirstParents s n x)
  parents_one zero x = equal_one (Ok x)
  parents_one (suc n) x = after_one (PicksFrom s (steps.Parent 1) x) (FirstParents s n) (picks_one (steps.Parent 1) x) (parents_one n)

  ancestor_one : (n : ℕ) (x : ObjectId) → AtMostOne (AncestorGives s n x)
  ancestor_one zero x = picks_one (steps.Parent 0) x
  ancestor_one (suc n) x = parents_one (suc n) x

  peel_to_one : (kind : Kind) (x : ObjectId) → AtMostOne (PeelGives s kind x)
  peel_to_one kinds.Tag x = λ a b p q. p ∙ sym q
  peel_to_one kinds.Blob x = picks_one (steps.PeelTo kinds.Blob) x
  peel_to_one kinds.Tree x = picks_one (steps.PeelTo kinds.Tree) x
  peel_to_one kinds.Commit x = picks_one (steps.PeelTo kinds.Commit) x

  step_one : (step : Step) (x : ObjectId) → AtMostOne (StepGives s step x)
  step_one (steps.Parent n) x = picks_one (steps.Parent n) x
  step_one (steps.Ancestor n) x = ancestor_one n x
  step_one steps.Peel x = picks_one steps.Peel x
  step_one (steps.PeelTo kind) x = peel_to_one kind x

  pub steps_one : (list : List Step) (x : ObjectId) → AtMostOne (StepsGive s list x)
  steps_one [] x = equal_one (Ok x)
  steps_one (step ∷ others) x = after_one (StepGives s step x) (StepsGive s others) (step_one step x) (steps_one others)

  ref_one : (name : List ℕ) → AtMostOne (RefGives s name)
  ref_one name a b (inl p) (inl q) = p.1 ∙ sym q.1
  ref_one name a b (inl p) (inr q) = absurd (q.0 p.0)
  ref_one name a b (inr p) (inl q) = absurd (p.0 q.0)
  ref_one name a b (inr p) (inr q) = p.1 ∙ sym q.1

  first_one : (names : List (List ℕ)) → AtMostOne (FirstValue s names)
  first_one [] a b p q = p ∙ sym q
  first_one (name ∷ names) a b p q = by (first_one names) p.0 q.0 (ref_one name p.0 q.0 p.1 q.1) p.2 q.2
    where
      by : AtMostOne (FirstValue s names) → (x y : Option ObjectId) → x ≡ y → MatchOption x (FirstValue s names a) (λ id. a ≡ Some id) → MatchOption y (FirstValue s names b) (λ id. b ≡ Some id) → a ≡ b
      by others None None e h k = others a b h k
      by others (Some x) (Some y) e h k = h ∙ e ∙ sym k
      by others None (Some y) e h k = absurd (cc e)
      by others (Some x) None e h k = absurd (cc e)

  prefix_one : (digits : List ℕ) → AtMostOne (PrefixGives s digits)
  prefix_one digits (Ok x) (Ok y) p q = let same : x ≡ y = q.1 x p.0 in ap Ok same
  prefix_one digits (Ok x) (Err Unknown) p q = absurd (q x p.0)
  prefix_one digits (Ok x) (Err Ambiguous) p q = absurd (q.4 (p.1 q.0 q.2 ∙ sym (p.1 q.1 q.3)))
  prefix_one digits (Err Unknown) (Ok x) p q = absurd (p x q.0)
  prefix_one digits (Err Unknown) (Err Unknown) p q = refl
  prefix_one digits (Err Unknown) (Err Ambiguous) p q = absurd (p q.0 q.2)
  prefix_one digits (Err Ambiguous) (Ok x) p q = absurd (p.4 (q.1 p.0 p.2 ∙ sym (q.1 p.1 p.3)))
  prefix_one digits (Err Ambiguous) (Err Unknown) p q = absurd (q p.0 p.2)
  prefix_one digits (Err Ambiguous) (Err Ambiguous) p q = refl
  prefix_one digits (Err TooShort) b p q = absurd p
  prefix_one digits (Err NoSuchParent) b p q = absurd p
  prefix_one digits (Err WrongKind) b p q = absurd p
  prefix_one digits (Err NoSuchPath) b p q = absurd p
  prefix_one digits a (Err TooShort) p q = absurd q
  prefix_one digits a (Err NoSuchParent) p q = absurd q
  prefix_one digits a (Err WrongKind) p q = absurd q
  prefix_one digits a (Err NoSuchPath) p q = absurd q

  digits_one : (name : List ℕ) → AtMostOne (DigitsGive s name)
  digits_one name =
      test_one (is_prefix name) (λ a. MatchBool (nat_lt (length name) 4) (a ≡ Err TooShort) (PrefixGives s name a)) (λ a. a ≡ Err Unknown)
      (test_one (nat_lt (length name) 4) (λ a. a ≡ Err TooShort) (PrefixGives s name) (equal_one (Err TooShort)) (prefix_one name))
      (equal_one (Err Unknown))

  short_one : (name : List ℕ) → AtMostOne (ShortGives s name)
  short_one name a b p q =
      option_one p.0 (DigitsGive s name) (λ id a. a ≡ Ok id) (digits_one name) (λ id. equal_one (Ok id)) a b p.2
      (subst (λ v. MatchOption v (DigitsGive s name b) (λ id. b ≡ Ok id)) (sym (first_one (places name) p.0 q.0 p.1 q.1)) q.2)

  name_one : (name : List ℕ) → AtMostOne (NameGives s name)
  name_one name =
      test_one (is_head name) _ (λ a. MatchOption (id_of name) (ShortGives s name a) (λ id. a ≡ Ok id)) (λ a b p q. p ∙ sym q)
      (option_one (id_of name) (ShortGives s name) (λ id a. a ≡ Ok id) (short_one name) (λ id. equal_one (Ok id)))

  pub rev_one : (rev : RevText) → AtMostOne (RevGives s rev)
  rev_one rev = after_one (NameGives s rev.base) (StepsGive s rev.steps) (name_one rev.base) (steps_one rev.steps)

  entry_one : (parts : List (List ℕ)) (mode : Mode) (x : ObjectId) → AtMostOne (EntryGives s parts mode x)
  entry_one [] mode x = equal_one (Ok x)
  entry_one (part ∷ parts) mode x = after_one (λ a. a ≡ child_at s part mode x) (λ child. EntryGives s parts child.0 child.1) (equal_one (child_at s part mode x)) (λ child. entry_one parts child.0 child.1)

  path_one : (path : List ℕ) (x : ObjectId) → AtMostOne (PathGives s path x)
  path_one path x =
      after_one (PicksFrom s (steps.PeelTo kinds.Tree) x) (EntryGives s (components path) modes.Tree) (picks_one (steps.PeelTo kinds.Tree) x) (entry_one (components path) modes.Tree)

  pub denotes_one : (text : ExprText) → AtMostOne (Denotes s text)
  denotes_one (Object rev) = rev_one rev
  denotes_one (InTree rev path) = after_one (RevGives s rev) (PathGives s path) (rev_one rev) (path_one path)
  denotes_one (InIndex path) = λ a b p q. p ∙ sym q

-- what a relation of one answer at most gives is answered
pub only_answer : {A : Type 0} (Blames : Question → SourceFault → Type 0) (Asks : Question → Type 0) (Gives : Result A Refusal → Type 0) (r : Result A RevFault) → AtMostOne Gives → IfOk r (λ found. Gives (Ok found)) → IfErr r (IsTold Blames Asks Gives) → (answer : Result A Refusal) → Gives answer → MatchResult r (λ found. answer ≡ Ok found) (IsAnswered answer)
only_answer Blames Asks Gives (Ok found) one ok told answer h = one answer (Ok found) h ok
only_answer Blames Asks Gives (Err (faults.Refused refusal)) one ok told answer h = one answer (Err refusal) h told
only_answer Blames Asks Gives (Err (faults.Missing id)) one ok told answer h = told
only_answer Blames Asks Gives (Err (faults.NotACommit id)) one ok told answer h = told
only_answer Blames Asks Gives (Err (faults.Source fault)) one ok told answer h = tt
