-- What an expression asks of a repository, by cases on its text: what has to be answered before its value is known.
use Rattle.std.specs.Prelude.{◌≡◌, ◌⊎◌, ℕ, zero, suc, List, [], ◌∷◌, true, nat_lt, length, None, MatchBool, MatchOption}
use Rattle.vc_object_map.specs.Graph.{Reaches}
use Rattle.vc_object.specs.declared.id.ObjectId.{ObjectId}
use Rattle.vc_object.specs.declared.kind.Kind.{Kind}
use Rattle.vc_object.specs.declared.kind.Kind.TheVariants as kinds
use Rattle.vc_object.specs.declared.mode.Mode.{Mode}
use Rattle.vc_object.specs.declared.mode.Mode.TheVariants as modes
use Rattle.vc_expression.specs.Grammar.{RevText, ExprText, Object, InTree, InIndex}
use Rattle.vc_rev.specs.Meaning.{IsFullName, PicksFrom, StepGives, RefGives, FirstValue, NameGives, RevGives, child_at, components, id_of, is_folder, is_head, is_prefix, places, tag_links}
use Rattle.vc_rev.specs.Question.{Question, AsksAfter}
use Rattle.vc_rev.specs.Question as of
use Rattle.vc_rev.specs.Source.{Source}
use Rattle.vc_expression.specs.declared.token.Step.{Step}
use Rattle.vc_expression.specs.declared.token.Step.TheVariants as steps

abbrev pub HeadAsks : Question → Type 0
HeadAsks question = question ≡ of.Head

abbrev pub IndexAsks : List ℕ → Question → Type 0
IndexAsks path question = question ≡ of.Entry path

-- a text that is no whole name is not looked up
abbrev pub RefAsks : List ℕ → Question → Type 0
RefAsks name question = IsFullName name × (question ≡ of.Ref name)

-- the stored names, for 4 to 39 hex digits alone
abbrev pub DigitsAsk : List ℕ → Question → Type 0
DigitsAsk name question = MatchBool (is_prefix name) (MatchBool (nat_lt (length name) 4) ⊥ (question ≡ of.Prefix name)) ⊥

-- the tree of which an entry is wanted; what is no folder is not read
abbrev pub ChildAsks : Mode → ObjectId → Question → Type 0
ChildAsks mode id question = (is_folder mode ≡ true) × (question ≡ of.Object id)

module _ (s : Source) where
  -- each object that tags lead to
  abbrev pub PeelingAsks : ObjectId → Question → Type 0
  PeelingAsks x question = (y : ObjectId) × Reaches (tag_links s.objects) x y × (question ≡ of.Object y)

  abbrev pub FirstParentsAsk : ℕ → ObjectId → Question → Type 0
  FirstParentsAsk zero x question = ⊥
  FirstParentsAsk (suc n) x question = AsksAfter (PeelingAsks x) (PicksFrom s (steps.Parent 1) x) (FirstParentsAsk n) question

  abbrev pub AncestorAsks : ℕ → ObjectId → Question → Type 0
  AncestorAsks zero x question = PeelingAsks x question
  AncestorAsks (suc n) x question = FirstParentsAsk (suc n) x question

  -- a tag itself is not followed
  abbrev pub PeelAsks : Kind → ObjectId → Question → Type 0
  PeelAsks kinds.Tag x question = question ≡ of.Object x
  PeelAsks kind x question = PeelingAsks x question

  abbrev pub StepAsks : Step → ObjectId → Question → Type 0
  StepAsks (steps.Parent n) x question = PeelingAsks x question
  StepAsks (steps.Ancestor n) x question = AncestorAsks n x question
  StepAsks steps.Peel x question = PeelingAsks x question
  StepAsks (steps.PeelTo kind) x question = PeelAsks kind x question

  abbrev pub StepsAsk : List Step → ObjectId → Question → Type 0
  StepsAsk [] x question = ⊥
  StepsAsk (step ∷ others) x question = AsksAfter (StepAsks step x) (StepGives s step x) (StepsAsk others) question

  -- each of the names up to the first that has a value
  abbrev pub FirstValueAsks : List (List ℕ) → Question → Type 0
  FirstValueAsks [] question = ⊥
  FirstValueAsks (name ∷ names) question = RefAsks name question ⊎ (RefGives s name None × FirstValueAsks names question)

  -- the digits where no ref has a value
  abbrev pub ShortAsks : List ℕ → Question → Type 0
  ShortAsks name question = FirstValueAsks (places name) question ⊎ (FirstValue s (places name) None × DigitsAsk name question)

  -- HEAD for its own names alone, nothing for an id, and else the refs in whose places the name may stand
  abbrev pub NameAsks : List ℕ → Question → Type 0
  NameAsks name question = MatchBool (is_head name) (HeadAsks question) (MatchOption (id_of name) (ShortAsks name question) (λ id. ⊥))

  abbrev pub RevAsks : RevText → Question → Type 0
  RevAsks rev question = AsksAfter (NameAsks rev.base) (NameGives s rev.base) (StepsAsk rev.steps) question

  abbrev pub EntryAsks : List (List ℕ) → Mode → ObjectId → Question → Type 0
  EntryAsks [] mode id question = ⊥
  EntryAsks (part ∷ parts) mode id question = AsksAfter (ChildAsks mode id) (λ a. a ≡ child_at s part mode id) (λ child. EntryAsks parts child.0 child.1) question

  abbrev pub PathAsks : List ℕ → ObjectId → Question → Type 0
  PathAsks path x question = AsksAfter (PeelingAsks x) (PicksFrom s (steps.PeelTo kinds.Tree) x) (EntryAsks (components path) modes.Tree) question

  abbrev pub ExprAsks : ExprText → Question → Type 0
  ExprAsks (Object rev) question = RevAsks rev question
  ExprAsks (InTree rev path) question = AsksAfter (RevAsks rev) (RevGives s rev) (PathAsks path) question
  ExprAsks (InIndex path) question = IndexAsks path question
