-- What a set of terms selects, over refs and objects.
use Rattle.std.specs.Prelude.{◌≡◌, ◌⊎◌, ◌↔◌, ◌++◌, ℕ, List, [], ◌∷◌, Option, Some, None, IsSome, Result, Ok, Err, Contains, codes}
use Rattle.vc_object_map.specs.History.{IsCommonAncestor}
use Rattle.vc_object_map.specs.Parents.{IsOther}
use Rattle.vc_object_map.specs.Graph.{ReachedFrom}
use Rattle.vc_object_map.specs.StoreFault.{IsMet}
use Rattle.vc_object.specs.Decoding.{StoredObject}
use Rattle.vc_object.specs.Links.{parents_of}
use Rattle.vc_object.specs.ObjectMap.{ObjectMap, parents_in}
use Rattle.vc_object.specs.declared.id.ObjectId.{ObjectId}
use Rattle.vc_rev.specs.Answer.{After, IsAnswered, IsTold}
use Rattle.vc_rev.specs.Asking.{PeelingAsks, RevAsks}
use Rattle.vc_expression.specs.Grammar.{RevText}
use Rattle.vc_rev.specs.Meaning.{PeelsTo, RevGives}
use Rattle.vc_rev.specs.Question.{Question, AsksAfter}
use Rattle.vc_expression.specs.SetGrammar.{TermText, EndsText, Include, Exclude, Parents, ExcludeParents, Only, Since, Range, Symmetric, Both, From, To}
use Rattle.vc_rev.specs.Source.{Source}
use Rattle.vc_rev.specs.declared.refusal.Refusal.{Refusal}
use Rattle.vc_rev.specs.declared.refusal.Refusal.TheVariants.{WrongKind}
use Rattle.vc_rev.specs.declared.refusal.RevFault.{RevFault}
use Rattle.vc_rev.specs.declared.refusal.RevFault.TheVariants.{Refused, Missing, NotACommit, Source as Unanswered}
use Rattle.vc_rev.specs.declared.refusal.SourceFault.{SourceFault}
use Rattle.vc_rev.specs.declared.refusal.SourceFault.TheVariants as sources
use Rattle.vc_expression.specs.declared.token.Step.TheVariants as steps

-- commits that are included with their ancestors, commits that are excluded with theirs, and pairs of commits whose
-- common ancestors are excluded
pub record Selection : Type 0 where
  pub include : List ObjectId
  pub exclude : List ObjectId
  pub apart : List (ObjectId × ObjectId)

abbrev pub selection : List ObjectId → List ObjectId → List (ObjectId × ObjectId) → Selection
selection include exclude apart = record { include = include; exclude = exclude; apart = apart }

-- what one selection holds, and behind it what another does
abbrev pub joined : Selection → Selection → Selection
joined x y = selection (x.include ++ y.include) (x.exclude ++ y.exclude) (x.apart ++ y.apart)

-- the name and the parents of a commit
abbrev pub CommitRead : Type 0
CommitRead = ObjectId × List ObjectId

abbrev pub with_parents : ObjectId → Option (List ObjectId) → Result CommitRead Refusal
with_parents id None = Err WrongKind
with_parents id (Some parents) = Ok (id, parents)

-- the object as a commit
abbrev pub commit_at : ObjectId × StoredObject → Result CommitRead Refusal
commit_at found = with_parents found.0 (parents_of found.1.kind found.1.body)

-- HEAD, where one end of a range is left out
abbrev pub head_rev : RevText
head_rev = record { base = codes "@"; steps = [] }

-- `r^n`
abbrev pub nth_of : RevText → ℕ → RevText
nth_of rev n = record { base = rev.base; steps = rev.steps ++ steps.Parent n ∷ [] }

abbrev pub first_of : EndsText → RevText
first_of (Both a b) = a
first_of (From a) = a
first_of (To b) = head_rev

abbrev pub second_of : EndsText → RevText
second_of (Both a b) = b
second_of (From a) = head_rev
second_of (To b) = b

module _ (s : Source) where
  -- `r^{commit}`: the commit behind tags
  abbrev pub CommitGives : RevText → Result CommitRead Refusal → Type 0
  CommitGives rev answer = After (RevGives s rev) (λ x. After (PeelsTo s x) (λ found a. a ≡ commit_at found)) answer

  -- a selection that is made of one commit
  abbrev pub Makes : (CommitRead → Selection) → RevText → Result Selection Refusal → Type 0
  Makes make rev answer = After (CommitGives rev) (λ c a. a ≡ Ok (make c)) answer

  -- two commits
  abbrev pub BothGive : RevText → RevText → Result (ObjectId × ObjectId) Refusal → Type 0
  BothGive first second answer = After (CommitGives first) (λ a. After (CommitGives second) (λ b r. r ≡ Ok (a.0, b.0))) answer

  -- the commits at the ends of a range
  abbrev pub EndsGive : EndsText → Result (ObjectId × ObjectId) Refusal → Type 0
  EndsGive ends answer = BothGive (first_of ends) (second_of ends) answer

  -- `a..b` is `^a b`
  abbrev pub RangeGives : RevText → RevText → Result Selection Refusal → Type 0
  RangeGives first second answer = After (BothGive first second) (λ ends r. r ≡ Ok (selection (ends.1 ∷ []) (ends.0 ∷ []) [])) answer

  -- `a...b` includes both, and excludes their common ancestors
  abbrev pub SymmetricGives : RevText → RevText → Result Selection Refusal → Type 0
  SymmetricGives first second answer = After (BothGive first second) (λ ends r. r ≡ Ok (selection (ends.0 ∷ ends.1 ∷ []) [] (ends ∷ []))) answer

  -- what a term includes and excludes, or its refusal
  abbrev pub TermGives : TermText → Result Selection Refusal → Type 0
  TermGives (Include rev) answer = Makes (λ c. selection (c.0 ∷ []) [] []) rev answer
  TermGives (Exclude rev) answer = Makes (λ c. selection [] (c.0 ∷ []) []) rev answer
  TermGives (Parents rev) answer = Makes (λ c. selection c.1 [] []) rev answer
  TermGives (ExcludeParents rev) answer = Makes (λ c. selection [] c.1 []) rev answer
  TermGives (Only rev) answer = Makes (λ c. selection (c.0 ∷ []) c.1 []) rev answer
  TermGives (Since rev n) answer = RangeGives (nth_of rev n) rev answer
  TermGives (Range ends) answer = RangeGives (first_of ends) (second_of ends) answer
  TermGives (Symmetric ends) answer = SymmetricGives (first_of ends) (second_of ends) answer

  -- what terms include and exclude behind what others did, or the first refusal
  abbrev pub TermsGive : List TermText → Selection → Result Selection Refusal → Type 0
  TermsGive [] before answer = answer ≡ Ok before
  TermsGive (term ∷ others) before answer = After (TermGives term) (λ more. TermsGive others (joined before more)) answer

  abbrev pub SetGives : List TermText → Result Selection Refusal → Type 0
  SetGives terms answer = TermsGive terms (selection [] [] []) answer

  -- What terms ask of a repository before their walk.
  abbrev pub CommitAsks : RevText → Question → Type 0
  CommitAsks rev question = AsksAfter (RevAsks s rev) (RevGives s rev) (PeelingAsks s) question

  abbrev pub BothAsk : RevText → RevText → Question → Type 0
  BothAsk first second question = AsksAfter (CommitAsks first) (CommitGives first) (λ a. CommitAsks second) question

  abbrev pub EndsAsk : EndsText → Question → Type 0
  EndsAsk ends question = BothAsk (first_of ends) (second_of ends) question

  abbrev pub TermAsks : TermText → Question → Type 0
  TermAsks (Include rev) question = CommitAsks rev question
  TermAsks (Exclude rev) question = CommitAsks rev question
  TermAsks (Parents rev) question = CommitAsks rev question
  TermAsks (ExcludeParents rev) question = CommitAsks rev question
  TermAsks (Only rev) question = CommitAsks rev question
  TermAsks (Since rev n) question = BothAsk (nth_of rev n) rev question
  TermAsks (Range ends) question = EndsAsk ends question
  TermAsks (Symmetric ends) question = EndsAsk ends question

  -- no term behind the first that is refused asks anything
  abbrev pub TermsAsk : List TermText → Question → Type 0
  TermsAsk [] question = ⊥
  TermsAsk (term ∷ others) question = AsksAfter (TermAsks term) (TermGives term) (λ more. TermsAsk others) question

module _ (objects : ObjectMap) where
  -- a common ancestor of one of the pairs
  abbrev pub IsCommonOf : List (ObjectId × ObjectId) → ObjectId → Type 0
  IsCommonOf pairs c = (pair : ObjectId × ObjectId) × Contains pairs pair × IsCommonAncestor (parents_in objects) pair.0 pair.1 c

  -- an excluded commit reaches it, or both commits of a pair do
  abbrev pub IsExcludedBy : Selection → ObjectId → Type 0
  IsExcludedBy chosen c = ReachedFrom (parents_in objects) chosen.exclude c ⊎ IsCommonOf chosen.apart c

  -- an included commit reaches it by parent links, and it is not excluded
  abbrev pub IsSelectedBy : Selection → ObjectId → Type 0
  IsSelectedBy chosen c = ReachedFrom (parents_in objects) chosen.include c × ¬ IsExcludedBy chosen c

  -- what the commits of pairs reach
  abbrev pub IsMetByPairs : List (ObjectId × ObjectId) → ObjectId → Type 0
  IsMetByPairs pairs c = (pair : ObjectId × ObjectId) × Contains pairs pair × ReachedFrom (parents_in objects) (pair.0 ∷ pair.1 ∷ []) c

  -- what all commits of a selection reach, which its walk meets
  abbrev pub IsMetBy : Selection → ObjectId → Type 0
  IsMetBy chosen c = ReachedFrom (parents_in objects) (chosen.include ++ chosen.exclude) c ⊎ IsMetByPairs chosen.apart c

  -- the names are those of the common ancestors of the pairs
  abbrev pub AreCommon : List (ObjectId × ObjectId) → List ObjectId → Type 0
  AreCommon pairs ids = (c : ObjectId) → Contains ids c ↔ IsCommonOf pairs c

  -- all that is met is a commit
  abbrev pub ArePairsWalked : List (ObjectId × ObjectId) → Type 0
  ArePairsWalked pairs = (c : ObjectId) → IsMetByPairs pairs c → IsSome (parents_in objects c)

  abbrev pub IsWalked : Selection → Type 0
  IsWalked chosen = (c : ObjectId) → IsMetBy chosen c → IsSome (parents_in objects c)

  -- what a walk may answer in place of commits: that it met a name that is absent, that is no commit, or that is damaged
  abbrev pub IsOfWalk : (ObjectId → Type 0) → (ObjectId → Type 0) → RevFault → Type 0
  IsOfWalk Meets IsDamaged (Refused refusal) = ⊥
  IsOfWalk Meets IsDamaged (Missing id) = Meets id × (objects id ≡ None)
  IsOfWalk Meets IsDamaged (NotACommit id) = Meets id × IsOther objects id
  IsOfWalk Meets IsDamaged (Unanswered (sources.Store fault)) = IsMet Meets IsDamaged fault
  IsOfWalk Meets IsDamaged (Unanswered _) = ⊥

-- a term is refused; or all terms have a selection, and its walk ends early
abbrev pub IsToldOfSet : Source → (Question → SourceFault → Type 0) → (ObjectId → Type 0) → List TermText → RevFault → Type 0
IsToldOfSet s Blames IsDamaged terms e =
    IsTold Blames (TermsAsk s terms) (SetGives s terms) e
    ⊎ ((chosen : Selection) × SetGives s terms (Ok chosen) × IsOfWalk s.objects (IsMetBy s.objects chosen) IsDamaged e)

-- The ids are those of the commits that the terms select: the terms have a selection, all that its walk meets are commits, and these are
-- the selected ones.
abbrev pub Selects : Source → List TermText → List ObjectId → Type 0
Selects s terms ids =
    (chosen : Selection) × SetGives s terms (Ok chosen) × IsWalked s.objects chosen × ((id : ObjectId) → Contains ids id ↔ IsSelectedBy s.objects chosen id)

-- the set is refused so, unless the repository gave no answer
abbrev pub IsSetRefused : Refusal → RevFault → Type 0
IsSetRefused refusal e = IsAnswered (let answer : Result Selection Refusal = Err refusal in answer) e
