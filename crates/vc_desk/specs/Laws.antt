-- What holds of every log.
use Rattle.std.specs.FinMap.{get}
use Rattle.std.specs.List.{AllByRecursion}
use Rattle.std.specs.Prelude.{◌≡◌, ℕ, List, [], ◌++◌, map, Some}
use Rattle.vc_rules.specs.Git.{git}
use Rattle.vc_model.specs.Desk.{ExactLog, NoneCollide, OpensSound, WasThere, node_left, served}
use Rattle.vc_model.specs.Object.{Id}
use Rattle.vc_model.specs.Reach.{IsAncestorAmong}
use Rattle.vc_model.specs.Refs.{branch}
use Rattle.vc_model.specs.Safe.{ClosedUnderRefs}
use Rattle.vc_model.specs.Shared.{SharedNode}
use Rattle.vc_desk.specs.Entry.{AnswerText, EntryText, EventText}
use Rattle.vc_desk.specs.Entry.AnswerText.{Failed}
use Rattle.vc_desk.specs.Entry.EventText.{Accepts, Steps}
use Rattle.vc_desk.specs.Runs.{IsLogOf, Runs}

-- At each moment of the log the node is closed under its refs and HEAD; and a branch that has a value has one at every later moment, of
-- which the first is an ancestor, among all objects that came to be there.
pub record IsSafe (start : SharedNode) (es : ExactLog) : Type 0 where
  pub closed : (late early : ExactLog) → es ≡ late ++ early → ClosedUnderRefs git (node_left start early).repository
  pub forward : (late early : ExactLog) (b : List ℕ) (x : Id) → es ≡ late ++ early → get (node_left start early).repository.refs (branch b) ≡ Some x
      → (y : Id) × (get (node_left start es).repository.refs (branch b) ≡ Some y) × IsAncestorAmong git (WasThere start (map served es)) x y

-- A run from a sound node with no push open is safe, if no two of the objects that came to be there share a name.
abbrev pub EveryLogIsSafe : {S : Type 0} → (S → SharedNode → Type 0) → Type 0
EveryLogIsSafe {S} holds = (start now : S) (log : List EntryText) (n : SharedNode) → Runs holds start log now → holds start n → OpensSound git n
    → (es : ExactLog) × IsLogOf n log es × holds now (node_left n es) × (NoneCollide git n (map served es) → IsSafe n es)

abbrev pub IsStep : EventText → Type 0
IsStep (Accepts bytes) = ⊥
IsStep (Steps k) = Unit {0}

abbrev pub IsNoReply : AnswerText → Type 0
IsNoReply (Failed failure) = Unit {0}
IsNoReply _ = ⊥

-- At a sound node with no push open no step has a reply, however many there are: a log is bound at each of its entries, and not at the
-- first alone.
abbrev pub StepsOfNonePass : {S : Type 0} → (S → SharedNode → Type 0) → Type 0
StepsOfNonePass {S} holds = (start now : S) (log : List EntryText) (n : SharedNode) → Runs holds start log now → holds start n → OpensSound git n → NoneCollide git n []
    → AllByRecursion (λ e. IsStep e.event) log → AllByRecursion (λ e. IsNoReply e.answer) log
