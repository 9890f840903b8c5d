-- What the layers give is as the machine asks of its rules: one answer at most to each question, an index only of a tree of which
-- all is there; the trees of an index each under its name and of its kind, and all there that the root reaches.
use Rattle.std.specs.Prelude.{◌≡◌, ℕ, List, Option, Some, None, Result, Ok}
use Rattle.std.specs.FinMap.{get}
use Rattle.vc_index.specs.Path.{IsPath}
use Rattle.vc_model.specs.Object.{Object, Objects, Id, Lookup, IsNamed, stored}
use Rattle.vc_model.specs.Reach.{IsClosed}
use Rattle.vc_model.specs.Repository.{Repository, Index}
use Rattle.vc_model.specs.Clone.{IsIndexOf}
use Rattle.vc_model.specs.Rules.{Rules, AreEntriesClosed, AreFound}
use Rattle.vc_rules.specs.Git.{git}
use Rattle.vc_values.specs.Faults.{FaultGives}
use Rattle.vc_values.specs.Trees.{TreeGives, TreesGive}
use Rattle.vc_values.specs.Values.{DenotesAt}

-- a body has one fault at most, or none
abbrev pub BodiesHaveOneFault : Type 0
BodiesHaveOneFault = (o : Object) (v w : Option ℕ) → FaultGives o v → FaultGives o w → v ≡ w

-- a tree gives one answer at most
abbrev pub TreesGiveOne : Type 0
TreesGiveOne = (s : Objects) (x : Id) (v w : Result Index ℕ) → TreeGives s x v → TreeGives s x w → v ≡ w

-- a tree that gives an index is closed, and reaches the index's files
abbrev pub GivenTreesAreClosed : Type 0
GivenTreesAreClosed = (s : Objects) (x : Id) (i : Index) → TreeGives s x (Ok i) → IsClosed git (stored s) x × IsIndexOf git (stored s) x i

-- an index gives one answer at most
abbrev pub IndexTreesGiveOne : Type 0
IndexTreesGiveOne = (i : Index) (v w : Result (Objects × Id) ℕ) → TreesGive i v → TreesGive i w → v ≡ w

-- the trees of an index stand under their names
abbrev pub IndexTreesAreNamed : Type 0
IndexTreesAreNamed = (i : Index) (t : Objects × Id) → TreesGive i (Ok t) → IsNamed git t.0

-- each of them is a body of a tree
abbrev pub IndexTreesAreFormed : Type 0
IndexTreesAreFormed = (i : Index) (t : Objects × Id) → TreesGive i (Ok t) → (x : Id) (o : Object) → get t.0 x ≡ Some o → FaultGives o None

-- where they are found, and all is there that the files of the index reach, so it is of the root
abbrev pub IndexTreesAreClosed : Type 0
IndexTreesAreClosed = (i : Index) (t : Objects × Id) (at : Lookup) → TreesGive i (Ok t) → AreFound at t.0 → AreEntriesClosed git at i → IsClosed git at t.1

-- an expression has one value at most, or one refusal
abbrev pub ExpressionsHaveOneValue : Type 0
ExpressionsHaveOneValue = (r : Repository) (text : List ℕ) (v w : Result Id ℕ) → DenotesAt r text v → DenotesAt r text w → v ≡ w

-- all that the machine asks of its rules
pub record GitLaws : Type 0 where
  pub one_fault : BodiesHaveOneFault
  pub one_index : TreesGiveOne
  pub index_reached : GivenTreesAreClosed
  pub one_root : IndexTreesGiveOne
  pub trees_named : IndexTreesAreNamed
  pub trees_formed : IndexTreesAreFormed
  pub trees_closed : IndexTreesAreClosed
  pub one_value : ExpressionsHaveOneValue

-- The rules of the machine at Git's format: the layers' own relations. What the machine asks of them is handed in, since a file of
-- specs may not name a proof of its own crate: `git_rules` of proofs/GitLaws are these rules.
abbrev pub rules_of : GitLaws → Rules git
rules_of laws = record {
  fault = FaultGives;
  is_path = IsPath;
  trees_of = TreesGive;
  index_of = TreeGives;
  denotes = DenotesAt;
  trees_named = laws.trees_named;
  trees_formed = laws.trees_formed;
  trees_closed = laws.trees_closed;
  index_reached = laws.index_reached;
  one_fault = laws.one_fault;
  one_root = laws.one_root;
  one_index = laws.one_index;
  one_value = laws.one_value;
}
