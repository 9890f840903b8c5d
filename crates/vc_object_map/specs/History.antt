-- The history of commits. `parents` gives the parents of a commit that is there, and none for any other name. Ancestry is
-- a relation: nothing here asks that it has no cycle.
use Rattle.std.specs.Prelude.{◌≢◌, List, Option}
use Rattle.vc_object_map.specs.Graph.{IsReachedBeyond, Reaches}

module _ {Id : Type 0} (parents : Id → Option (List Id)) where
  -- a list of parent links leads from b to a, through commits; every name is its own ancestor (git-merge-base,
  -- `--is-ancestor`)
  abbrev pub IsAncestor : Id → Id → Type 0
  IsAncestor a b = Reaches parents b a

  abbrev pub IsCommonAncestor : Id → Id → Id → Type 0
  IsCommonAncestor a b c = IsAncestor c a × IsAncestor c b

  -- c is an ancestor of both, and of no other ancestor of both (git-merge-base)
  pub record IsBestCommonAncestor (a b c : Id) : Type 0 where
    pub common : IsCommonAncestor a b c
    pub best : (d : Id) → IsCommonAncestor a b d → d ≢ c → ¬ IsAncestor c d

  -- c is an ancestor of an included commit and of no excluded one (gitrevisions)
  abbrev pub IsSelected : List Id → List Id → Id → Type 0
  IsSelected include exclude c = IsReachedBeyond parents exclude include c
