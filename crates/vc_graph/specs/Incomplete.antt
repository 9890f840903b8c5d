-- Which of several roots is the first that reaches a name that is absent.
use Rattle.std.specs.Prelude.{◌≡◌, List, ◌∷◌, ◌++◌, Option, Some, None}
use Rattle.vc_object_map.specs.Graph.{Reaches, IsClosedUnder}

module _ {Id : Type 0} (links : Id → Option (List Id)) where
  -- x reaches a name that is absent
  pub record IsIncomplete (x : Id) : Type 0 where
    pub missing : Id
    pub reaches : Reaches links x missing
    pub absent : links missing ≡ None

  -- the root is incomplete, and what those before it reach is there
  pub record IsFirstIncomplete (roots : List Id) (root : Id) : Type 0 where
    pub before : List Id
    pub after : List Id
    pub place : roots ≡ before ++ root ∷ after
    pub closed : IsClosedUnder links before
    pub incomplete : IsIncomplete root

  -- what all roots reach is there, or this is the first of them of which that isn't so
  abbrev pub IsAnswerOfFirst : List Id → Option Id → Type 0
  IsAnswerOfFirst roots None = IsClosedUnder links roots
  IsAnswerOfFirst roots (Some root) = IsFirstIncomplete roots root
