-- The part of a history that lies above a floor: commits whose number is not above the floor are not read.
use Rattle.std.specs.Prelude.{◌⊎◌, ℕ, Option, Some, List, Contains}
use Rattle.vc_object_map.specs.History.{IsCommonAncestor}
use Rattle.vc_history.specs.Toward.{not_above}
use Rattle.vc_history.specs.Walk.{graph_read}
use Rattle.vc_object_map.specs.Graph.{Reaches, ReachedFrom}
use Rattle.vc_object.specs.declared.id.ObjectId.{ObjectId}

-- the numbers that are not above the floor
abbrev pub under : (ObjectId → Option ℕ) → ℕ → ObjectId → Option ℕ
under known floor id = not_above (known id) (Some floor)

module _ (met : List ObjectId) (read : List (List ObjectId)) where
  -- each name that both commits could have in common, and was met but not read, lies below a common ancestor that was read
  abbrev pub IsSettledBelow : ObjectId → ObjectId → Type 0
  IsSettledBelow a b = (y : ObjectId) → Reaches (graph_read met read) a y ⊎ Reaches (graph_read met read) b y
      → Contains met y ⊎ ((d : ObjectId) × IsCommonAncestor (graph_read met read) a b d × Contains met d × Reaches (graph_read met read) d y)

  -- each name that an included commit reaches, and that was met but not read, lies below an excluded one
  abbrev pub IsSettledOutside : List ObjectId → List ObjectId → Type 0
  IsSettledOutside include exclude = (y : ObjectId) → ReachedFrom (graph_read met read) include y → Contains met y ⊎ ReachedFrom (graph_read met read) exclude y
