-- All that some roots reach, as the first layers and what a walk met above them.
use Rattle.std.specs.Prelude.{◌↔◌, ◌||◌, ℕ, Bool, List, IsSome, IsTrue, length}
use Rattle.std.specs.List.{list_any}
use Rattle.vc_object.specs.ObjectId.{id_eq}
use Rattle.vc_object.specs.ObjectMap.{ObjectMap, links_in}
use Rattle.vc_object.specs.declared.id.ObjectId.{ObjectId}
use Rattle.vc_object_map.specs.Graph.{ReachedFrom}
use Rattle.vc_known.specs.Known.{layer_in}
use Rattle.vc_known.specs.Layers.{is_below}
use Rattle.vc_known.specs.declared.reach.Reach.{Reach}

-- the name is in one of the first layers, or was met above them
abbrev pub has_in : Reach → ObjectId → Bool
has_in reach id = is_below reach.count (layer_in reach.known.now id) || list_any (id_eq id) reach.above.keys

-- how many names were met above the layers
abbrev pub read_in : Reach → ℕ
read_in reach = length reach.above.keys

-- it has exactly what the roots reach, and each of these names is there
pub record IsReachOf (objects : ObjectMap) (reach : Reach) (roots : List ObjectId) : Type 0 where
  pub exactly : (id : ObjectId) → IsTrue (has_in reach id) ↔ ReachedFrom (links_in objects) roots id
  pub there : (id : ObjectId) → IsTrue (has_in reach id) → IsSome (links_in objects id)
