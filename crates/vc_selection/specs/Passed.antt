-- Names that some commits pass on the way to their roots.
use Rattle.std.specs.Prelude.{◌≢◌, List, Option, Contains}
use Rattle.vc_object_map.specs.Graph.{LinksTo}

-- one of the names, other than p, has p as a parent
pub record IsPassed {Id : Type 0} (parents : Id → Option (List Id)) (ids : List Id) (p : Id) : Type 0 where
  pub child : Id
  pub is_among : Contains ids child
  pub links : LinksTo parents child p
  pub differs : child ≢ p
