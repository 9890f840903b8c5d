-- What is known to be whole before anything is read: what refs reach, in a repository that is sound.
use Rattle.std.specs.Prelude.{◌≡◌, List, Some, ℕ, false}
use Rattle.vc_files.specs.FileMap.{FileMap}
use Rattle.vc_object_map.specs.Graph.{IsClosed}
use Rattle.vc_object.specs.ObjectMap.{links_in}
use Rattle.vc_object.specs.declared.id.ObjectId.{ObjectId}
use Rattle.vc_push_rules.specs.Verdict.{HasHistory, is_tag}
use Rattle.vc_refs.specs.Refs.{refs}
use Rattle.vc_object_map.specs.Store.{objects}

-- all that a ref's value reaches is there, and unless it is a tag its history is one of commits alone
pub record AreRefsWhole (content : FileMap) : Type 0 where
  pub closed : (name : List ℕ) (id : ObjectId) → refs content name ≡ Some id → IsClosed (links_in (objects content)) id
  pub history : (name : List ℕ) (id : ObjectId) → is_tag name ≡ false → refs content name ≡ Some id → HasHistory (objects content) id
