-- No ref is a folder of another, at any node and moment.
use Rattle.std.specs.Prelude.{◌≡◌, ℕ, ◌++◌, Some}
use Rattle.std.specs.FinMap.{get}
use Rattle.vc_model.specs.Object.{Format}
use Rattle.vc_model.specs.Refs.{AreApart}
use Rattle.vc_model.specs.Clone.{CloneNode}
use Rattle.vc_model.specs.World.{World, IsNew}
use Rattle.vc_model.specs.Run.{History, world_after, Run}

pub record EveryNodeApart (w : World) : Type 0 where
  pub shared : AreApart w.shared.repository.refs
  pub clones : (c : ℕ) (n : CloneNode) → get w.clones c ≡ Some n → AreApart n.repository.refs

-- At each moment of a run of a new world no ref of a node is a folder of another.
abbrev pub RefsStayApart : Type 0
RefsStayApart = (fmt : Format) (n : ℕ) (start : World) (late early : History) → IsNew start n → Run fmt start (late ++ early) → EveryNodeApart (world_after start early)
