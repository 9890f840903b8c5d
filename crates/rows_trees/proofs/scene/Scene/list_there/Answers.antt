use Rattle.std.proofs.Common.{refl}
use Rattle.rows_trees.proofs.scene.Scene.list_there.Goals as goal

pub returns-then-self : goal.returns-then-self
returns-then-self g c = record { holds = rw (← c.self.view_is) c.list.ensures.holds; count = rw (← c.self.view_is) refl }
