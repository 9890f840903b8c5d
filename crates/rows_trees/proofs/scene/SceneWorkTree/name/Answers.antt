use Rattle.std.proofs.Common.{ℕ, Bool, List, ap, ◌∙◌}
use Rattle.vc_work_folder.specs.Holding.{is_held}
use Rattle.rows_trees.proofs.scene.SceneWorkTree.name.Goals as goal

pub returns-clause-holds : goal.returns-clause-holds
returns-clause-holds g c =
    let of : ℕ → List ℕ → Bool = λ above path. is_held above path in
    ap of c.settle.ensures.above ∙ c.name_there-done.ensures.holds ∙ ap of c.pass.ensures.above
