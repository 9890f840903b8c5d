use Rattle.std.proofs.Common.{◌≢◌}
use Rattle.std.specs.List.{All}
use Rattle.vc_object.specs.declared.mode.Mode.TheVariants.{Tree}
use Rattle.rows_trees.proofs.node.stage.Given as goal

-- none is a folder
abbrev pub invariant-loop-word : goal.invariant-loop-word
invariant-loop-word l = All (λ file. file.mode ≢ Tree) l.files.items
