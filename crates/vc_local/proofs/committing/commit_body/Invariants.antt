use Rattle.std.proofs.Common.{◌≡◌, ◌++◌, take}
use Rattle.std.specs.Prelude.{codes}
use Rattle.std.specs.List.{flat_map}
use Rattle.vc_object.specs.Lines.{id_line}
use Rattle.vc_local.proofs.committing.commit_body.Given as goal

abbrev pub invariant-loop-parent : goal.invariant-loop-parent
invariant-loop-parent l = l.body.items ≡ id_line (codes "tree ") l.fn.tree ++ flat_map (id_line (codes "parent ")) (take l.parent-index l.parents)
