use Rattle.std.proofs.Common.{◌≡◌, map, take}
use Rattle.std.specs.List.{flat_map}
use Rattle.vc_checkout.specs.Status.{seen}
use Rattle.vc_working.specs.StatusLines.{change_lines}
use Rattle.vc_working.proofs.status.status_lines.Given as goal

abbrev pub invariant-loop-change : goal.invariant-loop-change
invariant-loop-change l = l.lines.items ≡ flat_map (change_lines l.own) (map seen (take l.change-index l.changes))
