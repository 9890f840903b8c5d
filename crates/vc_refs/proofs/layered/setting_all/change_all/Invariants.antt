use Rattle.std.proofs.Common.{take}
use Rattle.std.specs.FinMap as names
use Rattle.vc_refs.specs.Packing.{IsMapOf}
use Rattle.vc_refs.specs.SetAll.{with_changes}
use Rattle.vc_refs.proofs.layered.setting_all.change_all.Given as goal

-- those so far are made
abbrev pub invariant-loop-change : goal.invariant-loop-change
invariant-loop-change l = IsMapOf (with_changes (names.get l.fn.refs) (take l.change-index l.changes)) l.changed
