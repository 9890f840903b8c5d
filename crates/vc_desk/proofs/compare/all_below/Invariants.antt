use Rattle.std.specs.Prelude.{◌↔◌, drop, map}
use Rattle.vc_desk.specs.Entry.{entry_text}
use Rattle.vc_desk.specs.Served.{AllBelow}
use Rattle.vc_desk.proofs.compare.all_below.Given as goal

abbrev pub invariant-loop-entry : goal.invariant-loop-entry
invariant-loop-entry l = AllBelow l.count (map entry_text l.log) ↔ AllBelow l.count (map entry_text (drop l.entry-index l.log))
