use Rattle.std.specs.Prelude.{◌↔◌, drop, map}
use Rattle.vc_desk.specs.Entry.{entry_text}
use Rattle.vc_desk.specs.Served.{AreReceipts}
use Rattle.vc_desk.proofs.compare.agree.Given as goal

abbrev pub invariant-loop-name : goal.invariant-loop-name
invariant-loop-name g l = AreReceipts (map entry_text l.log) 0 l.ends ↔ AreReceipts (map entry_text l.log) l.name (drop l.name l.ends)
