use Rattle.std.specs.Prelude.{map}
use Rattle.std.specs.List.{AllByRecursion}
use Rattle.vc_desk.specs.Talk.{receipt_text}
use Rattle.vc_desk.proofs.Talking.{Served}
use Rattle.vc_desk.proofs.work.work.Given as goal

abbrev pub invariant-turns : goal.invariant-turns
invariant-turns g l = record {
  served : Served l.limit (g.R.Source.can_fail l.fn.reader) l.name (g.R.Source.remaining l.fn.reader) (g.W.Write.contents l.fn.writer) (map receipt_text l.receipts.items) (g.R.Source.remaining l.rest) (g.W.Write.contents l.writer) l.current;
  made : AllByRecursion g.N.Desk.made (map receipt_text l.receipts.items);
  calm : g.R.Source.can_fail l.rest → g.R.Source.can_fail l.fn.reader;
}
