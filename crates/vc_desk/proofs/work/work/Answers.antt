use Rattle.std.proofs.Common.{map, sym, subst, None}
use Rattle.std.specs.List.{AllByRecursion}
use Rattle.vc_desk.specs.Talk.{receipt_text}
use Rattle.vc_desk.proofs.Talking.{Served, goes_as, serves_none, stops_as, turns_if}
use Rattle.vc_desk.proofs.work.work.Goals as goal

pub turns-init : goal.turns-init
turns-init g c = record {
  served = subst (λ l. Served c.args.limit (g.R.Source.can_fail c.args.reader) c.args.name (g.R.Source.remaining c.args.reader) (g.W.Write.contents c.args.writer) (map receipt_text l) (g.R.Source.remaining c.args.reader) (g.W.Write.contents c.args.writer) None)
      (sym c.new-receipts.ensures.items) (serves_none c.args.limit (g.R.Source.can_fail c.args.reader) c.args.name (g.R.Source.remaining c.args.reader) (g.W.Write.contents c.args.writer));
  made = subst (λ l. AllByRecursion g.N.Desk.made (map receipt_text l)) (sym c.new-receipts.ensures.items) tt;
  calm = λ h. h;
}

pub turns-preserved : goal.turns-preserved
turns-preserved g c =
    let i = c.turns.invariant in
    record {
      served = goes_as c.args.limit (g.R.Source.can_fail c.args.reader) c.args.name _ _ _ _ _ _ _ _ _ _ c.turn-more.result.1 i.served
          (turns_if c.args.limit _ _ c.args.name _ _ _ _ _ _ _ _ i.calm c.turn-more.ensures.turns) c.in-Goes.is;
      made = c.turn-more.ensures.made i.made;
      calm = λ h. i.calm (c.turn-more.ensures.calm h);
    }

pub returns-in-Stops-clause-ends : goal.returns-in-Stops-clause-ends
returns-in-Stops-clause-ends g c =
    let i = c.turns.invariant in
    stops_as c.args.limit (g.R.Source.can_fail c.args.reader) c.args.name _ _ _ _ _ _ _ _ _ _ c.turn-more.result.1 i.served
    (turns_if c.args.limit _ _ c.args.name _ _ _ _ _ _ _ _ i.calm c.turn-more.ensures.turns) c.in-Stops.is

pub returns-in-Stops-clause-made : goal.returns-in-Stops-clause-made
returns-in-Stops-clause-made g c = c.turn-more.ensures.made c.turns.invariant.made
