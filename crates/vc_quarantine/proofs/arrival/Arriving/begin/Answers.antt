use Rattle.std.proofs.Common.{rules, ◌≡◌, List, [], None, Ok, sym, subst}
use Rattle.vc_object.specs.declared.id.ObjectId.{ObjectId}
use Rattle.vc_quarantine.specs.Arrival.{HasArrived}
use Rattle.vc_quarantine.proofs.ArrivalLemmas.{none_brought}
use Rattle.vc_quarantine.proofs.CleanLemmas.{clean_dropped}
use Rattle.vc_quarantine.proofs.arrival.Arriving.begin.Goals as goal

pub returns-clause-none : goal.returns-clause-none
returns-clause-none g c = λ honest.
    let empty : c.new.result.keys ≡ [] = search rules in
    subst (λ (ids : List ObjectId). HasArrived (g.F.Files.content c.drop_quarantine.new.files) c.args.slot ids None (Ok [])) (sym empty)
    (none_brought _ _ (c.in_ok-drop_quarantine.ensures.dropped honest))

pub returns-clause-clean : goal.returns-clause-clean
returns-clause-clean g c = λ honest. clean_dropped _ _ (c.in_ok-drop_quarantine.ensures.dropped honest)
