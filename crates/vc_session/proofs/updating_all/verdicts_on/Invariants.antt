use Rattle.std.proofs.Common.{◌≡◌, map, take}
use Rattle.vc_session.proofs.TurnLemmas.{verdict_by}
use Rattle.vc_session.proofs.updating_all.verdicts_on.Given as goal

abbrev pub invariant-loop-found : goal.invariant-loop-found
invariant-loop-found l = l.verdicts.items ≡ map (verdict_by l.passes) (take l.found-index l.founds)
