use Rattle.std.proofs.Common.{◌≡◌, false, take}
use Rattle.std.specs.List.{list_any}
use Rattle.vc_session.proofs.TurnLemmas.{names_it}
use Rattle.vc_session.proofs.updating_all.is_named.Given as goal

abbrev pub invariant-loop-command : goal.invariant-loop-command
invariant-loop-command l = list_any (names_it l.name) (take l.command-index l.earlier) ≡ false
