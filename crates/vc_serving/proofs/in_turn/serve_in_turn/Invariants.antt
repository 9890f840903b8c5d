use Rattle.vc_serving.proofs.InTurnLemmas.{IsServing}
use Rattle.vc_serving.proofs.in_turn.serve_in_turn.Given as goal

-- what came so far was answered
abbrev pub invariant-messages : goal.invariant-messages
invariant-messages g l = IsServing g.F.Files.honest g.F.Files.content g.F.Files.failed g.F.Files.can_fail g.F.Files.left g.R.Source.remaining g.R.Source.failed g.R.Source.can_fail g.W.Write.contents g.C.Clients.heard l.fn.files l.files l.fn.clients l.clients l.left

abbrev pub decreases-messages : goal.decreases-messages
decreases-messages g l = l.left
