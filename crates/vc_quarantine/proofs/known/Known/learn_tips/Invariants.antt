use Rattle.vc_quarantine.proofs.KnownLemmas.{AreAmong}
use Rattle.vc_quarantine.proofs.known.Known.learn_tips.Given as goal

abbrev pub invariant-loop-command : goal.invariant-loop-command
invariant-loop-command g l = AreAmong l.fn.self.objects.keys l.tips.items
