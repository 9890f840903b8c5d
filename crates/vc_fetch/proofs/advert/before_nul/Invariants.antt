use Rattle.std.proofs.Common.{take}
use Rattle.vc_object.specs.Bytes.{Without}
use Rattle.vc_fetch.proofs.advert.before_nul.Given as goal

abbrev pub invariant-loop-i : goal.invariant-loop-i
invariant-loop-i l = Without 0 (take l.i l.words)
