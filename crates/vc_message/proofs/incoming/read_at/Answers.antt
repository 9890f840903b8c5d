use Rattle.std.proofs.Common.{arith, le_refl, length-take-le}
use Rattle.std.proofs.lemmas.Slice.{take-put_mid_below}
use Rattle.vc_message.proofs.IncomingReads.{in_place}
use Rattle.vc_message.proofs.incoming.read_at.Goals as goal

pub returns-clause-front : goal.returns-clause-front
returns-clause-front g c = take-put_mid_below _ _ _ _ _ (le_refl _) (omega (arith, c.requires))

pub returns-clause-ok : goal.returns-clause-ok
returns-clause-ok g c =
    in_place _ _ _ c.read.new.buffer _ c.args.at _ (length-take-le _ c.args.buffer.now (omega (arith, c.requires))) c.in_ok-read.ensures.bound.0 c.in_ok-read.ensures.bytes.0
