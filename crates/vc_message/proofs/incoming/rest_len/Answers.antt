use Rattle.std.proofs.Common.{arith}
use Rattle.vc_message.proofs.IncomingLines.{no_number, low_number, high_number, rest_number}
use Rattle.vc_message.proofs.incoming.rest_len.Goals as goal

pub returns-in_default : goal.returns-in_default
returns-in_default c = no_number _ (omega arith) (omega arith) c.in_default.ensures

pub returns-then-length-lt4 : goal.returns-then-length-lt4
returns-then-length-lt4 c = low_number _ (omega arith) (omega arith) _ c.in-Some.ensures (omega arith)

pub returns-then-length-gt-MAX_DATA : goal.returns-then-length-gt-MAX_DATA
returns-then-length-gt-MAX_DATA c = high_number _ (omega arith) (omega arith) _ c.in-Some.ensures (omega arith)

pub returns : goal.returns
returns c = rest_number _ (omega arith) (omega arith) _ c.in-Some.ensures (omega arith) (omega arith)
