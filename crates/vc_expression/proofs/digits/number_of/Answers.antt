use Rattle.std.proofs.Common.{arith}
use Rattle.std.proofs.lemmas.List.{drop_more}
use Rattle.vc_expression.proofs.DigitLemmas.{room}
use Rattle.vc_expression.proofs.digits.number_of.Goals as goal

pub overflow_mul-number : goal.overflow_mul-number
overflow_mul-number c = let l = c.loop-digit in let r = room l.digit-index (omega (arith, c.requires.short, c.loop-digit-test.true)) in omega (arith, r, l.invariant.small)

pub overflow_add-number : goal.overflow_add-number
overflow_add-number c =
    let l = c.loop-digit in
    let d = (rw (drop_more c.args.digits.now l.digit-index 0 c.loop-digit-test.true) at l.invariant.digits).0 in
    let r = room l.digit-index (omega (arith, c.requires.short, c.loop-digit-test.true)) in omega (arith, r, l.invariant.small, d)
