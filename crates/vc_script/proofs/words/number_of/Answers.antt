use Rattle.std.proofs.Common.{◌≡◌, ◌+◌, ◌-◌, ◌*◌, arith, drop, get_or}
use Rattle.std.proofs.lemmas.List.{drop_more}
use Rattle.vc_object.specs.Header.{number, number_after}
use Rattle.vc_script.proofs.ListLemmas.{first_digit, number-small, number_after-grows}
use Rattle.vc_script.proofs.words.number_of.Goals as goal

pub loop-digit-preserved : goal.loop-digit-preserved
loop-digit-preserved c =
    let l = c.loop-digit in
    let digits = c.args.digits.now in
    let d = get_or digits l.digit-index 0 in
    let rest = drop (l.digit-index + 1) digits in
    let more = drop_more digits l.digit-index 0 c.loop-digit-test.true in
    let parts = first_digit d rest (rw more at l.invariant.digits) in
    let same : number_after (l.number * 10 + (d - 48)) rest ≡ number digits = rw more at l.invariant.same in record {
      small = omega (arith, number_after-grows (l.number * 10 + (d - 48)) rest, same, number-small digits c.requires.few c.requires.digits);
      digits = parts.1;
      same = same;
    }
