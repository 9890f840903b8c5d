use Rattle.std.proofs.Common.{rules, ◌≡◌, ◌+◌, ◌∙◌, [], take, drop, false, true≢false, sym}
use Rattle.vc_object.specs.declared.id.ObjectId.{ObjectId}
use Rattle.vc_pack.proofs.PickedLemmas.{parted_at}
use Rattle.vc_pack.proofs.counting.first_other.Goals as goal

pub returns-then-not-is_among-clause-other : goal.returns-then-not-is_among-clause-other
returns-then-not-is_among-clause-other c =
    let wants = c.args.wants.now in
    let at = c.loop-want.want-index in
    let none : ObjectId = record { 0 = [] } in
    let no : c.is_among.result ≡ false = search rules in
    record {
      before = take at wants;
      after = drop (at + 1) wants;
      place = parted_at wants at none c.loop-want-test.true;
      others = c.loop-want.invariant;
      here = λ h. true≢false (sym (c.is_among.ensures.1 h) ∙ no);
    }
