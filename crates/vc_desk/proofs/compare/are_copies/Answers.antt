use Rattle.std.proofs.Common.{◌≡◌, length, rules}
use Rattle.vc_desk.proofs.Comparing.{copies_end, never_left}
use Rattle.vc_desk.proofs.compare.are_copies.Goals as goal

pub returns-clause-other : goal.returns-clause-other
returns-clause-other c other h =
    let end : c.loop-place.place ≡ length c.args.log.now = search rules in
    never_left c.loop-place.left.now c.is_empty.result c.is_empty.ensures other
    ((copies_end c.args.receipts.now c.loop-place.left.now c.args.log.now c.args.name c.loop-place.place end c.loop-place.invariant).0 h)
