use Rattle.std.proofs.Common.{◌≡◌, take}
use Rattle.vc_sending.specs.Sending.{item_ids}
use Rattle.vc_sending.proofs.sending.item_ids.Given as goal

abbrev pub invariant-loop-item : goal.invariant-loop-item
invariant-loop-item l = l.ids.items ≡ item_ids (take l.item-index l.items)
