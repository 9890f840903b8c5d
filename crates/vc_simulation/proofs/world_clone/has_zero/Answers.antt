use Rattle.std.proofs.Common.{rules, arith}
use Rattle.vc_simulation.proofs.ItemLemmas.{none_whole, none_yet, one_is_zero, still_none}
use Rattle.vc_simulation.proofs.world_clone.has_zero.Goals as goal

pub loop-item-init : goal.loop-item-init
loop-item-init c = none_yet c.args.items.now

pub loop-item-preserved : goal.loop-item-preserved
loop-item-preserved c = still_none c.args.items.now c.loop-item.item-index c.item-item.result c.loop-item-test.true (search rules) c.loop-item.invariant

pub returns-then-eq-clause-zero : goal.returns-then-eq-clause-zero
returns-then-eq-clause-zero c t = one_is_zero c.args.items.now c.loop-item.item-index c.item-item.result c.loop-item-test.true (search rules)

pub returns-clause-none : goal.returns-clause-none
returns-clause-none c t = none_whole c.args.items.now c.loop-item.item-index (omega (arith, c.loop-item-test.false, c.loop-item.auto.item-index-end)) c.loop-item.invariant
