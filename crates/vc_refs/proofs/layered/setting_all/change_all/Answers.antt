use Rattle.std.proofs.Common.{arith, List, refl, subst}
use Rattle.std.proofs.lemmas.List.{take_all}
use Rattle.std.specs.FinMap as names
use Rattle.vc_refs.specs.Packing.{IsMapOf}
use Rattle.vc_refs.specs.SetAll.{with_changes}
use Rattle.vc_refs.specs.declared.changes.RefChange.{RefChange}
use Rattle.vc_refs.proofs.ChangesLemmas.{changes_more, named_at}
use Rattle.vc_refs.proofs.layered.setting_all.change_all.Goals as goal

pub loop-change-init : goal.loop-change-init
loop-change-init c = λ q. refl

pub change_one-requires : goal.change_one-requires
change_one-requires c = named_at c.args.changes.now c.loop-change.change-index c.change-item.result c.requires c.loop-change-test.true c.change-item.is

pub loop-change-preserved : goal.loop-change-preserved
loop-change-preserved c =
    changes_more (names.get c.args.refs) c.args.changes.now c.loop-change.change-index c.change-item.result c.loop-change.changed _ c.loop-change-test.true c.change-item.is c.loop-change.invariant c.in_ok-change_one.ensures

pub returns : goal.returns
returns c =
    subst (λ (cs : List RefChange). IsMapOf (with_changes (names.get c.args.refs) cs) c.loop-change.changed) (take_all c.loop-change.change-index c.args.changes.now (omega (arith, c.loop-change-test.false))) c.loop-change.invariant
