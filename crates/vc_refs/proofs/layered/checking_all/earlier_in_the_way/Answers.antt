use Rattle.std.proofs.Common.{arith, rules, ◌≡◌, true, false, List, Some, sym, ap, ◌∙◌}
use Rattle.std.proofs.lemmas.List.{take_all}
use Rattle.vc_refs.specs.RefMap.{conflicts}
use Rattle.vc_refs.specs.SetAll.{first_conflicting}
use Rattle.vc_refs.specs.declared.changes.RefChange.{RefChange}
use Rattle.vc_refs.proofs.ChangesLemmas.{conflicting_here, conflicting_later}
use Rattle.vc_refs.proofs.layered.checking_all.earlier_in_the_way.Goals as goal

pub returns-then-conflicts : goal.returns-then-conflicts
returns-then-conflicts c =
    let change = c.change-item.result in
    let conflict : conflicts change.name c.args.name.now ≡ true = search rules in
    let same : c.in_ok-other.other ≡ change.name = search rules in
    ap Some same ∙ sym (conflicting_here c.args.earlier.now c.loop-change.change-index change c.args.name.now c.loop-change-test.true c.change-item.is c.loop-change.invariant conflict)

pub loop-change-preserved : goal.loop-change-preserved
loop-change-preserved c =
    let change = c.change-item.result in
    let apart : conflicts change.name c.args.name.now ≡ false = search rules in
    conflicting_later c.args.earlier.now c.loop-change.change-index change c.args.name.now c.loop-change-test.true c.change-item.is c.loop-change.invariant apart

pub returns : goal.returns
returns c =
    sym c.loop-change.invariant
    ∙ ap (λ (cs : List RefChange). first_conflicting cs c.args.name.now) (take_all c.loop-change.change-index c.args.earlier.now (omega (arith, c.loop-change-test.false)))
