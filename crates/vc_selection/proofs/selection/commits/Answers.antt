use Rattle.std.proofs.Common.{◌≡◌, Contains, None, refl, arith}
use Rattle.std.proofs.lemmas.Grind.{common_steps}
use Rattle.vc_history.proofs.GatheredLemmas.{all_there}
use Rattle.vc_history.proofs.GenerationLemmas.{agrees_where_none}
use Rattle.vc_selection.proofs.PartLemmas.{Agrees-under, above-under, all_settled_outside, selected_in_part}
use Rattle.vc_history.specs.Generation.{Agrees}
use Rattle.vc_history.specs.Numbering.{numbers}
use Rattle.vc_selection.specs.Part.{under}
use Rattle.vc_history.specs.Walk.{read_by}
use Rattle.vc_object.specs.ObjectMap.{parents_in}
use Rattle.vc_object.specs.declared.id.ObjectId.{ObjectId}
use Rattle.vc_selection.proofs.selection.commits.Goals as goal

pub returns-in-Some-clause-selected : goal.returns-in-Some-clause-selected
returns-in-Some-clause-selected g c honest agrees id =
    let before = c.lowering.invariant in
    let objects = g.C.Objects.objects (g.C.Objects.state_of c.args.commits.now) in
    let known = numbers c.args.generations.now in
    let floor = c.lowering.floor in
    let roots = c.in_ok-roots.roots.items in
    let met = c.in_ok-walk.walk.met.keys in
    let read = read_by c.in_ok-walk.walk in
    let gathers = rw c.deref-in-lowering.ensures.value at (rw before.kept at (c.in_ok-walk.ensures.gathered honest)) in
    let agrees_above = Agrees-under known floor (parents_in objects) agrees in
    let above : (r : ObjectId) → Contains roots r → under known floor r ≡ None = λ r at. above-under known floor r (λ n is. before.below r n at is (omega (arith, (agrees.generation r n is).one_more))) in
    let settled = rw c.in-Some.is at c.in_ok-found.ensures.settled in
    let found = (rw c.in-Some.is at c.in_ok-found.ensures.outside) id in
    let same = selected_in_part objects (under known floor) roots met read gathers agrees_above above c.args.include.now c.args.exclude.now c.in_ok-roots.ensures settled id in
    (λ h. same.0 (found.0 h), λ h. found.1 (same.1 h))

pub returns-in-Some-clause-closed : goal.returns-in-Some-clause-closed
returns-in-Some-clause-closed g c honest agrees =
    let objects = g.C.Objects.objects (g.C.Objects.state_of c.args.commits.now) in
    let gathers = rw c.deref-in-lowering.ensures.value at (rw c.lowering.invariant.kept at (c.in_ok-walk.ensures.gathered honest)) in
    rw c.in_ok-roots.ensures at (all_there _ _ _ _ _ gathers (Agrees-under (numbers c.args.generations.now) c.lowering.floor (parents_in objects) agrees))

pub returns-clause-selected : goal.returns-clause-selected
returns-clause-selected g c honest agrees id =
    let objects = g.C.Objects.objects (g.C.Objects.state_of c.args.commits.now) in
    let roots = c.in_ok-roots.roots.items in
    let include = c.args.include.now in
    let exclude = c.args.exclude.now in
    let met = c.in_ok-walk-2.walk.met.keys in
    let read = read_by c.in_ok-walk-2.walk in
    let gathers = rw c.deref-2.ensures.value at (rw c.lowering.invariant.kept at (c.in_ok-walk-2.ensures.gathered honest)) in
    let none_agree = agrees_where_none (parents_in objects) (λ _. None) (λ x. refl) in
    let settled = all_settled_outside objects (λ _. None) roots met read gathers none_agree (λ r at. refl) (λ x. refl) include exclude c.in_ok-roots.ensures in
    let found = c.in_ok-found-2.ensures.outside id in
    let same = selected_in_part objects (λ _. None) roots met read gathers none_agree (λ r at. refl) include exclude c.in_ok-roots.ensures settled id in
    (λ h. same.0 (found.0 h), λ h. found.1 (same.1 h))

pub returns-clause-closed : goal.returns-clause-closed
returns-clause-closed g c honest agrees =
    let objects = g.C.Objects.objects (g.C.Objects.state_of c.args.commits.now) in
    let gathers = rw c.deref-2.ensures.value at (rw c.lowering.invariant.kept at (c.in_ok-walk-2.ensures.gathered honest)) in
    rw c.in_ok-roots.ensures at (all_there _ _ _ _ _ gathers (agrees_where_none (parents_in objects) (λ _. None) (λ x. refl)))

pub returns-in_err-walk-clause-refused : goal.returns-in_err-walk-clause-refused
returns-in_err-walk-clause-refused g c =
    let objects = g.C.Objects.objects (g.C.Objects.state_of c.args.commits.now) in
    let h = rw c.in_ok-roots.ensures at (rw c.deref-in-lowering.ensures.value at (rw c.lowering.invariant.kept at c.in_err-walk.ensures.refused)) in
    let told = λ (honest : g.C.Objects.is_honest) (agrees : Agrees (parents_in objects) (numbers c.args.generations.now)). h honest (Agrees-under (numbers c.args.generations.now) c.lowering.floor (parents_in objects) agrees) in
    grind (arith, common_steps, told)
