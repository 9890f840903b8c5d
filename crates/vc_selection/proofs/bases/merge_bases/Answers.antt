use Rattle.std.proofs.Common.{◌≡◌, Contains, None, ◌∷◌, [], refl, arith}
use Rattle.std.proofs.lemmas.Grind.{common_steps}
use Rattle.vc_history.proofs.GatheredLemmas.{all_there}
use Rattle.vc_history.proofs.GenerationLemmas.{agrees_where_none}
use Rattle.vc_selection.proofs.PartLemmas.{Agrees-under, above-under, all_settled_below, best_in_part, best_of_part}
use Rattle.vc_history.specs.Generation.{Agrees}
use Rattle.vc_history.specs.Numbering.{numbers}
use Rattle.vc_selection.specs.Part.{under}
use Rattle.vc_history.specs.Walk.{read_by}
use Rattle.vc_object.specs.ObjectMap.{parents_in}
use Rattle.vc_object.specs.declared.id.ObjectId.{ObjectId}
use Rattle.vc_selection.proofs.bases.merge_bases.Goals as goal

pub returns-in-Some-clause-best : goal.returns-in-Some-clause-best
returns-in-Some-clause-best g c honest agrees id =
    let before = c.lowering.invariant in
    let objects = g.C.Objects.objects (g.C.Objects.state_of c.args.commits.now) in
    let known = numbers c.args.generations.now in
    let floor = c.lowering.floor in
    let a : ObjectId = c.args.a.now in
    let b : ObjectId = c.args.b.now in
    let met = c.in_ok-walk.walk.met.keys in
    let read = read_by c.in_ok-walk.walk in
    let gathers = rw before.kept at (c.in_ok-walk.ensures.gathered honest) in
    let agrees_above = Agrees-under known floor (parents_in objects) agrees in
    let above : (r : ObjectId) → Contains (a ∷ b ∷ []) r → under known floor r ≡ None = λ r at. above-under known floor r (λ n is. before.below r n at is (omega (arith, (agrees.generation r n is).one_more))) in
    let settled = rw c.in-Some.is at c.in_ok-bases.ensures.settled in
    let best = (rw c.in-Some.is at c.in_ok-bases.ensures.best) id in (
      λ h. best_of_part objects (under known floor) (a ∷ b ∷ []) met read gathers agrees_above above a b (0, omega arith, refl) (1, omega arith, refl) settled id (best.0 h),
      λ h. best.1 (best_in_part objects (under known floor) (a ∷ b ∷ []) met read gathers agrees_above above a b (0, omega arith, refl) (1, omega arith, refl) settled id h),
    )

pub returns-in-Some-clause-closed : goal.returns-in-Some-clause-closed
returns-in-Some-clause-closed g c honest agrees =
    let objects = g.C.Objects.objects (g.C.Objects.state_of c.args.commits.now) in
    all_there _ _ _ _ _ (rw c.lowering.invariant.kept at (c.in_ok-walk.ensures.gathered honest)) (Agrees-under (numbers c.args.generations.now) c.lowering.floor (parents_in objects) agrees)

pub returns-in_err-walk-clause-refused : goal.returns-in_err-walk-clause-refused
returns-in_err-walk-clause-refused g c =
    let objects = g.C.Objects.objects (g.C.Objects.state_of c.args.commits.now) in
    let h = rw c.lowering.invariant.kept at c.in_err-walk.ensures.refused in
    let told = λ (honest : g.C.Objects.is_honest) (agrees : Agrees (parents_in objects) (numbers c.args.generations.now)). h honest (Agrees-under (numbers c.args.generations.now) c.lowering.floor (parents_in objects) agrees) in
    grind (arith, common_steps, told)

pub returns-clause-best : goal.returns-clause-best
returns-clause-best g c honest agrees id =
    let objects = g.C.Objects.objects (g.C.Objects.state_of c.args.commits.now) in
    let a : ObjectId = c.args.a.now in
    let b : ObjectId = c.args.b.now in
    let met = c.in_ok-walk-2.walk.met.keys in
    let read = read_by c.in_ok-walk-2.walk in
    let gathers = rw c.lowering.invariant.kept at (c.in_ok-walk-2.ensures.gathered honest) in
    let none_agree = agrees_where_none (parents_in objects) (λ _. None) (λ x. refl) in
    let settled = all_settled_below objects (λ _. None) (a ∷ b ∷ []) met read gathers none_agree (λ r at. refl) (λ x. refl) a b (0, omega arith, refl) (1, omega arith, refl) in
    let best = c.in_ok-bases-2.ensures.best id in (
      λ h. best_of_part objects (λ _. None) (a ∷ b ∷ []) met read gathers none_agree (λ r at. refl) a b (0, omega arith, refl) (1, omega arith, refl) settled id (best.0 h),
      λ h. best.1 (best_in_part objects (λ _. None) (a ∷ b ∷ []) met read gathers none_agree (λ r at. refl) a b (0, omega arith, refl) (1, omega arith, refl) settled id h),
    )

pub returns-clause-closed : goal.returns-clause-closed
returns-clause-closed g c honest agrees =
    let objects = g.C.Objects.objects (g.C.Objects.state_of c.args.commits.now) in
    all_there _ _ _ _ _ (rw c.lowering.invariant.kept at (c.in_ok-walk-2.ensures.gathered honest)) (agrees_where_none (parents_in objects) (λ _. None) (λ x. refl))
