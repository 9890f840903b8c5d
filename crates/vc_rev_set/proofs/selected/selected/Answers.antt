use Rattle.std.proofs.Common.{◌≡◌, ◌∙◌, ◌++◌, ap, inr}
use Rattle.std.proofs.lemmas.Result.{err_from_is_err_and}
use Rattle.vc_history.proofs.GenerationLemmas.{agrees_where_none}
use Rattle.vc_history.specs.Numbering.{numbers}
use Rattle.vc_object.specs.ObjectMap.{parents_in}
use Rattle.vc_rev_set.specs.RootsView.{roots_view}
use Rattle.vc_rev_set.specs.Selection.{IsMetBy, IsMetByPairs}
use Rattle.vc_rev_set.proofs.SelectionLemmas.{selected_same, walked_all, met_same, walk_more, walk_told}
use Rattle.vc_rev_set.proofs.selected.selected.Goals as goal

pub returns-in_err-exclude-clause-refused : goal.returns-in_err-exclude-clause-refused
returns-in_err-exclude-clause-refused g c =
    let objects = g.R.Objects.objects (g.R.Objects.state_of c.args.repo.now) in
    let damaged = g.R.Objects.damaged (g.R.Objects.state_of c.args.repo.now) in
    let told = rw c.deref.ensures.value at c.in_err-exclude.ensures.refused in
    let p = err_from_is_err_and c.from_residual.result c.from_residual.ensures.1 in
    rw (p.1, p.2) (λ honest. walk_more objects damaged (IsMetByPairs objects c.args.roots.now.apart.items) (IsMetBy objects (roots_view c.args.roots.now)) (λ id met. inr met) c.in_err-exclude.field-0.0 (told honest))

pub returns-in_err-found-clause-refused : goal.returns-in_err-found-clause-refused
returns-in_err-found-clause-refused g c =
    let objects = g.R.Objects.objects (g.R.Objects.state_of c.args.repo.now) in
    let chosen = roots_view c.args.roots.now in
    let common = c.in_ok-exclude.exclude.items in
    let all = c.extend_from_slice.new.self.items in
    let are = rw c.deref.ensures.value at c.in_ok-exclude.ensures.common in
    let is : all ≡ common ++ chosen.exclude = c.in_ok-extend_from_slice.ensures.items ∙ ap (λ l. common ++ l) c.deref-2.ensures.value in
    let damaged = g.R.Objects.damaged (g.R.Objects.state_of c.args.repo.now) in
    let agrees = agrees_where_none (parents_in objects) (numbers c.new-generations.result) c.new-generations.ensures.none in
    let told = rw (c.in_ok-exclude.ensures.kept, c.deref-3.ensures.value, c.deref-4.ensures.value) at c.in_err-found.ensures.refused in
    let p = err_from_is_err_and c.from_residual-in_err-found.result c.from_residual-in_err-found.ensures.1 in
    rw (p.1, p.2) (λ honest. walk_told objects damaged (chosen.include ++ all) (IsMetBy objects chosen) (met_same objects chosen common all (are honest) is) c.in_err-found.field-0.0 (told honest agrees))

pub returns-clause-selected : goal.returns-clause-selected
returns-clause-selected g c honest id =
    let objects = g.R.Objects.objects (g.R.Objects.state_of c.args.repo.now) in
    let chosen = roots_view c.args.roots.now in
    let common = c.in_ok-exclude.exclude.items in
    let all = c.extend_from_slice.new.self.items in
    let are = rw c.deref.ensures.value at c.in_ok-exclude.ensures.common in
    let is : all ≡ common ++ chosen.exclude = c.in_ok-extend_from_slice.ensures.items ∙ ap (λ l. common ++ l) c.deref-2.ensures.value in
    let agrees = agrees_where_none (parents_in objects) (numbers c.new-generations.result) c.new-generations.ensures.none in
    let found = rw (c.in_ok-exclude.ensures.kept, c.deref-3.ensures.value, c.deref-4.ensures.value) at (c.in_ok-found.ensures.selected honest) in
    let same = selected_same objects chosen common all (are honest) is id in
    (λ h. same.0 ((found agrees id).0 h), λ h. (found agrees id).1 (same.1 h))

pub returns-clause-closed : goal.returns-clause-closed
returns-clause-closed g c honest =
    let objects = g.R.Objects.objects (g.R.Objects.state_of c.args.repo.now) in
    let chosen = roots_view c.args.roots.now in
    let common = c.in_ok-exclude.exclude.items in
    let all = c.extend_from_slice.new.self.items in
    let are = rw c.deref.ensures.value at c.in_ok-exclude.ensures.common in
    let is : all ≡ common ++ chosen.exclude = c.in_ok-extend_from_slice.ensures.items ∙ ap (λ l. common ++ l) c.deref-2.ensures.value in
    let pairs = rw c.deref.ensures.value at c.in_ok-exclude.ensures.closed in
    let agrees = agrees_where_none (parents_in objects) (numbers c.new-generations.result) c.new-generations.ensures.none in
    let closed = rw (c.in_ok-exclude.ensures.kept, c.deref-3.ensures.value, c.deref-4.ensures.value) at (c.in_ok-found.ensures.closed honest) in
    walked_all objects chosen common all (are honest) is (closed agrees) (pairs honest)
