use Rattle.std.proofs.Common.{◌≡◌, true, false, sym, ap, ◌∙◌}
use Rattle.std.specs.Map.Iter.{deref_pair}
use Rattle.std.proofs.lemmas.Map.Iter.{rest_more, rest_all}
use Rattle.vc_refs.proofs.FolderLemmas.{folder_further, folder_here, folder_none, has_inside, later_above, later_sorted, seeks_folder}
use Rattle.vc_refs.proofs.folders.first_folder.Goals as goal

pub loop-name-init : goal.loop-name-init
loop-name-init c = seeks_folder c.args.refs.now c.iter-later.result c.iter-later.ensures.refs

pub is_folder_of_any-requires-clause-above : goal.is_folder_of_any-requires-clause-above
is_folder_of_any-requires-clause-above c =
    let next = rest_more deref_pair _ _ _ (c.in-Some.name, c.in-Some.field-0-1) c.in-Some.is c.next.ensures.steps in
    let above = later_above _ _ (c.in-Some.name.now, c.in-Some.field-0-1.now) _ c.loop-name.invariant next in
    rw (c.in_ok-clone.ensures.cases) above

pub is_folder_of_any-requires-clause-sorted : goal.is_folder_of_any-requires-clause-sorted
is_folder_of_any-requires-clause-sorted c =
    let next = rest_more deref_pair _ _ _ (c.in-Some.name, c.in-Some.field-0-1) c.in-Some.is c.next.ensures.steps in
    let sorted = later_sorted _ _ (c.in-Some.name.now, c.in-Some.field-0-1.now) _ c.loop-name.invariant next in
    rw (c.in_ok-clone.ensures.cases) sorted

pub returns-then-is_folder_of_any : goal.returns-then-is_folder_of_any
returns-then-is_folder_of_any c =
    let next = rest_more deref_pair _ _ _ (c.in-Some.name, c.in-Some.field-0-1) c.in-Some.is c.next.ensures.steps in
    let some : true ≡ has_inside c.in-Some.name.now c.next.new.self = sym c.if-is_folder_of_any.true ∙ c.is_folder_of_any.ensures ∙ ap (has_inside c.in-Some.name.now) c.in_ok-clone.ensures.cases in
    record { first = folder_here _ _ (c.in-Some.name.now, c.in-Some.field-0-1.now) _ c.loop-name.invariant next some }

pub loop-name-preserved : goal.loop-name-preserved
loop-name-preserved c =
    let next = rest_more deref_pair _ _ _ (c.in-Some.name, c.in-Some.field-0-1) c.in-Some.is c.next.ensures.steps in
    let none : false ≡ has_inside c.in-Some.name.now c.next.new.self = sym c.if-is_folder_of_any.false ∙ c.is_folder_of_any.ensures ∙ ap (has_inside c.in-Some.name.now) c.in_ok-clone.ensures.cases in
    folder_further _ _ (c.in-Some.name.now, c.in-Some.field-0-1.now) _ c.loop-name.invariant next none

pub returns : goal.returns
returns c =
    let none = rest_all deref_pair _ _ _ c.in_default.is c.next.ensures.steps in
    record { first = folder_none _ _ c.iter-later.ensures.packed c.loop-name.invariant none }
