use Rattle.std.proofs.Common.{◌≡◌, true, false, nat_eq, rules}
use Rattle.std.specs.List.{starts_with}
use Rattle.std.specs.Map.Iter.{deref_pair}
use Rattle.std.proofs.lemmas.Map.Iter.{rest_more, rest_all}
use Rattle.vc_files.specs.Path.{is_above}
use Rattle.vc_refs.proofs.FolderLemmas.{inside_further, inside_here, inside_never, inside_none, seeks_inside}
use Rattle.vc_refs.proofs.folders.is_folder_of_any.Goals as goal

pub loop-other-init : goal.loop-other-init
loop-other-init c = seeks_inside c.args.name.now c.args.later c.into_iter-other-iterator.result c.requires.above c.requires.sorted c.into_iter-other-iterator.ensures.into_iter_gives

pub returns-then-is_above : goal.returns-then-is_above
returns-then-is_above c =
    let next = rest_more deref_pair _ _ _ (c.in-Some.other, c.in-Some.field-0-1) c.in-Some.is c.next.ensures.steps in
    let above : is_above c.args.name.now c.in-Some.other.now ≡ true = search rules in
    inside_here _ _ _ (c.in-Some.other.now, c.in-Some.field-0-1.now) _ c.loop-other.invariant next above

pub returns-then-not-starts_with : goal.returns-then-not-starts_with
returns-then-not-starts_with c =
    let next = rest_more deref_pair _ _ _ (c.in-Some.other, c.in-Some.field-0-1) c.in-Some.is c.next.ensures.steps in
    let apart : is_above c.args.name.now c.in-Some.other.now ≡ false = search rules in
    let other : starts_with nat_eq c.in-Some.other.now c.args.name.now ≡ false = search rules in
    inside_never _ _ _ (c.in-Some.other.now, c.in-Some.field-0-1.now) _ c.loop-other.invariant next apart other

pub loop-other-preserved : goal.loop-other-preserved
loop-other-preserved c =
    let next = rest_more deref_pair _ _ _ (c.in-Some.other, c.in-Some.field-0-1) c.in-Some.is c.next.ensures.steps in
    let apart : is_above c.args.name.now c.in-Some.other.now ≡ false = search rules in
    inside_further _ _ _ (c.in-Some.other.now, c.in-Some.field-0-1.now) _ c.loop-other.invariant next apart

pub returns : goal.returns
returns c =
    let none = rest_all deref_pair _ _ _ c.in-None.is c.next.ensures.steps in
    inside_none _ _ _ c.loop-other.invariant none
