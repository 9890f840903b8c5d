use Rattle.std.proofs.Common.{rules, ◌≡◌, true, false}
use Rattle.std.specs.Map.Iter.{deref_pair}
use Rattle.std.proofs.lemmas.Map.Iter.{rest_more, rest_all}
use Rattle.vc_refs.specs.RefMap.{conflicts}
use Rattle.vc_refs.proofs.LayeredObstacleLemmas.{first_conflict, looks_further, none_conflicts}
use Rattle.vc_refs.proofs.layered.obstacle.packed_in_the_way.Goals as goal

pub returns-then-conflicts : goal.returns-then-conflicts
returns-then-conflicts c =
    let next = rest_more deref_pair _ _ _ (c.in-Some.other, c.in-Some.field-0-1) c.in-Some.is c.next.ensures.steps in
    let conflict : conflicts c.in-Some.other.now c.args.name.now ≡ true = search rules in
    first_conflict _ _ _ c.loop-other.invariant c.in-Some.other.now c.in-Some.field-0-1.now _ next conflict

pub loop-other-preserved : goal.loop-other-preserved
loop-other-preserved c =
    let next = rest_more deref_pair _ _ _ (c.in-Some.other, c.in-Some.field-0-1) c.in-Some.is c.next.ensures.steps in
    let apart : conflicts c.in-Some.other.now c.args.name.now ≡ false = search rules in
    looks_further _ _ _ _ (c.in-Some.other.now, c.in-Some.field-0-1.now) c.loop-other.invariant next apart

pub returns : goal.returns
returns c =
    let none = rest_all deref_pair _ _ _ c.in-None.is c.next.ensures.steps in
    none_conflicts _ _ _ c.loop-other.invariant none
