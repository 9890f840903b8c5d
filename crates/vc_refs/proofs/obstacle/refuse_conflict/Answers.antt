use Rattle.std.proofs.Common.{◌≡◌, Some, None, ap}
use Rattle.std.specs.Prelude.{string_bytes, is_some}
use Rattle.vc_refs.specs.RefMap.{entry_at}
use Rattle.vc_refs.specs.LooseObstacle.{IsFirstInTheWay}
use Rattle.vc_refs.specs.Refs.{loose_refs, IsBadLoose}
use Rattle.vc_refs.proofs.RefsLemmas.{entry_parts, no_entry, bad_from_none}
use Rattle.vc_refs.proofs.obstacle.refuse_conflict.Goals as goal

pub returns-in-Some-2-clause-refused : goal.returns-in-Some-2-clause-refused
returns-in-Some-2-clause-refused g c = λ honest.
    let content = g.F.Files.content c.args.files.now in
    let other = string_bytes c.in-Some.other in
    let first : IsFirstInTheWay content c.args.name.now other = rw (c.in-Some.is, c.as_str.ensures.text) at (c.in_ok-other.ensures.first honest) in
    let found : Some (c.in-Some-2.taken, c.in-Some-2.field-0-1) ≡ entry_at (loose_refs content) other = rw (c.in-Some-2.is, c.in_ok-other.ensures.same, c.as_str-2.ensures.value) at (c.in_ok-taken.ensures.found honest) in
    let parts = entry_parts (loose_refs content) other c.in-Some-2.taken c.in-Some-2.field-0-1 found in
    rw parts.0 (first, ap is_some parts.1)

pub returns-clause-free : goal.returns-clause-free
returns-clause-free g c = λ honest.
    let content = g.F.Files.content c.args.files.now in
    let other = string_bytes c.in-Some.other in
    let first : IsFirstInTheWay content c.args.name.now other = rw (c.in-Some.is, c.as_str.ensures.text) at (c.in_ok-other.ensures.first honest) in
    let found : None ≡ entry_at (loose_refs content) other = rw (c.in-None.is, c.in_ok-other.ensures.same, c.as_str-2.ensures.value) at (c.in_ok-taken.ensures.found honest) in
    let good : IsBadLoose content other → ⊥ = rw (c.in_ok-other.ensures.same, c.as_str-2.ensures.value) at (c.in_ok-taken.ensures.good honest) in
    absurd (good (bad_from_none content other first.here.taken (no_entry (loose_refs content) other found)))
