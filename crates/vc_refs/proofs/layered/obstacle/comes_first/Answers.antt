use Rattle.std.proofs.Common.{rules, ◌≡◌}
use Rattle.std.specs.Cmp.Lexicographic.{slice_cmp}
use Rattle.std.specs.Ordering.{is_lt, nat_cmp}
use Rattle.std.specs.Prelude.{string_bytes}
use Rattle.vc_refs.specs.LooseObstacle.{IsFirstInTheWay, IsFree}
use Rattle.vc_refs.proofs.LayeredObstacleLemmas.{comes_first_none, comes_first_some}
use Rattle.vc_refs.proofs.layered.obstacle.comes_first.Goals as goal

pub returns-clause-first : goal.returns-clause-first
returns-clause-first g c = λ honest.
    let content = g.F.Files.content c.args.files.now in
    let obstacle : IsFirstInTheWay content c.args.name.now (string_bytes c.in-Some.path) = rw (c.in-Some.is, c.as_str.ensures.text) at (c.in_ok-path.ensures.first honest) in
    let is : c.is_lt.result ≡ is_lt (slice_cmp nat_cmp c.args.other.now (string_bytes c.in-Some.path)) = search rules in
    comes_first_some content c.args.name.now c.args.other.now (string_bytes c.in-Some.path) c.is_lt.result obstacle is

pub returns-in_default-clause-first : goal.returns-in_default-clause-first
returns-in_default-clause-first g c = λ honest.
    let content = g.F.Files.content c.args.files.now in
    let free : IsFree content c.args.name.now = rw (c.in_default.is, c.as_str.ensures.text) at (c.in_ok-path.ensures.first honest) in
    comes_first_none content c.args.name.now c.args.other.now free
