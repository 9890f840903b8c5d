use Rattle.std.proofs.Common.{rules, ◌≡◌, true, false, sym, subst}
use Rattle.vc_refs.specs.Obstacle.{ComesFirst, IsFirstPackedInTheWay, IsPackedFirst}
use Rattle.vc_refs.proofs.LayeredObstacleLemmas.{behind_loose}
use Rattle.vc_refs.proofs.layered.obstacle.packed_first.Goals as goal

pub returns-then-branch-clause-first : goal.returns-then-branch-clause-first
returns-then-branch-clause-first g c = λ honest.
    let content = g.F.Files.content c.args.files.now in
    let first : IsFirstPackedInTheWay c.args.packed.now c.args.name.now c.in-Some.other.now = c.in-Some.ensures in
    let before : ComesFirst content c.args.name.now c.in-Some.other.now true = rw c.if-branch.true at (c.in_ok-comes_first.ensures.first honest) in
    let same : c.in_ok-other.other ≡ c.in-Some.other.now = search rules in
    subst (IsPackedFirst content c.args.packed.now c.args.name.now) (sym same) (first, before)

pub returns-clause-first : goal.returns-clause-first
returns-clause-first g c = λ honest.
    let content = g.F.Files.content c.args.files.now in
    let first : IsFirstPackedInTheWay c.args.packed.now c.args.name.now c.in-Some.other.now = c.in-Some.ensures in
    let before : ComesFirst content c.args.name.now c.in-Some.other.now false = rw c.if-branch.false at (c.in_ok-comes_first.ensures.first honest) in
    behind_loose content c.args.packed.now c.args.name.now c.in-Some.other.now first before
