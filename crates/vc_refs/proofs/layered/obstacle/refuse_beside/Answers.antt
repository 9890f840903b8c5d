use Rattle.std.proofs.Common.{rules}
use Rattle.vc_refs.specs.LooseFault as loose_fault
use Rattle.vc_refs.specs.LooseObstacle as loose
use Rattle.vc_refs.specs.RefFault.{BlamesObstacle}
use Rattle.vc_refs.specs.Obstacle.{IsBehindLoose, IsPackedFirst}
use Rattle.vc_refs.proofs.LayeredObstacleLemmas.{conflict_packed, way_blames_loose, way_free}
use Rattle.vc_refs.proofs.layered.obstacle.refuse_beside.Goals as goal

pub returns-in-Some-clause-refused : goal.returns-in-Some-clause-refused
returns-in-Some-clause-refused g c = λ honest read.
    let content = g.F.Files.content c.args.files.now in
    let first : IsPackedFirst content c.args.packed.now c.args.name.now c.in-Some.other = rw c.in-Some.is at (c.in_ok-other.ensures.first honest) in
    conflict_packed content c.args.packed.now c.args.name.now read c.in-Some.other first.0 first.1

pub returns-in_err-refuse_conflict-clause-refused : goal.returns-in_err-refuse_conflict-clause-refused
returns-in_err-refuse_conflict-clause-refused g c = λ honest read.
    let content = g.F.Files.content c.args.files.now in
    let behind : IsBehindLoose content c.args.packed.now c.args.name.now = rw c.in_default.is at (c.in_ok-other.ensures.first honest) in
    let blames : loose_fault.BlamesObstacle content c.args.name.now c.in_err-refuse_conflict.field-0.0 = rw c.in_ok-other.ensures.same at (c.in_err-refuse_conflict.ensures.refused honest) in
    let told : BlamesObstacle content c.args.name.now c.in_err-refuse_conflict.field-0.0 = way_blames_loose content c.args.packed.now c.args.name.now read behind c.in_err-refuse_conflict.field-0.0 blames in
    search (rules, told)

pub returns-clause-free : goal.returns-clause-free
returns-clause-free g c = λ honest read.
    let content = g.F.Files.content c.args.files.now in
    let behind : IsBehindLoose content c.args.packed.now c.args.name.now = rw c.in_default.is at (c.in_ok-other.ensures.first honest) in
    let free : loose.IsFree content c.args.name.now = rw c.in_ok-other.ensures.same at (c.in_ok-refuse_conflict.ensures.free honest) in
    way_free content c.args.packed.now c.args.name.now read behind free
