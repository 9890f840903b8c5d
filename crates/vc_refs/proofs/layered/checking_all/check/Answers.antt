use Rattle.std.proofs.Common.{rules, ◌≡◌, true, None, Some, inr, sym, subst}
use Rattle.vc_refname.specs.RefName.{IsRefName}
use Rattle.vc_refs.specs.Obstacle.{IsFree}
use Rattle.vc_refs.specs.RefFault.{BlamesObstacle, BlamesRemove, HasExpected}
use Rattle.vc_refs.specs.RefMap.{is_ref}
use Rattle.vc_refs.specs.Refs.{IsGoodPackedFile}
use Rattle.vc_refs.specs.SetAll.{first_conflicting, BlamesChange}
use Rattle.vc_refs.proofs.ChangesLemmas.{change_blames_value, change_blames_way}
use Rattle.vc_refs.proofs.LayeredLemmas.{good_packed_file}
use Rattle.vc_refs.proofs.RefsLemmas.{is_ref-from_legal}
use Rattle.vc_refs.proofs.layered.checking_all.check.Goals as goal

pub returns-in_err-refuse_beside-clause-refused : goal.returns-in_err-refuse_beside-clause-refused
returns-in_err-refuse_beside-clause-refused g c = λ honest read.
    let content = g.F.Files.content c.args.files.now in
    let good : IsGoodPackedFile content = good_packed_file content c.args.packed.now read in
    let blames : BlamesObstacle content c.args.change.now.name c.in_err-refuse_beside.field-0.0 = c.in_err-refuse_beside.ensures.refused honest read in
    let told : BlamesChange content c.args.earlier.now c.args.change.now c.in_err-refuse_beside.field-0.0 = change_blames_way content c.args.earlier.now c.args.change.now good c.in_err-refuse_beside.field-0.0 blames in
    search (rules, told)

pub returns-in-Some-clause-refused : goal.returns-in-Some-clause-refused
returns-in-Some-clause-refused g c = λ honest read.
    let content = g.F.Files.content c.args.files.now in
    let free : IsFree content c.args.change.now.name = c.in_ok-refuse_beside.ensures.free honest read in
    let found : first_conflicting c.args.earlier.now c.args.change.now.name ≡ Some c.in-Some.other = sym (rw c.in-Some.is at c.in_ok-other.ensures) in
    inr (free, found)

pub returns-in_err-loose-clause-refused : goal.returns-in_err-loose-clause-refused
returns-in_err-loose-clause-refused g c = λ honest read.
    let content = g.F.Files.content c.args.files.now in
    let free : IsFree content c.args.change.now.name = c.in_ok-refuse_beside.ensures.free honest read in
    let apart : first_conflicting c.args.earlier.now c.args.change.now.name ≡ None = sym (rw c.in_default.is at c.in_ok-other.ensures) in
    let blames : BlamesRemove content c.args.change.now.name c.args.change.now.expected c.in_err-loose.field-0.0 =
    rw c.in_ok-refuse_beside.ensures.same at (c.in_err-loose.ensures.refused honest (rw c.in_ok-refuse_beside.ensures.same read)) in
    let told : BlamesChange content c.args.earlier.now c.args.change.now c.in_err-loose.field-0.0 =
    change_blames_value content c.args.earlier.now c.args.change.now free apart c.in_err-loose.field-0.0 blames in
    search (rules, told)

pub returns-clause-loose : goal.returns-clause-loose
returns-clause-loose g c = λ honest. rw c.in_ok-refuse_beside.ensures.same at (c.in_ok-loose.ensures.loose honest)

pub returns-clause-allowed : goal.returns-clause-allowed
returns-clause-allowed g c = λ honest read.
    let content = g.F.Files.content c.args.files.now in
    let name = c.args.change.now.name in
    let free : IsFree content name = c.in_ok-refuse_beside.ensures.free honest read in
    let apart : first_conflicting c.args.earlier.now name ≡ None = sym (rw c.in_default.is at c.in_ok-other.ensures) in
    let legal : is_ref name ≡ true = is_ref-from_legal name (subst IsRefName c.as_str.ensures.text c.as_str.ensures.legal) c.requires in
    let value : HasExpected content name c.args.change.now.expected =
    rw c.in_ok-refuse_beside.ensures.same at (c.in_ok-loose.ensures.allowed honest (rw c.in_ok-refuse_beside.ensures.same read)) in
    record { alone = (legal, record { free = free; value = value }); apart = apart }
