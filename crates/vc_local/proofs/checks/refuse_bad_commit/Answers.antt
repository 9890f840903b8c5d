use Rattle.std.proofs.Common.{◌≡◌, rules, subst}
use Rattle.vc_files.specs.FileMap.{FileMap}
use Rattle.vc_push_rules.specs.Known.{AreRefsWhole}
use Rattle.vc_quarantine.specs.Known.{AreWhole}
use Rattle.vc_object_map.specs.Store.{objects}
use Rattle.vc_local.specs.GoodCommit.{BlamesCommit, BlamesCommitBeyond}
use Rattle.vc_local.proofs.CommitLemmas.{blames_beyond}
use Rattle.vc_local.proofs.checks.refuse_bad_commit.Goals as goal

pub returns-in_err-refuse_beyond-clause-refused : goal.returns-in_err-refuse_beyond-clause-refused
returns-in_err-refuse_beyond-clause-refused g c = λ honest.
    let content = g.F.Files.content in
    let id = c.args.id.now in
    let e = c.in_err-refuse_beyond.field-0.0 in
    let known = c.in_ok-known.known in
    let old = content c.args.files.now in
    let same : content c.by_good_refs.new.files ≡ old = c.in_ok-known.ensures.same in
    let told : BlamesCommitBeyond (AreWhole (objects old) known) old id e = subst (λ (m : FileMap). BlamesCommitBeyond (AreWhole (objects m) known) m id e) same (c.in_err-refuse_beyond.ensures.refused honest) in
    let blames : BlamesCommit old id e = blames_beyond (AreWhole (objects old) known) (AreRefsWhole old) old id e (c.in_ok-known.ensures.whole honest) told in
    search (rules, blames)
