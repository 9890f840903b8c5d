use Rattle.std.proofs.Common.{subst}
use Rattle.vc_committing.proofs.StepLemmas.{unread_branch}
use Rattle.vc_refs.specs.RefFault.{BlamesRef}
use Rattle.vc_refs.specs.declared.faults.RefFault.{RefFault}
use Rattle.vc_committing.proofs.clone.branch_value.Goals as goal

pub returns-in-BadRefFile-clause-value : goal.returns-in-BadRefFile-clause-value
returns-in-BadRefFile-clause-value g c = λ honest.
    let content = g.F.Files.content in
    let ref = c.in_ok-full_name.full_name in
    let blames = rw c.new.ensures.files at (c.in-Err.ensures.refused honest) in
    unread_branch (content c.args.files.now) c.args.name.now ref c.in-BadRefFile.field-0 c.in_ok-full_name.ensures.name
    (subst (λ (fault : RefFault). BlamesRef (content c.args.files.now) ref fault) c.in-BadRefFile.is blames)
