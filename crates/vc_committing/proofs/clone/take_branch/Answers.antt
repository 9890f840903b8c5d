use Rattle.std.proofs.Common.{Ok, subst}
use Rattle.std.specs.Prelude.{OnOk, Result}
use Rattle.vc_cli.specs.declared.failure.Failure.{Failure}
use Rattle.vc_committing.specs.Steps.{StepsTo}
use Rattle.vc_files.specs.FileMap.{FileMap}
use Rattle.vc_model.specs.Clone.Task.{DeleteBranch}
use Rattle.vc_working.specs.CloneWords.{branch_ref}
use Rattle.vc_committing.proofs.clone.take_branch.Goals as goal

pub returns-in-Ok-done-clause-taken : goal.returns-in-Ok-done-clause-taken
returns-in-Ok-done-clause-taken g c = λ honest.
    let content = g.F.Files.content in
    let task = DeleteBranch (branch_ref c.args.name.now) in
    let looked = content c.branch_value.new.files in
    let new = content c.delete_branch-files.result.0 in
    subst (λ (f : FileMap). StepsTo task (Ok tt) f new) c.branch_value.ensures.same
    (subst (λ (r : Result (Unit {0}) Failure). OnOk r (StepsTo task (Ok tt) looked new)) c.in-Ok-done.is (c.delete_branch-files.ensures.deleted honest))
