use Rattle.std.proofs.Common.{inr, subst}
use Rattle.std.specs.Prelude.{IfErr, Result}
use Rattle.vc_cli.specs.declared.failure.Failure.{Failure}
use Rattle.vc_committing.specs.Steps.{IsOfSetting}
use Rattle.vc_files.specs.FileMap.{FileMap}
use Rattle.vc_committing.proofs.clone.replace_branch.Goals as goal

pub returns-in-Err-done-clause-refused : goal.returns-in-Err-done-clause-refused
returns-in-Err-done-clause-refused g c = λ honest.
    let content = g.F.Files.content in
    let name = c.args.name.now in
    let revision = c.args.revision.now in
    let looked = content c.branch_value.new.files in
    let new = content c.set_branch-files.result.0 in
    inr (subst (λ (f : FileMap). IsOfSetting f name revision new c.in-Err-done.failure) c.branch_value.ensures.same
    (subst (λ (r : Result (Unit {0}) Failure). IfErr r (IsOfSetting looked name revision new)) c.in-Err-done.is (c.set_branch-files.ensures.refused honest)))
