use Rattle.std.proofs.Common.{rules}
use Rattle.std.proofs.lemmas.Result.{IfErr-weaker}
use Rattle.vc_files.proofs.WearLemmas.{wears_then, wears_writes, writes_told}
use Rattle.vc_model.specs.Clone.Task.{SetBranch}
use Rattle.vc_cli.proofs.ToldLemmas.{OnOk-map}
use Rattle.vc_committing.proofs.StepLemmas.{refuses_branch, sets_branch}
use Rattle.vc_committing.specs.Steps.{IsOfSetting, IsOfStep}
use Rattle.vc_committing.specs.Steps.IsOfSetting.{of_target}
use Rattle.vc_committing.proofs.clone.set_branch.Goals as goal

pub returns-in-Ok : goal.returns-in-Ok
returns-in-Ok g c =
    let content = g.F.Files.content in
    let old = content c.args.files in
    let m = content c.branch_target.new.files in
    let new = content c.set_branch_to.result.0 in
    let name = c.args.name.now in
    let revision = c.args.revision.now in
    let branch = c.in-Ok.branch in
    let id = c.in-Ok.id in
    record {
      set = λ honest. OnOk-map c.set_branch_to.result.1 (λ step. sets_branch old m new name revision branch id c.branch_target.ensures.same c.in-Ok.ensures.name (c.in-Ok.ensures.id honest) step) (c.set_branch_to.ensures.set honest);
      refused = λ honest. IfErr-weaker c.set_branch_to.result.1 (IsOfStep (SetBranch branch id.0) m new) (IsOfSetting old name revision new)
          (λ e step. refuses_branch old m new name revision branch id e c.branch_target.ensures.same c.in-Ok.ensures.name c.in-Ok.ensures.legal (c.in-Ok.ensures.id honest) step) (c.set_branch_to.ensures.refused honest);
      wear = wears_then c.in-Ok.ensures.wear (search rules) (search rules) c.set_branch_to.ensures.wear;
    }

pub returns-in-Err-clause-refused : goal.returns-in-Err-clause-refused
returns-in-Err-clause-refused g c = λ honest. of_target (c.in-Err.ensures.refused honest) c.branch_target.ensures.same

pub returns-in-Err-clause-wear : goal.returns-in-Err-clause-wear
returns-in-Err-clause-wear g c = writes_told (wears_writes c.in-Err.ensures.wear (search rules)) (search rules) (search rules)
