use Rattle.std.proofs.Common.{rules, map}
use Rattle.vc_files.proofs.WearLemmas.{wears_then, wears_writes}
use Rattle.vc_local.proofs.LookLemmas.{looks_told}
use Rattle.std.proofs.KnownBytes.{Keeps-refl}
use Rattle.std.proofs.lemmas.Result.{IfErr-weaker}
use Rattle.vc_cli.proofs.ToldLemmas.{OnOk-map}
use Rattle.vc_working.proofs.DeviceLemmas.{of_files_told}
use Rattle.vc_committing.proofs.StepLemmas.{commits_index, refuses_index}
use Rattle.vc_committing.specs.Steps.{IsOfCommit, IsOfCommitOn}
use Rattle.vc_committing.specs.Steps.IsOfCommit.{of_revisions}
use Rattle.vc_committing.proofs.clone.commit_index.Goals as goal

pub returns-in-Ok : goal.returns-in-Ok
returns-in-Ok g c =
    let content = g.F.Files.content in
    let contents = g.O.Write.contents in
    let old = content c.args.files in
    let m = content c.parents_named.new.files in
    let new = content c.commit_on.result.0 in
    let revisions = map (λ revision. revision.now) c.args.revisions.now in
    let author = c.args.words.author.now in
    let committer = c.args.words.committer.now in
    let message = c.args.words.message.now in
    let before = contents c.args.output.now in
    let after = contents c.commit_on.new.output in
    record {
      committed = λ honest. OnOk-map c.commit_on.result.1
          (λ on. commits_index old m new revisions c.in-Ok.parents.items c.deref.result.now author committer message before after c.parents_named.ensures.same c.deref.ensures.value (c.in-Ok.ensures.named honest) on)
          (c.commit_on.ensures.committed honest);
      refused = λ honest. IfErr-weaker c.commit_on.result.1
          (IsOfCommitOn m c.deref.result.now author committer message new before after)
          (IsOfCommit old revisions author committer message new before after)
          (λ e on. refuses_index old m new revisions c.in-Ok.parents.items c.deref.result.now author committer message before after e c.parents_named.ensures.same c.deref.ensures.value (c.in-Ok.ensures.named honest) on)
          (c.commit_on.ensures.refused honest);
      wear = wears_then c.in-Ok.ensures.wear (search rules) (search rules) c.commit_on.ensures.wear;
    }

pub returns-in-Err-clause-refused : goal.returns-in-Err-clause-refused
returns-in-Err-clause-refused g c = λ honest. of_revisions (c.in-Err.ensures.refused honest) c.parents_named.ensures.same (Keeps-refl (g.O.Write.contents c.args.output.now))

pub returns-in-Err-clause-wear : goal.returns-in-Err-clause-wear
returns-in-Err-clause-wear g c = wears_writes (looks_told c.in-Err.ensures.wear (of_files_told c.in-Err.failure)) (search rules)
