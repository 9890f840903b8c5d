use Rattle.std.proofs.Common.{inr, map}
use Rattle.std.proofs.lemmas.Result.{IfErr-weaker}
use Rattle.vc_cli.proofs.StoreLemmas.{gave}
use Rattle.vc_cli.specs.Stores.{IsUntoldOr}
use Rattle.vc_committing.specs.Steps.{IsOfSaid}
use Rattle.vc_files.specs.FileMap.{FileMap}
use Rattle.vc_committing.proofs.commands.commit.Goals as goal

pub returns-clause-refused : goal.returns-clause-refused
returns-clause-refused g c = λ honest.
    let content = g.S.Files.Files.content in
    let stores = g.S.Stores.content in
    let store = g.S.Stores.of c.args.lock.now in
    let old = stores c.args.stores.now in
    let new = stores c.close_locked.new.self in
    let revisions = map (λ revision. revision.now) c.args.revisions.now in
    let before = g.O.Write.contents c.args.output.now in
    let after = g.O.Write.contents c.commit_index-files.new.output in
    let files = content c.in_ok-files.files in
    let back = content c.commit_index-files.result.0 in
    IfErr-weaker c.commit_index-files.result.1 (IsOfSaid files revisions c.args.words back before after)
    (IsUntoldOr old new before after (IsOfSaid (old store) revisions c.args.words (new store) before after))
    (λ e of. inr (gave (λ (s t : FileMap). IsOfSaid s revisions c.args.words t before after e) store files back old (stores c.open_locked.new.self) new c.in_ok-files.ensures.opened c.close_locked.ensures.back of))
    (c.commit_index-files.ensures.refused honest)
