use Rattle.std.proofs.Common.{inr, subst}
use Rattle.std.proofs.lemmas.Result.{IfErr-weaker}
use Rattle.std.specs.Prelude.{IfErr}
use Rattle.vc_cli.proofs.StoreLemmas.{stores_back}
use Rattle.vc_files.specs.FileMap.{FileMap}
use Rattle.vc_working.specs.StatusLines.{RefusesStatus}
use Rattle.vc_working.specs.Trees.{IsOfStatus}
use Rattle.vc_working.proofs.work.status_of_store.Goals as goal

pub returns-clause-refused : goal.returns-clause-refused
returns-clause-refused g c = λ honest.
    let old = g.S.Stores.content c.args.stores.now c.args.store.now in
    IfErr-weaker c.show_status-done.result (RefusesStatus old) (IsOfStatus old) (λ e of. inr of)
    (subst (λ (f : FileMap). IfErr c.show_status-done.result (RefusesStatus f)) c.in_ok-files.ensures.opened (c.show_status-done.ensures.refused honest))

pub returns-clause-stores : goal.returns-clause-stores
returns-clause-stores g c =
    let content = g.S.Stores.content in
    let files = g.S.Files.Files.content in
    stores_back c.args.store.now (files c.in_ok-files.files) (files c.show_status-done.new.files) (content c.args.stores.now) (content c.open.new.self) (content c.close.new.self)
    c.in_ok-files.ensures.others c.in_ok-files.ensures.opened c.show_status-done.ensures.files c.close.ensures.back
