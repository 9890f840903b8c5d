use Rattle.std.proofs.Common.{subst}
use Rattle.std.specs.Prelude.{IfErr}
use Rattle.vc_cli.proofs.StoreLemmas.{over_files, stores_back}
use Rattle.vc_files.specs.FileMap.{FileMap}
use Rattle.vc_reading.specs.Shown.{IsOfNamed}
use Rattle.vc_reading.proofs.cat_file.cat_file.Goals as goal

pub returns-clause-same : goal.returns-clause-same
returns-clause-same g c =
    let content = g.S.Files.Files.content in
    let stores = g.S.Stores.content in
    stores_back c.args.store.now (content c.in_ok-files.files) (content c.print_named-printed.new.files) (stores c.args.stores.now) (stores c.open.new.self) (stores c.close.new.self)
    c.in_ok-files.ensures.others c.in_ok-files.ensures.opened c.print_named-printed.ensures.same c.close.ensures.back

pub returns-clause-refused : goal.returns-clause-refused
returns-clause-refused g c = λ honest.
    let printed = c.print_named-printed in
    let store = g.S.Stores.content c.args.stores.now c.args.store.now in
    over_files printed.result (IsOfNamed store c.args.revision.now) (subst (λ (m : FileMap). IfErr printed.result (IsOfNamed m c.args.revision.now)) c.in_ok-files.ensures.opened (printed.ensures.refused honest))
