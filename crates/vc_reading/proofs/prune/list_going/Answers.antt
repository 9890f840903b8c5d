use Rattle.vc_cli.proofs.StoreLemmas.{stores_back}
use Rattle.vc_reading.proofs.prune.list_going.Goals as goal

pub returns-clause-same : goal.returns-clause-same
returns-clause-same g c =
    let content = g.S.Files.Files.content in
    let stores = g.S.Stores.content in
    stores_back c.args.store.now (content c.in_ok-files.files) (content c.print_going-printed.new.files) (stores c.args.stores.now) (stores c.open.new.self) (stores c.close.new.self)
    c.in_ok-files.ensures.others c.in_ok-files.ensures.opened c.print_going-printed.ensures.same c.close.ensures.back
