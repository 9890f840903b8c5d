use Rattle.std.proofs.Common.{inr}
use Rattle.std.proofs.lemmas.Result.{IfErr-weaker}
use Rattle.vc_cli.proofs.StoreLemmas.{gave}
use Rattle.vc_cli.specs.Stores.{IsUntoldOr}
use Rattle.vc_committing.specs.Told.{IsOfPrintedTree}
use Rattle.vc_files.specs.FileMap.{FileMap}
use Rattle.vc_committing.proofs.commands.write_tree.Goals as goal

pub returns-clause-refused : goal.returns-clause-refused
returns-clause-refused g c = λ honest.
    let content = g.S.Files.Files.content in
    let is_honest = g.S.Files.Files.honest in
    let durable = g.S.Stores.is_durable in
    let stores = g.S.Stores.content in
    let store = g.S.Stores.of c.args.lock.now in
    let old = stores c.args.stores.now in
    let new = stores c.close_locked.new.self in
    let before = g.O.Write.contents c.args.output.now in
    let after = g.O.Write.contents c.print_tree-done.new.output in
    let files = content c.in_ok-files.files in
    let back = content c.print_tree-done.new.files in
    IfErr-weaker c.print_tree-done.result (IsOfPrintedTree is_honest content durable files back before after)
    (IsUntoldOr old new before after (IsOfPrintedTree is_honest content durable (old store) (new store) before after))
    (λ e of. inr (gave (λ (s t : FileMap). IsOfPrintedTree is_honest content durable s t before after e) store files back old (stores c.print_tree-done.new.stores) new c.in_ok-files.ensures.opened c.close_locked.ensures.back of))
    (c.print_tree-done.ensures.refused honest)
