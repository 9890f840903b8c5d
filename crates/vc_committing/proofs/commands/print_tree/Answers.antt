use Rattle.std.proofs.Common.{refl, subst, sym}
use Rattle.std.proofs.KnownBytes.{Keeps-refl}
use Rattle.vc_cli.proofs.ToldLemmas.{handed_on}
use Rattle.vc_committing.specs.Steps.{WritesTree}
use Rattle.vc_committing.specs.Told.{IsOfPrintedTree}
use Rattle.vc_committing.specs.Told.IsOfPrintedTree.{unsettled, untold}
use Rattle.vc_files.specs.FileMap.{FileMap}
use Rattle.vc_committing.proofs.commands.print_tree.Goals as goal

pub returns-in_err-settle-clause-refused : goal.returns-in_err-settle-clause-refused
returns-in_err-settle-clause-refused g c = λ honest.
    let content = g.S.Files.Files.content in
    let is_honest = g.S.Files.Files.honest in
    let old = content c.args.files.now in
    let before = g.O.Write.contents c.args.output.now in
    handed_on (IsOfPrintedTree is_honest content g.S.Stores.is_durable old (content c.settle.new.files) before before) c.in_err-settle.field-0.0 c.from_residual-in_err-settle.result c.from_residual-in_err-settle.ensures.1
    (unsettled c.in_ok-id.id c.in_err-settle.ensures.fault (subst (λ (f : FileMap). WritesTree is_honest old f c.in_ok-id.id) (sym c.in_err-settle.ensures.files) (c.in_ok-id.ensures.written honest)) (Keeps-refl before))

pub returns-in_err-print_id-clause-refused : goal.returns-in_err-print_id-clause-refused
returns-in_err-print_id-clause-refused g c = λ honest.
    let content = g.S.Files.Files.content in
    let is_honest = g.S.Files.Files.honest in
    let old = content c.args.files.now in
    let before = g.O.Write.contents c.args.output.now in
    let after = g.O.Write.contents c.print_id.new.output in
    handed_on (IsOfPrintedTree is_honest content g.S.Stores.is_durable old (content c.settle.new.files) before after) c.in_err-print_id.field-0.0 c.from_residual-in_err-print_id.result c.from_residual-in_err-print_id.ensures.1
    (untold c.in_ok-id.id c.in_err-print_id.ensures.fault (subst (λ (f : FileMap). WritesTree is_honest old f c.in_ok-id.id) (sym c.in_ok-settle.ensures.files) (c.in_ok-id.ensures.written honest))
    (record { files = c.settle.new.files; durable = c.in_ok-settle.ensures.durable; has = refl }) c.in_err-print_id.ensures.front)

pub returns-clause-printed : goal.returns-clause-printed
returns-clause-printed g c = λ honest.
    let content = g.S.Files.Files.content in
    record {
      id = c.in_ok-id.id;
      written = subst (λ (f : FileMap). WritesTree g.S.Files.Files.honest (content c.args.files.now) f c.in_ok-id.id) (sym c.in_ok-settle.ensures.files) (c.in_ok-id.ensures.written honest);
      settled = record { files = c.settle.new.files; durable = c.in_ok-settle.ensures.durable; has = refl };
      text = c.in_ok-print_id.ensures.line;
    }
