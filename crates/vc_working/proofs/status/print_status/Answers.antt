use Rattle.std.proofs.Common.{◌≡◌, ◌∙◌, ap, inr, map, subst, List, ℕ}
use Rattle.std.specs.List.{flat_map}
use Rattle.std.specs.Io.KnownBytes.{Appends}
use Rattle.vc_files.specs.FileMap.{FileMap}
use Rattle.vc_object_map.specs.Store.{objects}
use Rattle.vc_checkout.specs.Heads.{IsIndexOfHead}
use Rattle.vc_checkout.specs.Status.{seen}
use Rattle.vc_cli.specs.Failure.{of_checkout}
use Rattle.vc_cli.specs.Printed.{AppendsFront}
use Rattle.vc_working.specs.StatusLines.{IsHeadTree, IsOfHeadTree, RefusesStatus, change_lines}
use Rattle.vc_working.specs.StatusLines.RefusesStatus.{by_head}
use Rattle.vc_cli.proofs.PrintLemmas.{on_err}
use Rattle.vc_cli.proofs.ToldLemmas.{handed_on}
use Rattle.vc_working.proofs.CheckoutLemmas.{refused_status}
use Rattle.vc_working.proofs.status.print_status.Goals as goal

pub returns-clause-printed : goal.returns-clause-printed
returns-clause-printed g c = λ work_honest honest.
    let content = g.F.Files.content in
    let contents = g.O.Write.contents in
    let own = c.args.own.now in
    let index = c.in_ok-index.index in
    let tree = c.in_ok-tree.tree in
    let changes = map seen c.in_ok-changes.changes.items in
    let read : content c.read_index.new.files ≡ content c.args.files.now = c.in_ok-index.ensures.same in
    let treed : content c.head_tree.new.files ≡ content c.args.files.now = c.in_ok-tree.ensures.same ∙ read in
    let told = c.in_ok-changes.ensures.status work_honest honest in
    let lines : c.in_ok-lines.lines.items ≡ flat_map (change_lines own) changes = c.in_ok-lines.ensures ∙ ap (λ cs. flat_map (change_lines own) (map seen cs)) c.deref.ensures.value in
    record {
      index = index;
      spelled = c.in_ok-index.ensures.spelled honest;
      tree = tree;
      tree_is = subst (λ (m : FileMap). IsHeadTree m tree) read (c.in_ok-tree.ensures.tree honest);
      head = told.0;
      head_is = subst (λ (m : FileMap). IsIndexOfHead (objects m) tree told.0) treed told.1;
      changes = changes;
      exact = told.2;
      text = subst (λ (text : List ℕ). Appends (contents c.args.output.now) (contents c.print_text.new.output) text) (c.deref-2.ensures.value ∙ lines) c.in_ok-print_text.ensures.text;
    }

pub returns-in_err-print_text-clause-front : goal.returns-in_err-print_text-clause-front
returns-in_err-print_text-clause-front g c = λ work_honest honest.
    let content = g.F.Files.content in
    let contents = g.O.Write.contents in
    let own = c.args.own.now in
    let index = c.in_ok-index.index in
    let tree = c.in_ok-tree.tree in
    let changes = map seen c.in_ok-changes.changes.items in
    let read : content c.read_index.new.files ≡ content c.args.files.now = c.in_ok-index.ensures.same in
    let treed : content c.head_tree.new.files ≡ content c.args.files.now = c.in_ok-tree.ensures.same ∙ read in
    let told = c.in_ok-changes.ensures.status work_honest honest in
    let lines : c.in_ok-lines.lines.items ≡ flat_map (change_lines own) changes = c.in_ok-lines.ensures ∙ ap (λ cs. flat_map (change_lines own) (map seen cs)) c.deref.ensures.value in
    on_err c.from_residual-in_err-print_text.result (inr (record {
      index = index;
      spelled = c.in_ok-index.ensures.spelled honest;
      tree = tree;
      tree_is = subst (λ (m : FileMap). IsHeadTree m tree) read (c.in_ok-tree.ensures.tree honest);
      head = told.0;
      head_is = subst (λ (m : FileMap). IsIndexOfHead (objects m) tree told.0) treed told.1;
      changes = changes;
      exact = told.2;
      text = subst (λ (text : List ℕ). AppendsFront (contents c.args.output.now) (contents c.print_text.new.output) text) (c.deref-2.ensures.value ∙ lines) c.in_err-print_text.ensures.front;
    }))

pub returns-in_err-tree-clause-refused : goal.returns-in_err-tree-clause-refused
returns-in_err-tree-clause-refused g c = λ honest.
    let content = g.F.Files.content in
    let read : content c.read_index.new.files ≡ content c.args.files.now = c.in_ok-index.ensures.same in
    let told = subst (λ (m : FileMap). IsOfHeadTree m c.in_err-tree.field-0.0) read (c.in_err-tree.ensures.refused honest) in
    handed_on (RefusesStatus (content c.args.files.now)) c.in_err-tree.field-0.0 c.from_residual-in_err-tree.result c.from_residual-in_err-tree.ensures.1
    (by_head c.in_ok-index.index (c.in_ok-index.ensures.spelled honest) told)

pub returns-in_err-changes-clause-refused : goal.returns-in_err-changes-clause-refused
returns-in_err-changes-clause-refused g c = λ honest.
    let content = g.F.Files.content in
    let old = content c.args.files.now in
    let tree = c.in_ok-tree.tree in
    let read : content c.read_index.new.files ≡ old = c.in_ok-index.ensures.same in
    let treed : content c.head_tree.new.files ≡ old = c.in_ok-tree.ensures.same ∙ read in
    handed_on (RefusesStatus old) (of_checkout c.in_err-changes.field-0.0) c.from_residual-in_err-changes.result c.from_residual-in_err-changes.ensures.1
    (refused_status g.F.Files.honest honest old (content c.head_tree.new.files) c.in_ok-index.index tree c.in_err-changes.field-0.0 (c.in_ok-index.ensures.spelled honest)
    (subst (λ (m : FileMap). IsHeadTree m tree) read (c.in_ok-tree.ensures.tree honest)) treed c.in_err-changes.ensures.refused (c.in_err-changes.ensures.tree honest))
