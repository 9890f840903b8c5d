use Rattle.std.proofs.Common.{ap, inr, map, sym}
use Rattle.std.proofs.lemmas.Result.{IfErr-weaker}
use Rattle.vc_arguments.specs.Modes.{mode_of}
use Rattle.vc_cli.proofs.ToldLemmas.{OnOk-map}
use Rattle.vc_committing.proofs.OpenedLemmas.{adds_to, refuses_add_to}
use Rattle.vc_committing.specs.Adding.{IsOfAdding, RefusesAdd}
use Rattle.vc_working.proofs.DeviceLemmas.{either_both, of_files}
use Rattle.vc_committing.proofs.add.add_to.Goals as goal

pub returns-clause-added : goal.returns-clause-added
returns-clause-added g c = λ work_honest honest.
    let content = g.F.Files.content in
    let work = g.W.WorkTree.content c.args.work.now in
    let words = map (λ word. word.now) c.args.words.now in
    let between = c.in-Ok.node.files in
    let after = c.add_all-done.new.node in
    OnOk-map c.add_all-done.result
    (λ added. adds_to work c.args.own.now (mode_of c.args.mode) words c.in-Ok.node.is_up after.is_up (content c.args.files) (content between) (content after.files) (content c.close.result)
    (c.in-Ok.ensures.opened honest) c.in-Ok.ensures.fresh.up (ap content (sym c.close.ensures)) added)
    (c.add_all-done.ensures.added work_honest honest)

pub returns-clause-refused : goal.returns-clause-refused
returns-clause-refused g c = λ work_honest honest.
    let content = g.F.Files.content in
    let work = g.W.WorkTree.content c.args.work.now in
    let words = map (λ word. word.now) c.args.words.now in
    let mode = mode_of c.args.mode in
    let between = c.in-Ok.node.files in
    let after = c.add_all-done.new.node in
    IfErr-weaker c.add_all-done.result
    (RefusesAdd work c.args.own.now mode words c.in-Ok.node.is_up after.is_up (content between) (content after.files))
    (IsOfAdding work c.args.own.now mode words (content c.args.files) (content c.close.result))
    (λ e refused. inr (refuses_add_to work c.args.own.now mode words c.in-Ok.node.is_up after.is_up (content c.args.files) (content between) (content after.files) (content c.close.result) e
    (c.in-Ok.ensures.opened honest) c.in-Ok.ensures.fresh.up (ap content (sym c.close.ensures)) refused))
    (c.add_all-done.ensures.refused work_honest honest)

pub returns-clause-wear : goal.returns-clause-wear
returns-clause-wear g c = rw c.close.ensures (either_both (of_files c.in-Ok.ensures.wear) (λ none. none) c.add_all-done.ensures.wear)
