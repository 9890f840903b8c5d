use Rattle.std.proofs.Common.{◌≡◌, inr, refl, subst, ◌⊎◌, List, ℕ}
use Rattle.vc_files.specs.FileMap.{FileMap}
use Rattle.vc_checkout.specs.Refusal.{IsClear}
use Rattle.vc_cli.specs.Failure.{of_checkout, status_of}
use Rattle.vc_cli.proofs.ToldLemmas.{handed_on}
use Rattle.vc_working.specs.Checkout.{IsOfStart}
use Rattle.vc_working.proofs.MendingLemmas.{may_write, of_check}
use Rattle.vc_working.proofs.mending.ready.Goals as goal

pub returns-clause-may : goal.returns-clause-may
returns-clause-may g c = λ honest.
    let content = g.F.Files.content in
    let trees = g.W.WorkTree.content in
    may_write g.W.WorkTree.honest (g.W.WorkTree.can_hold c.args.work.now) (g.W.WorkTree.can_hold c.start_index.new.work) (content c.args.files.now) (content c.start_index.new.files) (trees c.args.work.now) (trees c.start_index.new.work) c.in_ok-is_cut.start c.args.tree.now
    c.in_ok-is_cut.ensures.holds c.in_ok-is_cut.ensures.same c.in_ok-is_cut.ensures.unwritten.0.0 c.in_ok-check.ensures.holds (c.in_ok-check.ensures.blobs honest) c.in_ok-check.ensures.clear

pub returns-clause-clear : goal.returns-clause-clear
returns-clause-clear g c = λ work_honest. subst (λ (w : FileMap). (path : List ℕ) → IsClear c.in_ok-is_cut.start c.args.tree.now w path) c.in_ok-is_cut.ensures.unwritten.0.0 (c.in_ok-check.ensures.clear work_honest)

pub returns-in_err-check-clause-refused : goal.returns-in_err-check-clause-refused
returns-in_err-check-clause-refused g c = λ honest.
    let content = g.F.Files.content in
    let trees = g.W.WorkTree.content in
    let can_hold = g.W.WorkTree.can_hold c.args.work.now in
    let old = content c.args.files.now in
    let work = trees c.args.work.now in
    let start = c.in_ok-is_cut.start in
    let cause = c.in_err-check.field-0.0 in
    handed_on (λ e. (status_of e ≡ 3) ⊎ IsOfStart g.W.WorkTree.honest can_hold old work c.args.root.now c.args.index c.args.tree.now e) (of_checkout cause) c.from_residual-in_err-check.result c.from_residual-in_err-check.ensures.1
    (inr (
      c.in_ok-is_cut.is_cut,
      start,
      c.in_ok-is_cut.ensures.starts honest,
      (
        cause,
        refl,
        of_check g.W.WorkTree.honest can_hold (g.W.WorkTree.can_hold c.start_index.new.work) old (content c.start_index.new.files) work (trees c.start_index.new.work) start c.args.tree.now
            c.in_ok-is_cut.ensures.holds c.in_ok-is_cut.ensures.same c.in_ok-is_cut.ensures.unwritten.0.0 cause (c.in_err-check.ensures.refused honest),
      ),
    ))
