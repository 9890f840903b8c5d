use Rattle.std.proofs.Common.{◌≡◌, refl, sym, subst}
use Rattle.vc_files.specs.FileMap.{FileMap}
use Rattle.vc_object_map.specs.Store.{objects}
use Rattle.vc_checkout.proofs.BringLemmas.{begun_behind, brought_behind, not_begun}
use Rattle.vc_checkout.proofs.apply.checkout.Goals as goal
use Rattle.vc_lemmas.proofs.Lists.{on_err}

pub returns-in_err-check-clause-begun : goal.returns-in_err-check-clause-begun
returns-in_err-check-clause-begun g c = λ honest stored.
    on_err _ _ (not_begun g.T.WorkTree.content g.T.WorkTree.folders g.T.WorkTree.left g.T.WorkTree.can_hold c.args.index.now c.args.tree.now c.args.work.now c.check.new.work c.check.ensures.unwritten (objects (g.F.Files.content c.args.files.now)))

pub returns-in_err-bring-clause-begun : goal.returns-in_err-bring-clause-begun
returns-in_err-bring-clause-begun g c = λ honest stored.
    let files = g.F.Files.content in
    on_err _ _ (begun_behind g.T.WorkTree.content g.T.WorkTree.folders g.T.WorkTree.left g.T.WorkTree.can_hold c.args.index.now c.args.tree.now c.args.work.now c.check.new.work c.check.ensures.unwritten
    (objects (files c.args.files.now)) (objects (files c.check.new.files)) c.bring.new.work (subst (λ (f : FileMap). objects f ≡ objects (files c.args.files.now)) (sym c.check.ensures.files) refl) (c.in_err-bring.ensures.begun honest stored) (c.in_ok-check.ensures.allowed honest stored))

pub returns-clause-brought : goal.returns-clause-brought
returns-clause-brought g c = λ honest stored.
    let files = g.F.Files.content in
    brought_behind g.T.WorkTree.content g.T.WorkTree.folders g.T.WorkTree.left g.T.WorkTree.can_hold c.args.index.now c.args.tree.now c.args.work.now c.check.new.work c.check.ensures.unwritten
    (objects (files c.args.files.now)) (objects (files c.check.new.files)) c.bring.new.work (subst (λ (f : FileMap). objects f ≡ objects (files c.args.files.now)) (sym c.check.ensures.files) refl) (c.in_ok-bring.ensures.brought honest stored)
