use Rattle.std.proofs.Common.{◌⊎◌, inr, subst}
use Rattle.std.proofs.lemmas.Result.{IfErr-weaker}
use Rattle.std.specs.Prelude.{IfErr}
use Rattle.vc_cli.specs.Stores.{IsUnopened}
use Rattle.vc_files.specs.FileMap.{FileMap}
use Rattle.vc_working.specs.Checkout.{RefusesCheckout}
use Rattle.vc_working.proofs.work.checkout_into.Goals as goal

pub returns-clause-refused : goal.returns-clause-refused
returns-clause-refused g c = λ honest.
    let old = g.S.Stores.content c.args.stores.now (g.S.Stores.of c.args.lock.now) in
    let work = g.W.WorkTree.content c.args.work.now in
    IfErr-weaker c.check_out-done.result
    (RefusesCheckout g.W.WorkTree.honest (g.W.WorkTree.can_hold c.args.work.now) c.args.own.now c.args.revision.now old work)
    (λ e. IsUnopened e ⊎ RefusesCheckout g.W.WorkTree.honest (g.W.WorkTree.can_hold c.args.work.now) c.args.own.now c.args.revision.now old work e)
    (λ e of. inr of)
    (subst (λ (f : FileMap). IfErr c.check_out-done.result (RefusesCheckout g.W.WorkTree.honest (g.W.WorkTree.can_hold c.args.work.now) c.args.own.now c.args.revision.now f work)) c.in_ok-files.ensures.opened (c.check_out-done.ensures.refused honest))
