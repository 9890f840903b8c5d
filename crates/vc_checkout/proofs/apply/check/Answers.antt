use Rattle.std.proofs.Common.{rules, ◌≡◌, ◌⊎◌, inl, inr}
use Rattle.vc_index.specs.declared.faults.IndexFault.{IndexFault}
use Rattle.vc_checkout.specs.Blobs.{BlamesBlobs}
use Rattle.vc_checkout.specs.CheckoutFault.{IsFault, IsOfCheckout}
use Rattle.vc_checkout.specs.declared.faults.CheckoutFault.TheVariants.{Index}
use Rattle.vc_checkout.proofs.ClearLemmas.{if_err, of_check, of_held}
use Rattle.vc_checkout.proofs.apply.check.Goals as goal

pub returns-in_err-check_held-clause-refused : goal.returns-in_err-check_held-clause-refused
returns-in_err-check_held-clause-refused g c = λ stored.
    let work = g.T.WorkTree.content c.args.work.now in
    let can_hold = g.T.WorkTree.can_hold c.args.work.now in
    let content = g.F.Files.content c.args.files.now in
    let e = c.in_err-check_held.field-0.0 in
    if_err c.from_residual.result e (IsOfCheckout g.T.WorkTree.honest can_hold work content c.args.index.now c.args.tree.now) (search rules) (of_held g.T.WorkTree.honest can_hold work content c.args.index.now c.args.tree.now e c.in_err-check_held.ensures.refused)

pub returns-in_err-check_blobs-clause-refused : goal.returns-in_err-check_blobs-clause-refused
returns-in_err-check_blobs-clause-refused g c = λ stored.
    let work = g.T.WorkTree.content c.args.work.now in
    let content = g.F.Files.content c.args.files.now in
    let index = c.args.index.now in
    let tree = c.args.tree.now in
    let e = c.in_err-check_blobs.field-0.0 in
    let told : IsFault e ⊎ ((cause : IndexFault) × (e ≡ Index cause) × BlamesBlobs content index tree cause) = c.in_err-check_blobs.ensures.refused stored in
    if_err c.from_residual-in_err-check_blobs.result e (IsOfCheckout g.T.WorkTree.honest (g.T.WorkTree.can_hold c.args.work.now) work content index tree) (search rules) (elim told [ inl fault ↦ inl fault | inr at ↦ inr (inr (c.in_ok-check_held.ensures.held, inl at)) ])

pub returns-in_err-check_all-clause-refused : goal.returns-in_err-check_all-clause-refused
returns-in_err-check_all-clause-refused g c = λ stored.
    let work = g.T.WorkTree.content c.args.work.now in
    let content = g.F.Files.content c.args.files.now in
    if_err c.from_residual-in_err-check_all.result c.in_err-check_all.field-0.0 (IsOfCheckout g.T.WorkTree.honest (g.T.WorkTree.can_hold c.args.work.now) work content c.args.index.now c.args.tree.now) (search rules)
    (of_check g.T.WorkTree.honest (g.T.WorkTree.can_hold c.args.work.now) work content c.args.index.now c.args.tree.now c.in_err-check_all.field-0.0 c.in_ok-check_held.ensures.held (c.in_ok-check_blobs.ensures.blobs stored) c.in_err-check_all.ensures.kind c.in_err-check_all.ensures.refused)

pub returns-clause-allowed : goal.returns-clause-allowed
returns-clause-allowed g c = λ honest stored. record {
  holds = c.in_ok-check_held.ensures.held;
  blobs = c.in_ok-check_blobs.ensures.blobs stored;
  clear = c.in_ok-check_all.ensures.clear honest;
}
