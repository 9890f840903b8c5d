use Rattle.std.proofs.Common.{ap, inl, inr, refl, subst, sym}
use Rattle.std.specs.Prelude.{is_some}
use Rattle.vc_local.specs.declared.fault.NodeFault.{NodeFault}
use Rattle.vc_working.specs.Checkout.{IsOfTreeList}
use Rattle.vc_cli.specs.declared.failure.Failure.TheVariants.{Node}
use Rattle.vc_working.proofs.CheckoutLemmas.{own_of_tree, list_blames}
use Rattle.vc_working.proofs.checkout.list_apart.Goals as goal

pub returns-clause-apart : goal.returns-clause-apart
returns-clause-apart g c = λ honest. record {
  each = λ path mode id is. c.has_own.ensures.apart c.if-has_own.false path (ap is_some ((c.in-Ok.ensures.files honest path mode id).0 is));
}

pub returns-in-Err-clause-refused : goal.returns-in-Err-clause-refused
returns-in-Err-clause-refused g c = λ honest.
    let content = g.F.Files.content c.args.files.now in
    let told = list_blames g.F.Files.honest honest content c.args.root.now c.in-Err.fault c.in-Err.ensures.refused (c.in-Err.ensures.first honest) in
    inl (subst (λ (n : NodeFault). IsOfTreeList content c.args.root.now (Node n)) (sym c.from.ensures) told)

pub returns-then-has_own-clause-refused : goal.returns-then-has_own-clause-refused
returns-then-has_own-clause-refused g c = λ honest.
    let found = c.has_own.ensures.found c.if-has_own.true in
    inr (refl, own_of_tree _ _ _ c.in-Ok.tree (c.in-Ok.ensures.reading honest) found.0 found.1 found.2)
