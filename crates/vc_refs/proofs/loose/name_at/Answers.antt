use Rattle.std.proofs.Common.{◌≡◌, true, Some, None, cond, sym, ap, ◌∙◌, subst}
use Rattle.vc_refs.specs.RefMap.{IsInRefs, is_ref}
use Rattle.vc_refs.proofs.RefsLemmas.{is_ref-from_legal}
use Rattle.vc_refs.proofs.loose.name_at.Goals as goal

pub returns-in-Ok : goal.returns-in-Ok
returns-in-Ok c =
    let inside : IsInRefs c.in-Ok.name = sym c.in_refs.ensures ∙ c.if-in_refs.true in
    let legal : is_ref c.args.path.now ≡ true = is_ref-from_legal c.args.path.now c.in-Ok.ensures.legal (subst IsInRefs c.in-Ok.ensures.ok inside) in
    ap Some c.in-Ok.ensures.ok ∙ sym (ap (λ b. cond b (Some c.args.path.now) None) legal)
