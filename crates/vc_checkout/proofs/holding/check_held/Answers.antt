use Rattle.std.proofs.Common.{rules, ◌≡◌, ◌⊎◌, [], ◌∷◌, map, ap, inl, inr}
use Rattle.std.specs.FinMap.{get}
use Rattle.vc_checkout.specs.CheckoutFault.{IsMemory}
use Rattle.vc_checkout.specs.Holding.{BlamesPath, BlamesPathAt, HoldsDueAt}
use Rattle.vc_checkout.specs.declared.faults.CheckoutFault.{CheckoutFault}
use Rattle.vc_checkout.proofs.ApplyLemmas.{no_entry}
use Rattle.vc_checkout.proofs.BlobLemmas.{paths_rise}
use Rattle.vc_checkout.proofs.ClearLemmas.{first_unheld, holds_all, holds_more, if_err, nothing_due, rest_of}
use Rattle.vc_checkout.proofs.holding.check_held.Goals as goal

pub loop-path-init : goal.loop-path-init
loop-path-init g c = record {
  old = search rules;
  new = search rules;
  sorted = paths_rise c.into_iter-path-iterator.result c.args.tree.now (search rules);
  held = record { at = λ q lacks due. absurd (nothing_due (get c.args.index.now q) (get c.args.tree.now q) (no_entry c.into_iter-path-iterator.result c.args.tree.now (search rules) q lacks) due) };
}

pub loop-path-preserved : goal.loop-path-preserved
loop-path-preserved g c =
    let path = c.deref.result.now in
    let first : map (λ e. e.0.items) c.loop-path.path-iterator ≡ path ∷ map (λ e. e.0.items) c.next.new.self = search rules in
    record {
      old = search rules;
      new = search rules;
      sorted = rest_of _ _ path first c.loop-path.invariant.sorted;
      held = holds_more (HoldsDueAt (g.T.WorkTree.can_hold c.args.work.now) c.args.index.now c.args.tree.now) _ _ path first (rw (← c.loop-path.invariant.old, ← c.loop-path.invariant.new) c.in_ok-check_due.ensures.held) c.loop-path.invariant.held;
    }

pub returns-in_err-check_due-clause-refused : goal.returns-in_err-check_due-clause-refused
returns-in_err-check_due-clause-refused g c =
    let index = c.args.index.now in
    let tree = c.args.tree.now in
    let can_hold = g.T.WorkTree.can_hold c.args.work.now in
    let path = c.deref.result.now in
    let e = c.in_err-check_due.field-0.0 in
    let first : map (λ e. e.0.items) c.loop-path.path-iterator ≡ path ∷ map (λ e. e.0.items) c.next.new.self = search rules in
    let told : IsMemory e ⊎ BlamesPathAt can_hold index tree path e = rw (← c.loop-path.invariant.old, ← c.loop-path.invariant.new) c.in_err-check_due.ensures.refused in
    let answer : IsMemory e ⊎ BlamesPath can_hold index tree e = elim told [
      | inl memory ↦ inl memory
      | inr at ↦ inr (first_unheld can_hold index tree _ _ path e first c.loop-path.invariant.sorted c.loop-path.invariant.held at)
    ] in
    if_err c.from_residual.result e (λ (e : CheckoutFault). IsMemory e ⊎ BlamesPath can_hold index tree e) (search rules) answer

pub returns-clause-held : goal.returns-clause-held
returns-clause-held g c =
    let none : c.loop-path.path-iterator ≡ [] = search rules in
    holds_all (HoldsDueAt (g.T.WorkTree.can_hold c.args.work.now) c.args.index.now c.args.tree.now) _ (ap (map (λ e. e.0.items)) none) c.loop-path.invariant.held
