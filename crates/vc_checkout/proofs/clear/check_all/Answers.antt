use Rattle.std.proofs.Common.{rules, ◌≡◌, ◌⊎◌, [], ◌∷◌, map, ap, subst, inl, inr}
use Rattle.std.specs.FinMap.{get}
use Rattle.vc_files.specs.FileMap.{FileMap}
use Rattle.vc_checkout.specs.CheckoutFault.{IsAgainst, IsFault}
use Rattle.vc_checkout.specs.declared.faults.CheckoutFault.{CheckoutFault}
use Rattle.vc_checkout.specs.Refusal.{IsClear, IsRefused, RefusedAt}
use Rattle.vc_checkout.proofs.PathSetLemmas.{has_path-none, set_sorted}
use Rattle.vc_checkout.proofs.ClearLemmas.{if_err, clear_elsewhere, elsewhere, nothing_due, holds_more, holds_all, rest_of, first_refused}
use Rattle.vc_checkout.proofs.clear.check_all.Goals as goal

pub loop-path-init : goal.loop-path-init
loop-path-init g c =
    let keys = c.into_iter-path-iterator.ensures.into_iter_gives.0 in
    let apart = elsewhere c.into_iter-path-iterator.result c.in_ok-paths.paths c.new.result c.args.index.now c.args.tree.now keys (has_path-none c.new.result c.new.ensures.empty) c.in_ok-paths.ensures in
    record {
      can = tt;
      finite = tt;
      old = search rules;
      new = search rules;
      sorted = set_sorted c.into_iter-path-iterator.result (rw keys c.into_iter-path-iterator.ensures.into_iter_gives.4);
      clear = λ honest. record { at = λ q lacks. let none = apart q lacks in clear_elsewhere c.args.index.now c.args.tree.now (g.T.WorkTree.content c.args.work.now) q none.0 none.1 };
      text = record { at = λ q lacks due. absurd (nothing_due (get c.args.index.now q) (get c.args.tree.now q) (apart q lacks).1 due) };
      same = search rules;
      folders = search rules;
      wear = search rules;
    }

pub loop-path-preserved : goal.loop-path-preserved
loop-path-preserved g c =
    let path = c.deref.result.now in
    let first : map (λ k. k.items) c.loop-path.path-iterator ≡ path ∷ map (λ k. k.items) c.next.new.self = search rules in
    record {
      can = tt;
      finite = tt;
      old = search rules;
      new = search rules;
      sorted = rest_of _ _ path first c.loop-path.invariant.sorted;
      clear = λ honest. holds_more _ _ _ path first (subst (λ (w : FileMap). IsClear c.args.index.now c.args.tree.now w path) c.loop-path.invariant.same (rw (← c.loop-path.invariant.old, ← c.loop-path.invariant.new) (c.in_ok-check_path.ensures.clear honest))) (c.loop-path.invariant.clear honest);
      text = holds_more _ _ _ path first (rw (← c.loop-path.invariant.old, ← c.loop-path.invariant.new) c.in_ok-check_path.ensures.text) c.loop-path.invariant.text;
      same = search rules;
      folders = search rules;
      wear = search rules;
    }

pub returns-in_err-check_path-clause-refused : goal.returns-in_err-check_path-clause-refused
returns-in_err-check_path-clause-refused g c = λ honest.
    let path = c.deref.result.now in
    let first : map (λ k. k.items) c.loop-path.path-iterator ≡ path ∷ map (λ k. k.items) c.next.new.self = search rules in
    let told = subst (λ (w : FileMap). IsFault c.in_err-check_path.field-0.0 ⊎ RefusedAt c.args.index.now c.args.tree.now w path c.in_err-check_path.field-0.0) c.loop-path.invariant.same (rw (← c.loop-path.invariant.old, ← c.loop-path.invariant.new) (c.in_err-check_path.ensures.refused honest)) in
    let answer : IsFault c.in_err-check_path.field-0.0 ⊎ IsRefused c.args.index.now c.args.tree.now (g.T.WorkTree.content c.args.work.now) c.in_err-check_path.field-0.0 = elim told [
      | inl fault ↦ inl fault
      | inr at ↦ inr (first_refused c.args.index.now c.args.tree.now (g.T.WorkTree.content c.args.work.now) _ _ path _ first c.loop-path.invariant.sorted (c.loop-path.invariant.clear honest) at)
    ] in
    if_err c.from_residual-in_err-check_path.result c.in_err-check_path.field-0.0 (λ (e : CheckoutFault). IsFault e ⊎ IsRefused c.args.index.now c.args.tree.now (g.T.WorkTree.content c.args.work.now) e) (search rules) answer

pub returns-clause-clear : goal.returns-clause-clear
returns-clause-clear g c = λ honest.
    let none : c.loop-path.path-iterator ≡ [] = search rules in
    holds_all _ _ (ap (map (λ k. k.items)) none) (c.loop-path.invariant.clear honest)

pub returns-clause-text : goal.returns-clause-text
returns-clause-text g c =
    let none : c.loop-path.path-iterator ≡ [] = search rules in
    holds_all _ _ (ap (map (λ k. k.items)) none) c.loop-path.invariant.text

pub returns-in_err-check_path-clause-kind : goal.returns-in_err-check_path-clause-kind
returns-in_err-check_path-clause-kind g c = if_err c.from_residual-in_err-check_path.result c.in_err-check_path.field-0.0 (λ (e : CheckoutFault). IsFault e ⊎ IsAgainst e) (search rules) c.in_err-check_path.ensures.kind
