use Rattle.std.proofs.Common.{rules, ◌≡◌, [], ◌∷◌, map, ap, sym, subst, ◌∙◌}
use Rattle.std.specs.Prelude.{IsSome}
use Rattle.std.specs.FinMap as maps
use Rattle.vc_checkout.proofs.ApplyLemmas.{no_entry}
use Rattle.vc_checkout.proofs.PathSetLemmas.{entry_paths}
use Rattle.vc_work_tree.specs.Paths.{is_listed}
use Rattle.vc_working.proofs.CheckoutLemmas.{listed_first, listed_more, unmet_more, unmet_none}
use Rattle.vc_working.proofs.checkout.has_own.Goals as goal

pub loop-path-init : goal.loop-path-init
loop-path-init c = record {
  apart = λ q lacks some. unmet_none _ (subst IsSome (no_entry c.into_iter-path-iterator.result c.args.index.now (search rules) q lacks) some);
  held = λ q listed. sym (entry_paths c.into_iter-path-iterator.result c.args.index.now (search rules) q) ∙ listed;
}

pub loop-path-preserved : goal.loop-path-preserved
loop-path-preserved c =
    let path = c.deref.result.now in
    let first : map (λ e. e.0.items) c.loop-path.path-iterator ≡ path ∷ map (λ e. e.0.items) c.next.new.self = search rules in
    record {
      apart = unmet_more c.args.own.now path _ _ (λ q. IsSome (maps.get c.args.index.now q)) first (search rules) c.loop-path.invariant.apart;
      held = λ q listed. c.loop-path.invariant.held q (listed_more path _ _ first q listed);
    }

pub returns-clause-apart : goal.returns-clause-apart
returns-clause-apart c = λ _ q some.
    let none : c.loop-path.path-iterator ≡ [] = search rules in
    c.loop-path.invariant.apart q (ap (λ es. is_listed q (map (λ e. e.0.items) es)) none) some

pub returns-then-meets_own-clause-found : goal.returns-then-meets_own-clause-found
returns-then-meets_own-clause-found c = λ _.
    let path = c.deref.result.now in
    let first : map (λ e. e.0.items) c.loop-path.path-iterator ≡ path ∷ map (λ e. e.0.items) c.next.new.self = search rules in
    (path, c.loop-path.invariant.held path (listed_first path _ _ first), search rules)
