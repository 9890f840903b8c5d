use Rattle.std.proofs.Common.{rules, ◌≡◌, ◌++◌, [], map, ap, sym, ◌∙◌, append-nil}
use Rattle.std.specs.FinMap as maps
use Rattle.vc_checkout.proofs.PathSetLemmas.{listed_all}
use Rattle.vc_checkout.proofs.paths.all_paths.Goals as goal

pub returns : goal.returns
returns c =
    let none : c.loop-path.path-iterator ≡ [] = search rules in
    let first : map (λ p. p.items) c.loop-path.paths.items ≡ map (λ k. k.items) c.args.others.now.keys = sym (append-nil _) ∙ ap (λ l. map (λ p. p.items) c.loop-path.paths.items ++ map (λ k. k.items) l) (sym none) ∙ c.loop-path.invariant in
    listed_all c.args.others.now c.args.index.now c.args.tree.now c.in_ok-all.all (map (λ p. p.items) c.push_paths-2.new.paths.items)
    (c.in_ok-push_paths-2.ensures ∙ ap (λ l. l ++ maps.keys c.args.tree.now) (c.in_ok-push_paths.ensures ∙ ap (λ l. l ++ maps.keys c.args.index.now) first)) c.in_ok-all.ensures
