use Rattle.std.proofs.Common.{◌≡◌, ◌++◌, map}
use Rattle.vc_checkout.proofs.paths.all_paths.Given as goal

-- the paths so far and those of the rest are those of the set
abbrev pub invariant-loop-path : goal.invariant-loop-path
invariant-loop-path l = (map (λ p. p.items) l.paths.items ++ map (λ k. k.items) l.path-iterator) ≡ map (λ k. k.items) l.others.keys
