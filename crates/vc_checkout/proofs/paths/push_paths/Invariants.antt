use Rattle.std.proofs.Common.{◌≡◌, ◌++◌, map}
use Rattle.std.specs.FinMap as maps
use Rattle.vc_checkout.proofs.paths.push_paths.Given as goal

-- the paths so far and those of the rest are those that are wanted
abbrev pub invariant-loop-path : goal.invariant-loop-path
invariant-loop-path l = (map (λ p. p.items) l.paths.items ++ map (λ e. e.0.items) l.path-iterator) ≡ (map (λ p. p.items) l.fn.paths.items ++ maps.keys l.index)
