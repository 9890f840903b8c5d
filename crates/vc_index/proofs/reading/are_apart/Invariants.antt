use Rattle.std.proofs.Common.{map}
use Rattle.vc_index.proofs.ApartLemmas.{ApartSoFar}
use Rattle.vc_index.proofs.reading.are_apart.Given as goal

abbrev pub invariant-loop-path : goal.invariant-loop-path
invariant-loop-path l = ApartSoFar l.map l.path-iterator l.last (map (λ f. f.now) l.fronts.items)
