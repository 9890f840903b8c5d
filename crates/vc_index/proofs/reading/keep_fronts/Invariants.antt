use Rattle.std.proofs.Common.{ℕ, List, length, map}
use Rattle.std.specs.Prelude.{IsTrue}
use Rattle.vc_index.specs.Reading.{IsFront, has_front}
use Rattle.vc_index.proofs.reading.keep_fronts.Given as goal

abbrev pub invariant-loop-front : goal.invariant-loop-front
invariant-loop-front l =
    ((front : List ℕ) → IsTrue (has_front (map (λ f. f.now) l.fronts.items) front) → IsTrue (has_front (map (λ f. f.now) l.fn.fronts.items) front))
    × ((front : List ℕ) → IsFront front l.path → IsTrue (has_front (map (λ f. f.now) l.fn.fronts.items) front) → IsTrue (has_front (map (λ f. f.now) l.fronts.items) front))

abbrev pub decreases-loop-front : goal.decreases-loop-front
decreases-loop-front l = length l.fronts.items
