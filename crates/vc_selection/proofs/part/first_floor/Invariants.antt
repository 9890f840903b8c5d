use Rattle.std.proofs.Common.{◌≡◌, ◌<◌, ℕ, Some, Contains, take}
use Rattle.vc_history.specs.Numbering.{numbers}
use Rattle.vc_object.specs.declared.id.ObjectId.{ObjectId as Id}
use Rattle.vc_selection.proofs.part.first_floor.Given as goal

abbrev pub invariant-loop-root : goal.invariant-loop-root
invariant-loop-root l = (r : Id) (n : ℕ) → Contains (take l.root-index l.roots) r → numbers l.generations r ≡ Some n → 0 < n → l.floor < n
