use Rattle.std.proofs.Common.{◌≡◌, ◌∷◌, [], ◌<◌, ℕ, Some, Contains}
use Rattle.vc_history.specs.Numbering.{numbers}
use Rattle.vc_files.specs.Failures.{Wears}
use Rattle.vc_object.specs.declared.id.ObjectId.{ObjectId as Id}
use Rattle.vc_selection.proofs.bases.merge_bases.Given as goal

abbrev pub invariant-lowering : goal.invariant-lowering
invariant-lowering g l = record {
  kept : g.C.Objects.state_of l.commits ≡ g.C.Objects.state_of l.initial.commits;
  wear : Wears g.C.Objects.failed g.C.Objects.can_fail g.C.Objects.left l.initial.commits l.commits ⊥;
  below : (r : Id) (n : ℕ) → Contains (l.a ∷ l.b ∷ []) r → numbers l.generations r ≡ Some n → 0 < n → l.floor < n;
}

abbrev pub decreases-lowering : goal.decreases-lowering
decreases-lowering g l = l.floor
