use Rattle.std.proofs.Common.{◌≡◌, ◌∷◌, [], ◌≢◌, ◌-◌, ◌^◌, ◌<◌, ℕ, None, length, get_or}
use Rattle.vc_history.proofs.WalkLemmas.{Meets}
use Rattle.vc_history.specs.Numbering.{numbers}
use Rattle.vc_history.specs.Toward.{ruled_out}
use Rattle.vc_history.specs.Walk.{read_by}
use Rattle.vc_files.specs.Failures.{Wears}
use Rattle.vc_object.specs.declared.id.ObjectId.{ObjectId as Id}
use Rattle.vc_history.proofs.ancestry.is_ancestor.Given as goal

abbrev pub invariant-reading : goal.invariant-reading
invariant-reading g l = record {
  kept : g.C.Objects.state_of l.commits ≡ g.C.Objects.state_of l.initial.commits;
  wear : Wears g.C.Objects.failed g.C.Objects.can_fail g.C.Objects.left l.initial.commits l.commits ⊥;
  meets : g.C.Objects.is_honest → Meets (g.C.Objects.objects (g.C.Objects.state_of l.initial.commits)) (ruled_out (numbers l.generations) l.a) (l.b ∷ []) l.walk.met.keys (read_by l.walk) l.walk.other;
  unmet : g.C.Objects.is_honest → l.walk.other ≡ None → (k : ℕ) (d : Id) → k < length (read_by l.walk) → get_or l.walk.met.keys k d ≢ l.a;
}

abbrev pub decreases-reading : goal.decreases-reading
decreases-reading g l = 2 ^ 63 - length l.walk.parents.items
