use Rattle.std.proofs.Common.{◌≡◌, ◌-◌, ◌^◌, [], ◌∷◌}
use Rattle.vc_files.specs.Failures.{Wears}
use Rattle.vc_object_map.proofs.WalkLemmas.{Walks}
use Rattle.vc_rev.specs.Meaning.{tag_links}
use Rattle.vc_rev.proofs.steps.peel.Given as goal

abbrev pub invariant-loop-next : goal.invariant-loop-next
invariant-loop-next g l = record {
  kept : g.R.Objects.state_of l.repo ≡ g.R.Objects.state_of l.initial.repo;
  seen : g.R.Repository.view_of l.repo ≡ g.R.Repository.view_of l.initial.repo;
  wear : Wears g.R.Objects.failed g.R.Objects.can_fail g.R.Objects.left l.initial.repo l.repo ⊥;
  walks : g.R.Objects.is_honest → Walks (tag_links (g.R.Repository.source (g.R.Repository.view_of l.initial.repo)).objects) (l.fn.id ∷ []) l.seen.keys l.next;
}

abbrev pub decreases-loop-next : goal.decreases-loop-next
decreases-loop-next g l = 2 ^ 63 - l.next
