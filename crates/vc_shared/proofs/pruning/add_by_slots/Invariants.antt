use Rattle.std.proofs.Common.{◌≡◌}
use Rattle.vc_files.specs.Failures.{Wears}
use Rattle.vc_shared.proofs.AddingLemmas.{AddsFirst}
use Rattle.vc_shared.proofs.pruning.add_by_slots.Given as goal

abbrev pub invariant-loop-i : goal.invariant-loop-i
invariant-loop-i g l = record {
  same : g.F.Files.content l.files ≡ g.F.Files.content l.initial.files;
  wear : Wears g.F.Files.failed g.F.Files.can_fail g.F.Files.left l.initial.files l.files ⊥;
  added : g.F.Files.honest → AddsFirst (g.F.Files.content l.initial.files) l.slots l.i l.initial.kept.keys l.kept.keys;
}
