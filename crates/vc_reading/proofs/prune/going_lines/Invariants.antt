use Rattle.std.proofs.Common.{◌≡◌, take}
use Rattle.std.specs.List.{flat_map}
use Rattle.vc_files.specs.Failures.{Wears}
use Rattle.vc_reading.specs.Pruned.{going_line}
use Rattle.vc_reading.proofs.prune.going_lines.Given as goal

abbrev pub invariant-loop-name : goal.invariant-loop-name
invariant-loop-name g l = record {
  lines : g.F.Files.honest → l.lines.items ≡ flat_map (going_line (g.F.Files.content l.initial.files) l.kept) (take l.name-index l.name-items);
  same : g.F.Files.content l.files ≡ g.F.Files.content l.initial.files;
  wear : Wears g.F.Files.failed g.F.Files.can_fail g.F.Files.left l.initial.files l.files ⊥;
}
