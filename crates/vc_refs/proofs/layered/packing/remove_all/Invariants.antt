use Rattle.std.proofs.Common.{take, map}
use Rattle.std.specs.Prelude.{string_bytes}
use Rattle.vc_files.specs.Failures.{Writes}
use Rattle.vc_refs.specs.Packing.{AreGone, LosesSome}
use Rattle.vc_refs.proofs.layered.packing.remove_all.Given as goal

abbrev pub invariant-loop-path : goal.invariant-loop-path
invariant-loop-path g l = record {
  lost : g.F.Files.honest → LosesSome (map string_bytes (take l.path-index l.paths)) (g.F.Files.content l.initial.files) (g.F.Files.content l.files);
  gone : g.F.Files.honest → AreGone (map string_bytes (take l.path-index l.paths)) (g.F.Files.content l.files);
  wear : Writes g.F.Files.honest g.F.Files.content g.F.Files.failed g.F.Files.can_fail g.F.Files.left l.initial.files l.files ⊥;
}
