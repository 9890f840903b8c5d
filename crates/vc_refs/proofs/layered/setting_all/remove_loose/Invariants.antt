use Rattle.std.proofs.Common.{take}
use Rattle.vc_files.specs.Failures.{Writes}
use Rattle.vc_refs.specs.Packing.{AreGone, LosesSome}
use Rattle.vc_refs.specs.SetAll.{names_in}
use Rattle.vc_refs.proofs.layered.setting_all.remove_loose.Given as goal

abbrev pub invariant-loop-entry : goal.invariant-loop-entry
invariant-loop-entry g l = record {
  lost : g.F.Files.honest → LosesSome (names_in (take l.entry-index l.loose)) (g.F.Files.content l.initial.files) (g.F.Files.content l.files);
  gone : g.F.Files.honest → AreGone (names_in (take l.entry-index l.loose)) (g.F.Files.content l.files);
  wear : Writes g.F.Files.honest g.F.Files.content g.F.Files.failed g.F.Files.can_fail g.F.Files.left l.initial.files l.files ⊥;
}
