use Rattle.std.proofs.Common.{take, map}
use Rattle.std.specs.Prelude.{string_bytes}
use Rattle.vc_files.specs.Failures.{Writes}
use Rattle.vc_push_rules.proofs.QuarantineLemmas.{Taken}
use Rattle.vc_quarantine.proofs.quarantine.drop_quarantine.Given as goal

abbrev pub invariant-loop-path : goal.invariant-loop-path
invariant-loop-path g l = record {
  taken : g.F.Files.honest → Taken (g.F.Files.content l.initial.files) (g.F.Files.content l.files) (map string_bytes (take l.path-index l.path-items));
  wear : Writes g.F.Files.honest g.F.Files.content g.F.Files.failed g.F.Files.can_fail g.F.Files.left l.initial.files l.files ⊥;
}
