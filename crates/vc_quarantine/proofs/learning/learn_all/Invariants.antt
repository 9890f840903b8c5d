use Rattle.std.proofs.Common.{◌≡◌, take}
use Rattle.vc_history.specs.Stored.{AgreesIn}
use Rattle.vc_files.specs.Failures.{Wears}
use Rattle.vc_quarantine.specs.Learning.{IsLearnt}
use Rattle.vc_quarantine.proofs.learning.learn_all.Given as goal

abbrev pub invariant-loop-i : goal.invariant-loop-i
invariant-loop-i g l = record {
  same : g.F.Files.content l.files ≡ g.F.Files.content l.initial.files;
  agrees : g.F.Files.honest → AgreesIn (g.F.Files.content l.initial.files) l.initial.generations → AgreesIn (g.F.Files.content l.initial.files) l.generations;
  learnt : g.F.Files.honest → AgreesIn (g.F.Files.content l.initial.files) l.initial.generations → IsLearnt (g.F.Files.content l.initial.files) (take l.i l.tips) l.initial.generations l.generations;
  wear : Wears g.F.Files.failed g.F.Files.can_fail g.F.Files.left l.initial.files l.files ⊥;
}
