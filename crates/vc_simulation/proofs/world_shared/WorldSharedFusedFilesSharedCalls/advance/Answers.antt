use Rattle.std.proofs.Common.{rules}
use Rattle.vc_files.specs.Fused.{FusedCanFail, fused_failed, fused_left}
use Rattle.vc_rules.specs.Stops.{IsBelow}
use Rattle.vc_model.specs.SharedCall.SharedCall.{StepOf}
use Rattle.vc_shared.specs.Calls.{SteppedAs}
use Rattle.vc_shared.specs.Faults.{TellsDevice}
use Rattle.vc_simulation.proofs.FuseLemmas.{lift_shared}
use Rattle.vc_simulation.proofs.SharedLemmas.{called, slot_or, step_writes, stepping}
use Rattle.vc_simulation.proofs.world_shared.WorldSharedFusedFilesSharedCalls.advance.Goals as goal

pub returns : goal.returns
returns g c = record {
  answers = λ honest. lift_shared (λ frail. IsBelow g.F.Files.can_fail g.F.Files.left frail) (λ s. s.node) _ _ _ _ _ (slot_or (λ s. g.F.Files.content s.files) (FusedCanFail g.F.Files.can_fail g.F.Files.left) (fused_left g.F.Files.left) _ c.args.slot _ _ _ (search rules)
      (called g.F.Files.honest (λ s. g.F.Files.content s.files) (fused_failed g.F.Files.failed) (FusedCanFail g.F.Files.can_fail g.F.Files.left) (fused_left g.F.Files.left) c.args.self.now.node c.step-called.new.self (StepOf _) (SteppedAs c.step-called.result) (TellsDevice c.step-called.result) _ honest (λ h. absurd (cc)) (c.step-called.ensures.answers honest)
      (stepping g.F.Files.honest (λ s. g.F.Files.content s.files) (fused_failed g.F.Files.failed) (FusedCanFail g.F.Files.can_fail g.F.Files.left) (fused_left g.F.Files.left) _ c.args.self.now.node c.step-called.new.self c.step-called.result c.step-called.ensures.wear c.step-called.ensures.settles.down c.step-called.ensures.settles.unchanged c.step-called.ensures.settles.up (c.step-called.ensures.packed honest)
      (step_writes g.F.Files.honest (λ s. g.F.Files.content s.files) (fused_failed g.F.Files.failed) (FusedCanFail g.F.Files.can_fail g.F.Files.left) (fused_left g.F.Files.left) c.args.self.now.node c.step-called.new.self _ (TellsDevice c.step-called.result) (c.step-called.ensures.looks honest))) c.stepped.ensures));
}
