use Rattle.std.proofs.Common.{rules, refl, inl, inr}
use Rattle.vc_events.specs.declared.answers.Deed.TheVariants as deed
use Rattle.vc_files.specs.Fused.{FusedCanFail, fused_left}
use Rattle.vc_rules.specs.Stops.{IsBelow}
use Rattle.vc_model.specs.Question.Question.{Compare}
use Rattle.vc_simulation.proofs.FuseLemmas.{lift_shared}
use Rattle.vc_simulation.proofs.SharedLemmas.{compare_first, compare_second, compared, down_called, finds_none}
use Rattle.vc_simulation.proofs.world_shared.WorldSharedFusedFilesSharedCalls.compare.Goals as goal

pub returns-then-not-is_up : goal.returns-then-not-is_up
returns-then-not-is_up g c = record { answers = λ honest. lift_shared (λ frail. IsBelow g.F.Files.can_fail g.F.Files.left frail) (λ s. s.node) _ _ _ _ _ (down_called (λ s. g.F.Files.content s.files) (FusedCanFail g.F.Files.can_fail g.F.Files.left) (fused_left g.F.Files.left) _ _ (Compare c.args.first.now c.args.second.now) (search rules) refl) }

pub returns-in-Err : goal.returns-in-Err
returns-in-Err g c = record {
  answers = λ honest. lift_shared (λ frail. IsBelow g.F.Files.can_fail g.F.Files.left frail) (λ s. s.node) _ _ _ _ _ (compare_first (λ s. g.F.Files.content s.files) (FusedCanFail g.F.Files.can_fail g.F.Files.left) (fused_left g.F.Files.left) c.args.self.now.node c.args.self.now.node c.value.new.self.node c.args.first.now c.args.second.now c.in-Err.end
      (finds_none (λ s. g.F.Files.content s.files) (FusedCanFail g.F.Files.can_fail g.F.Files.left) (fused_left g.F.Files.left) _ _ (search rules) refl) (search rules));
}

pub returns-in-Err-value : goal.returns-in-Err-value
returns-in-Err-value g c = record {
  answers = λ honest. lift_shared (λ frail. IsBelow g.F.Files.can_fail g.F.Files.left frail) (λ s. s.node) _ _ _ _ _ (compare_second (λ s. g.F.Files.content s.files) (FusedCanFail g.F.Files.can_fail g.F.Files.left) (fused_left g.F.Files.left) c.args.self.now.node c.value.new.self.node c.value-2.new.self.node c.args.first.now c.args.second.now c.in-Ok.one c.in-Err-value.end
      (search rules) (search rules));
}

pub returns-then-eq : goal.returns-then-eq
returns-then-eq g c = record {
  answers = λ honest. lift_shared (λ frail. IsBelow g.F.Files.can_fail g.F.Files.left frail) (λ s. s.node) _ _ _ _ _ (compared (λ s. g.F.Files.content s.files) (FusedCanFail g.F.Files.can_fail g.F.Files.left) (fused_left g.F.Files.left) c.args.self.now.node c.value.new.self.node c.value-2.new.self.node c.args.first.now c.args.second.now c.in-Ok.one c.in-Ok-value.two deed.Same
      (search rules) (search rules) (inl (search rules, refl)));
}

pub returns-else-eq : goal.returns-else-eq
returns-else-eq g c = record {
  answers = λ honest. lift_shared (λ frail. IsBelow g.F.Files.can_fail g.F.Files.left frail) (λ s. s.node) _ _ _ _ _ (compared (λ s. g.F.Files.content s.files) (FusedCanFail g.F.Files.can_fail g.F.Files.left) (fused_left g.F.Files.left) c.args.self.now.node c.value.new.self.node c.value-2.new.self.node c.args.first.now c.args.second.now c.in-Ok.one c.in-Ok-value.two deed.Differs
      (search rules) (search rules) (inr (search rules, refl)));
}
