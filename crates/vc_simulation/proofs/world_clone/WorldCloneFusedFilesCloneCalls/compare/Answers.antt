use Rattle.std.proofs.Common.{Err, rules, refl, inl, inr}
use Rattle.vc_events.specs.declared.answers.Deed.TheVariants as deed
use Rattle.vc_events.specs.Answers.{Shows}
use Rattle.vc_model.specs.Question.Question.{Compare}
use Rattle.vc_files.specs.Fused.{FusedCanFail, fused_left}
use Rattle.vc_rules.specs.Stops.{IsBelow}
use Rattle.vc_simulation.proofs.FuseLemmas.{lift_clone}
use Rattle.vc_simulation.proofs.CloneLemmas.{compared, down_called, failed_question, failure, fails_later, finding, no_comparison, no_second}
use Rattle.vc_simulation.specs.Nodes.{seen_clone}
use Rattle.vc_simulation.specs.Values.{IsNoValue, IsValue}
use Rattle.vc_simulation.proofs.world_clone.WorldCloneFusedFilesCloneCalls.compare.Goals as goal

pub returns-then-not-is_up : goal.returns-then-not-is_up
returns-then-not-is_up g c = record { answers = λ honest. lift_clone (λ frail. IsBelow g.F.Files.can_fail g.F.Files.left frail) (λ s. s.node) _ _ _ _ _ (down_called (λ s. g.F.Files.content s.files) (FusedCanFail g.F.Files.can_fail g.F.Files.left) (fused_left g.F.Files.left) _ _ (Compare c.args.first.now c.args.second.now) (search rules) refl) }

pub returns-in-Err : goal.returns-in-Err
returns-in-Err g c = record {
  answers = λ honest. lift_clone (λ frail. IsBelow g.F.Files.can_fail g.F.Files.left frail) (λ s. s.node) _ _ _ _ _ (failed_question (seen_clone (λ s. g.F.Files.content s.files) (FusedCanFail g.F.Files.can_fail g.F.Files.left) (fused_left g.F.Files.left)) (IsNoValue c.args.first.now) (Compare c.args.first.now c.args.second.now) (Shows (Err c.in-Err.end)) c.args.self.now.node c.value.new.self.node
      (failure (λ s. g.F.Files.content s.files) (FusedCanFail g.F.Files.can_fail g.F.Files.left) (fused_left g.F.Files.left) (IsNoValue c.args.first.now) (IsNoValue c.args.first.now) c.value.result c.in-Err.end _ _ c.in-Err.is (λ r k p. p) (c.value.ensures.err honest)) (no_comparison c.args.first.now c.args.second.now));
}

pub returns-in-Err-value : goal.returns-in-Err-value
returns-in-Err-value g c = record {
  answers = λ honest. lift_clone (λ frail. IsBelow g.F.Files.can_fail g.F.Files.left frail) (λ s. s.node) _ _ _ _ _ (failed_question (seen_clone (λ s. g.F.Files.content s.files) (FusedCanFail g.F.Files.can_fail g.F.Files.left) (fused_left g.F.Files.left)) (λ r k. IsValue c.args.first.now c.in-Ok.one r × IsNoValue c.args.second.now r k) (Compare c.args.first.now c.args.second.now) (Shows (Err c.in-Err-value.end)) c.args.self.now.node c.value-2.new.self.node
      (fails_later (seen_clone (λ s. g.F.Files.content s.files) (FusedCanFail g.F.Files.can_fail g.F.Files.left) (fused_left g.F.Files.left)) (IsValue c.args.first.now c.in-Ok.one) (IsNoValue c.args.second.now) (λ r k. IsValue c.args.first.now c.in-Ok.one r × IsNoValue c.args.second.now r k) (Shows (Err c.in-Err-value.end)) c.args.self.now.node c.value.new.self.node c.value-2.new.self.node
      (finding (λ s. g.F.Files.content s.files) (FusedCanFail g.F.Files.can_fail g.F.Files.left) (fused_left g.F.Files.left) (IsValue c.args.first.now) c.value.result c.in-Ok.one _ _ c.in-Ok.is (c.value.ensures.found honest))
      (failure (λ s. g.F.Files.content s.files) (FusedCanFail g.F.Files.can_fail g.F.Files.left) (fused_left g.F.Files.left) (IsNoValue c.args.second.now) (IsNoValue c.args.second.now) c.value-2.result c.in-Err-value.end _ _ c.in-Err-value.is (λ r k p. p) (c.value-2.ensures.err honest)) (λ r k p q. (p, q))) (no_second c.args.first.now c.args.second.now c.in-Ok.one));
}

pub returns-then-eq : goal.returns-then-eq
returns-then-eq g c = record {
  answers = λ honest. lift_clone (λ frail. IsBelow g.F.Files.can_fail g.F.Files.left frail) (λ s. s.node) _ _ _ _ _ (compared (seen_clone (λ s. g.F.Files.content s.files) (FusedCanFail g.F.Files.can_fail g.F.Files.left) (fused_left g.F.Files.left)) c.args.self.now.node c.value.new.self.node c.value-2.new.self.node c.args.first.now c.args.second.now c.in-Ok.one c.in-Ok-value.two deed.Same
      (finding (λ s. g.F.Files.content s.files) (FusedCanFail g.F.Files.can_fail g.F.Files.left) (fused_left g.F.Files.left) (IsValue c.args.first.now) c.value.result c.in-Ok.one _ _ c.in-Ok.is (c.value.ensures.found honest)) (finding (λ s. g.F.Files.content s.files) (FusedCanFail g.F.Files.can_fail g.F.Files.left) (fused_left g.F.Files.left) (IsValue c.args.second.now) c.value-2.result c.in-Ok-value.two _ _ c.in-Ok-value.is (c.value-2.ensures.found honest)) (inl (search rules, refl)));
}

pub returns-else-eq : goal.returns-else-eq
returns-else-eq g c = record {
  answers = λ honest. lift_clone (λ frail. IsBelow g.F.Files.can_fail g.F.Files.left frail) (λ s. s.node) _ _ _ _ _ (compared (seen_clone (λ s. g.F.Files.content s.files) (FusedCanFail g.F.Files.can_fail g.F.Files.left) (fused_left g.F.Files.left)) c.args.self.now.node c.value.new.self.node c.value-2.new.self.node c.args.first.now c.args.second.now c.in-Ok.one c.in-Ok-value.two deed.Differs
      (finding (λ s. g.F.Files.content s.files) (FusedCanFail g.F.Files.can_fail g.F.Files.left) (fused_left g.F.Files.left) (IsValue c.args.first.now) c.value.result c.in-Ok.one _ _ c.in-Ok.is (c.value.ensures.found honest)) (finding (λ s. g.F.Files.content s.files) (FusedCanFail g.F.Files.can_fail g.F.Files.left) (fused_left g.F.Files.left) (IsValue c.args.second.now) c.value-2.result c.in-Ok-value.two _ _ c.in-Ok-value.is (c.value-2.ensures.found honest)) (inr (search rules, refl)));
}
