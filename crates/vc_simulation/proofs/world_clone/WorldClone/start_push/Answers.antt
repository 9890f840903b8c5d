use Rattle.std.proofs.Common.{false, true, rules, refl}
use Rattle.vc_sending.specs.Sending.{machine_items}
use Rattle.vc_model.specs.Clone.Task.{StartPush}
use Rattle.vc_model.specs.CloneCall.CloneCall.{Command}
use Rattle.vc_node.specs.CloneCalls.{SentAs}
use Rattle.vc_node.specs.CloneFaults.{TellsDevice}
use Rattle.vc_simulation.proofs.CloneLemmas.{exchange_called, sending, zero_push}
use Rattle.vc_simulation.proofs.ItemLemmas.{no_zero_pushed}
use Rattle.vc_simulation.proofs.world_clone.WorldClone.start_push.Goals as goal

pub returns-then-has_zero : goal.returns-then-has_zero
returns-then-has_zero g c = record { answers = λ honest. zero_push g.F.Files.content g.F.Files.can_fail g.F.Files.left _ _ c.args.atomic c.args.items.now _ c.requires.up refl (c.has_zero.ensures.zero (search rules)) (search rules) }

pub returns-then-atomic : goal.returns-then-atomic
returns-then-atomic g c = record {
  answers = λ honest. rw c.if-atomic.true (exchange_called g.F.Files.honest g.F.Files.content g.F.Files.failed g.F.Files.can_fail g.F.Files.left _ _ (Command (StartPush true (machine_items c.args.items.now))) (SentAs c.start_push_atomic-called.result) (TellsDevice c.start_push_atomic-called.result) _ honest (λ h. absurd (cc))
      (c.start_push_atomic-called.ensures.answers honest (no_zero_pushed c.args.items.now (c.has_zero.ensures.none (search rules)))) (sending g.F.Files.honest g.F.Files.content g.F.Files.failed g.F.Files.can_fail g.F.Files.left _ _ _ c.start_push_atomic-called.result c.start_push_atomic-called.ensures.wear c.start_push_atomic-called.ensures.same c.start_push_atomic-called.ensures.settles) c.sent.ensures);
}

pub returns : goal.returns
returns g c = record {
  answers = λ honest. rw c.if-atomic.false (exchange_called g.F.Files.honest g.F.Files.content g.F.Files.failed g.F.Files.can_fail g.F.Files.left _ _ (Command (StartPush false (machine_items c.args.items.now))) (SentAs c.start_push-called.result) (TellsDevice c.start_push-called.result) _ honest (λ h. absurd (cc))
      (c.start_push-called.ensures.answers honest (no_zero_pushed c.args.items.now (c.has_zero.ensures.none (search rules)))) (sending g.F.Files.honest g.F.Files.content g.F.Files.failed g.F.Files.can_fail g.F.Files.left _ _ _ c.start_push-called.result c.start_push-called.ensures.wear c.start_push-called.ensures.same c.start_push-called.ensures.settles) c.sent-2.ensures);
}
