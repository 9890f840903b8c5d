use Rattle.std.proofs.Common.{map, rules, refl}
use Rattle.vc_events.specs.Events.{item_of}
use Rattle.vc_sending.specs.Sending.{machine_items}
use Rattle.vc_model.specs.Clone.Task.{StartPush}
use Rattle.vc_model.specs.Order.Order.{PushItems}
use Rattle.vc_simulation.proofs.CloneLemmas.{finding, ordered, unread_order}
use Rattle.vc_simulation.specs.Nodes.{seen_clone}
use Rattle.vc_simulation.specs.Values.{AreNotPushed, ArePushed}
use Rattle.vc_simulation.proofs.world_clone.WorldClone.push.Goals as goal

pub returns-in-Err : goal.returns-in-Err
returns-in-Err g c = record { answers = λ honest. unread_order g.F.Files.content g.F.Files.can_fail g.F.Files.left (AreNotPushed c.args.named.now) (PushItems c.args.atomic (map item_of c.args.named.now)) c.items.result c.in-Err.end _ _ c.in-Err.is (c.items.ensures.err honest) (λ s k p. (_, p, refl)) }

pub returns-in-Ok : goal.returns-in-Ok
returns-in-Ok g c = record {
  answers = λ honest. ordered (seen_clone g.F.Files.content g.F.Files.can_fail g.F.Files.left) (ArePushed c.args.named.now c.in-Ok.items.items) (StartPush c.args.atomic (machine_items c.deref.result.now)) (PushItems c.args.atomic (map item_of c.args.named.now)) _ c.args.self.now.node c.items.new.self.node _
      (finding g.F.Files.content g.F.Files.can_fail g.F.Files.left (λ items. ArePushed c.args.named.now items.items) c.items.result c.in-Ok.items _ _ c.in-Ok.is (c.items.ensures.found honest))
      (c.start_push.ensures.answers honest) (λ s p. (_, p, search rules));
}
