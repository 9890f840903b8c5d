use Rattle.std.proofs.Common.{subst, sym}
use Rattle.vc_message.specs.Machine.{Reads}
use Rattle.vc_world.specs.Alone.{TakesReply, WasSpelled}
use Rattle.vc_world.specs.Devices.{IsLost}
use Rattle.vc_world.specs.Exchanging.{Brings}
use Rattle.vc_world.specs.declared.peer.Reply.{Reply}
use Rattle.vc_node.proofs.OwnLemmas.{own_beside}
use Rattle.vc_world.proofs.AloneCalls.{bytes_taken, message_taken}
use Rattle.vc_world.proofs.WearLemmas.{lost_told, none_lost}
use Rattle.vc_world.proofs.fetching.receive.Goals as goal

pub returns-in-Bytes : goal.returns-in-Bytes
returns-in-Bytes g c = record {
  answers = λ f m brings. c.receive.ensures.answers f m (subst (λ b. Reads b m) (sym c.deref.ensures.value) (subst (λ (r : Reply _). Brings g.A.Source.remaining r m) c.in-Bytes.is brings));
  alone = λ f spelled. subst (λ (r : Reply _). TakesReply g.F.Files.content g.A.Source.remaining r c.receive.result c.args.clone.now c.receive.new.self) (sym c.in-Bytes.is) (bytes_taken g.F.Files.content c.args.clone.now c.receive.new.self g.A.Source.remaining c.in-Bytes.bytes c.deref.result.now c.receive.result c.deref.ensures.value (c.receive.ensures.answers f) (c.receive.ensures.unread f));
  kept = λ f. own_beside (c.receive.ensures.objects f) (c.receive.ensures.beside f) (c.receive.ensures.clean f);
  wear = none_lost c.receive.ensures.wear;
}

pub returns-in-Message : goal.returns-in-Message
returns-in-Message g c = record {
  answers = λ f m brings. c.receive_message.ensures.answers f m (subst (λ (r : Reply _). Brings g.A.Source.remaining r m) c.in-Message.is brings);
  alone = λ f spelled. subst (λ (r : Reply _). TakesReply g.F.Files.content g.A.Source.remaining r c.receive_message.result c.args.clone.now c.receive_message.new.self) (sym c.in-Message.is) (message_taken g.F.Files.content c.args.clone.now c.receive_message.new.self g.A.Source.remaining c.in-Message.message c.receive_message.result (subst (λ (r : Reply _). WasSpelled r) c.in-Message.is spelled) (c.receive_message.ensures.answers f));
  kept = λ f. own_beside (c.receive_message.ensures.objects f) (c.receive_message.ensures.beside f) (c.receive_message.ensures.clean f);
  wear = none_lost c.receive_message.ensures.wear;
}

pub returns-in-Reader : goal.returns-in-Reader
returns-in-Reader g c = record {
  answers = λ f m brings. c.receive_from.ensures.answers f m (subst (λ (r : Reply _). Brings g.A.Source.remaining r m) c.in-Reader.is brings);
  alone = λ f spelled. subst (λ (r : Reply _). TakesReply g.F.Files.content g.A.Source.remaining r c.receive_from.result c.args.clone.now c.receive_from.new.clone) (sym c.in-Reader.is) (c.receive_from.ensures.alone f);
  kept = λ f. c.receive_from.ensures.kept f;
  wear = lost_told c.receive_from.ensures.wear (λ lost. subst (λ (r : Reply _). IsLost g.A.Source.remaining g.A.Source.failed g.A.Source.can_fail r) (sym c.in-Reader.is) (c.receive_from.new.reader, lost)) (λ told. told) (λ told. told);
}
