use Rattle.std.proofs.Common.{subst, sym}
use Rattle.vc_message.specs.Machine.{Reads}
use Rattle.vc_world.specs.Alone.{ReportsReply, WasSpelled}
use Rattle.vc_world.specs.Devices.{IsLost}
use Rattle.vc_world.specs.Exchanging.{Brings}
use Rattle.vc_world.specs.declared.peer.Reply.{Reply}
use Rattle.vc_world.proofs.AloneCalls.{bytes_reported, message_reported}
use Rattle.vc_world.proofs.WearLemmas.{lost_told, none_lost}
use Rattle.vc_world.proofs.pushing.take_reply.Goals as goal

pub returns-in-Bytes : goal.returns-in-Bytes
returns-in-Bytes g c = record {
  takes = λ f m brings. c.take_bytes.ensures.takes f m (subst (λ b. Reads b m) (sym c.deref.ensures.value) (subst (λ (r : Reply _). Brings g.A.Source.remaining r m) c.in-Bytes.is brings));
  alone = λ f spelled. subst (λ (r : Reply _). ReportsReply g.F.Files.content g.A.Source.remaining r c.take_bytes.result c.args.clone.now c.take_bytes.new.clone) (sym c.in-Bytes.is)
      (bytes_reported g.F.Files.content c.args.clone.now c.take_bytes.new.clone g.A.Source.remaining c.in-Bytes.answer c.deref.result.now c.take_bytes.result c.deref.ensures.value (c.take_bytes.ensures.takes f) (c.take_bytes.ensures.unread f));
  kept = c.take_bytes.ensures.kept;
  wear = none_lost c.take_bytes.ensures.wear;
  own = c.take_bytes.ensures.own;
}

pub returns-in-Message : goal.returns-in-Message
returns-in-Message g c = record {
  takes = λ f m brings. c.take_message.ensures.takes f m (subst (λ (r : Reply _). Brings g.A.Source.remaining r m) c.in-Message.is brings);
  alone = λ f spelled. subst (λ (r : Reply _). ReportsReply g.F.Files.content g.A.Source.remaining r c.take_message.result c.args.clone.now c.take_message.new.clone) (sym c.in-Message.is)
      (message_reported g.F.Files.content c.args.clone.now c.take_message.new.clone g.A.Source.remaining c.in-Message.message c.take_message.result (subst (λ (r : Reply _). WasSpelled r) c.in-Message.is spelled) (c.take_message.ensures.takes f));
  kept = c.take_message.ensures.kept;
  wear = none_lost c.take_message.ensures.wear;
  own = c.take_message.ensures.own;
}

pub returns-in-Reader : goal.returns-in-Reader
returns-in-Reader g c = record {
  takes = λ f m brings. c.take_from.ensures.takes f m (subst (λ (r : Reply _). Brings g.A.Source.remaining r m) c.in-Reader.is brings);
  alone = λ f spelled. subst (λ (r : Reply _). ReportsReply g.F.Files.content g.A.Source.remaining r c.take_from.result c.args.clone.now c.take_from.new.clone) (sym c.in-Reader.is) (c.take_from.ensures.alone f);
  kept = c.take_from.ensures.kept;
  wear = lost_told c.take_from.ensures.wear (λ lost. subst (λ (r : Reply _). IsLost g.A.Source.remaining g.A.Source.failed g.A.Source.can_fail r) (sym c.in-Reader.is) (c.take_from.new.reader, lost)) (λ told. told) (λ told. told);
  own = c.take_from.ensures.own;
}
