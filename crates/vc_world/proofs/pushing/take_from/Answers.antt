use Rattle.std.proofs.Common.{◌≡◌, rules, inl, inr, true, false, Ok, Err, refl, ap, subst}
use Rattle.vc_files.proofs.WearLemmas.{writes_none}
use Rattle.vc_files.specs.declared.faults.Fault.TheVariants.{Device, Memory}
use Rattle.vc_message.specs.AnyMessage.{any_step, beginning}
use Rattle.vc_message.specs.AnyView.{message_text}
use Rattle.vc_message.specs.Incoming.{Fails, GivesMessage, IsLoss, TakesMessage}
use Rattle.std.specs.Prelude.{IfSome}
use Rattle.vc_message.specs.declared.message.Message.{Message}
use Rattle.vc_message.specs.declared.incoming_fault.IncomingFault.{IncomingFault}
use Rattle.vc_model.specs.CloneCall.CloneCall.{Receive}
use Rattle.vc_node.proofs.CloneCallLemmas.{down_clone}
use Rattle.vc_node.specs.declared.clone_fault.CloneFault.TheVariants.{Node}
use Rattle.vc_local.specs.declared.fault.NodeFault.TheVariants.{Down}
use Rattle.vc_node.proofs.OwnLemmas.{own_same}
use Rattle.vc_world.proofs.AloneCalls.{anyway_reported, first_reported, of_fault, unread_reported}
use Rattle.vc_world.proofs.WearLemmas.{begins_calm, lost_then, none_lost, none_written}
use Rattle.vc_world.proofs.pushing.take_from.Goals as goal

pub returns-then-not-is_up : goal.returns-then-not-is_up
returns-then-not-is_up g c = record {
  takes = λ f m begins. record {
    received = Err (Node Down);
    receives = down_clone (Receive m) (λ never. cc never) _ _ _ _ _ _ refl refl refl (search rules);
    tells = λ told a sends shown. shown.answer;
  };
  alone = λ f.
      let off : c.args.clone.now.is_up ≡ false = search rules in
      anyway_reported g.F.Files.content c.args.clone.now c.args.clone.now _ (g.A.Source.remaining c.args.reader.now) (Node Down) (inr refl) (λ call other. down_clone call other _ _ _ _ _ _ refl refl refl off);
  kept = λ f. own_same _ _ refl;
  wear = none_lost (writes_none (λ never. never));
  own = tt;
}

pub returns-in-Ok-Some : goal.returns-in-Ok-Some
returns-in-Ok-Some g c = record {
  takes = λ f m begins.
      let gives = subst (λ found. GivesMessage m begins.1 (g.A.Source.remaining c.read_message.new.reader) (Ok found)) c.in-Ok-Some.field-0-is (c.in-Ok-Some.ensures.known m begins.0 begins.1 begins.2 begins.3) in
      c.take_message.ensures.takes f m gives.0;
  alone = λ f. first_reported g.F.Files.content c.args.clone.now c.take_message.new.clone (g.A.Source.remaining c.args.reader.now) (g.A.Source.remaining c.read_message.new.reader) c.in-Ok-Some.message c.take_message.result
      (subst (λ found. IfSome found (λ (x : Message). TakesMessage (g.A.Source.remaining c.args.reader.now) (g.A.Source.remaining c.read_message.new.reader) (message_text x))) c.in-Ok-Some.field-0-is c.in-Ok-Some.ensures.message)
      (c.take_message.ensures.takes f);
  kept = λ f. c.take_message.ensures.kept f;
  wear = none_lost c.take_message.ensures.wear;
  own = c.take_message.ensures.own;
}

pub returns-in-Err-Unread : goal.returns-in-Err-Unread
returns-in-Err-Unread g c = record {
  takes = λ f m begins. absurd (subst (λ (e : IncomingFault). IsLoss e) c.in-Err-Unread.field-0-is (c.in-Err-Unread.ensures.known m begins.0 begins.1 begins.2 begins.3));
  alone = λ f.
      let up : c.args.clone.now.is_up ≡ true = search rules in
      unread_reported _ g.F.Files.content c.args.clone.now (g.A.Source.remaining c.args.reader.now) (g.A.Source.remaining c.read_message.new.reader) c.in-Err-Unread.fault up
      (subst (λ (e : IncomingFault). Fails any_step beginning (g.A.Source.remaining c.args.reader.now) (g.A.Source.remaining c.read_message.new.reader) e) c.in-Err-Unread.field-0-is c.in-Err-Unread.ensures.fault);
  kept = λ f. own_same _ _ refl;
  wear = none_lost (writes_none (λ never. never));
  own = tt;
}

pub returns-in-Err-Memory : goal.returns-in-Err-Memory
returns-in-Err-Memory g c = record {
  takes = λ f m begins.
      let up : c.args.clone.now.is_up ≡ true = search rules in
      record {
        received = Err c.lose-in-Err-Memory.result;
        receives = c.lose-in-Err-Memory.ensures.answers f up (Receive m) (λ never. cc never);
        tells = λ told a sends shown. shown.answer;
      };
  alone = λ f.
      let up : c.args.clone.now.is_up ≡ true = search rules in
      anyway_reported g.F.Files.content c.args.clone.now c.lose-in-Err-Memory.new.clone _ (g.A.Source.remaining c.args.reader.now) c.lose-in-Err-Memory.result (of_fault c.lose-in-Err-Memory.result Memory c.lose-in-Err-Memory.ensures.fault) (c.lose-in-Err-Memory.ensures.answers f up);
  kept = λ f. own_same _ _ (ap g.F.Files.content c.lose-in-Err-Memory.ensures.same);
  wear = none_written c.lose-in-Err-Memory.ensures.same (begins_calm c.lose-in-Err-Memory.result (inr c.lose-in-Err-Memory.ensures.fault));
  own = tt;
}

pub returns-in-Err-Failed : goal.returns-in-Err-Failed
returns-in-Err-Failed g c = record {
  takes = λ f m begins.
      let up : c.args.clone.now.is_up ≡ true = search rules in
      record {
        received = Err c.lose-in-Err-Failed.result;
        receives = c.lose-in-Err-Failed.ensures.answers f up (Receive m) (λ never. cc never);
        tells = λ told a sends shown. shown.answer;
      };
  alone = λ f.
      let up : c.args.clone.now.is_up ≡ true = search rules in
      anyway_reported g.F.Files.content c.args.clone.now c.lose-in-Err-Failed.new.clone _ (g.A.Source.remaining c.args.reader.now) c.lose-in-Err-Failed.result (of_fault c.lose-in-Err-Failed.result Device c.lose-in-Err-Failed.ensures.fault) (c.lose-in-Err-Failed.ensures.answers f up);
  kept = λ f. own_same _ _ (ap g.F.Files.content c.lose-in-Err-Failed.ensures.same);
  wear =
      let calls = c.in-Err-Failed.ensures.failures in
      let told = ap Err c.in-Err-Failed.field-0-is in
      lost_then (writes_none {P = ⊥} (λ never. never)) (λ never. never) c.lose-in-Err-Failed.ensures.same (inr (calls.once told, calls.could told));
  own = tt;
}

pub returns-in-Ok-None : goal.returns-in-Ok-None
returns-in-Ok-None g c = record {
  takes = λ f m begins.
      let up : c.args.clone.now.is_up ≡ true = search rules in
      record {
        received = Err c.lose.result;
        receives = c.lose.ensures.answers f up (Receive m) (λ never. cc never);
        tells = λ told a sends shown. shown.answer;
      };
  alone = λ f.
      let up : c.args.clone.now.is_up ≡ true = search rules in
      anyway_reported g.F.Files.content c.args.clone.now c.lose.new.clone _ (g.A.Source.remaining c.args.reader.now) c.lose.result (of_fault c.lose.result Device c.lose.ensures.fault) (c.lose.ensures.answers f up);
  kept = λ f. own_same _ _ (ap g.F.Files.content c.lose.ensures.same);
  wear = lost_then (writes_none {P = ⊥} (λ never. never)) (λ never. never) c.lose.ensures.same (inl (rw c.in-Ok-None.field-0-is at c.in-Ok-None.ensures.end));
  own = tt;
}
