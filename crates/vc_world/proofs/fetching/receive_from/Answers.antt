use Rattle.std.proofs.Common.{◌≡◌, ◌∙◌, rules, inl, inr, true, false, Ok, Err, refl, ap, subst}
use Rattle.vc_files.proofs.WearLemmas.{writes_none}
use Rattle.vc_files.specs.Failures.{Writes}
use Rattle.vc_model.specs.CloneCall.CloneCall.{Receive}
use Rattle.vc_node.proofs.ArrivingLemmas.{none_there}
use Rattle.vc_node.proofs.CloneCallLemmas.{down_clone}
use Rattle.vc_node.specs.CloneCalls.{ReceivedAs}
use Rattle.vc_node.specs.Held.{Held}
use Rattle.vc_node.specs.Node.{AnswersCall}
use Rattle.vc_node.specs.declared.clone_fault.CloneFault.TheVariants.{Node}
use Rattle.vc_local.specs.declared.fault.NodeFault.TheVariants.{Down}
use Rattle.vc_files.specs.declared.faults.Fault.TheVariants.{Device}
use Rattle.vc_node.specs.ReceiveFault.{IsOfDevice}
use Rattle.vc_node.proofs.OwnLemmas.{own_others, own_same, own_then}
use Rattle.vc_world.proofs.AloneCalls.{anyway_taken, none_taken, of_fault, some_taken}
use Rattle.vc_world.proofs.LosingLemmas.{answers_before, nothing_taken, reader_failed, refused_answers, some_came, taken_answers}
use Rattle.vc_world.proofs.WearLemmas.{lost_then, none_lost}
use Rattle.vc_world.proofs.fetching.receive_from.Goals as goal

pub returns-then-not-is_up : goal.returns-then-not-is_up
returns-then-not-is_up g c = record {
  answers = λ f m begins. down_clone (Receive m) (λ never. cc never) _ _ _ _ _ _ refl refl refl (search rules);
  alone = λ f.
      let off : c.args.clone.now.is_up ≡ false = search rules in
      anyway_taken g.F.Files.content c.args.clone.now c.args.clone.now (g.A.Source.remaining c.args.reader.now) (g.A.Source.remaining c.args.reader.now) (Node Down) (inr refl) (λ call other. down_clone call other _ _ _ _ _ _ refl refl refl off);
  kept = λ f. own_same _ _ refl;
  wear = none_lost (writes_none (λ never. never));
}

pub returns-in-Ok-Some : goal.returns-in-Ok-Some
returns-in-Ok-Some g c = record {
  answers = λ f m begins.
      taken_answers g.F.Files.honest c.args.clone.now.is_up c.receive_from.new.self.is_up m begins.1 (g.A.Source.remaining c.receive_from.new.reader) (g.F.Files.content c.args.clone.now.files) (g.F.Files.content c.receive_from.new.self.files)
      c.args.clone.now.awaited c.receive_from.new.self.awaited (Ok c.in-Ok-Some.field-0) c.in-Ok-Some.received (ap Ok c.in-Ok-Some.field-0-is) f (c.in-Ok-Some.ensures.known m begins.0 begins.1 begins.2 begins.3);
  alone = λ f.
      let up : c.args.clone.now.is_up ≡ true = search rules in
      some_taken g.F.Files.content c.args.clone.now c.receive_from.new.self (g.A.Source.remaining c.args.reader.now) (g.A.Source.remaining c.receive_from.new.reader) g.F.Files.honest c.in-Ok-Some.field-0 c.in-Ok-Some.received c.in-Ok-Some.field-0-is f up
      c.in-Ok-Some.ensures.receives;
  kept = λ f. own_others (c.in-Ok-Some.ensures.objects f) (c.in-Ok-Some.ensures.beside f) (c.in-Ok-Some.ensures.clean f);
  wear = none_lost c.in-Ok-Some.ensures.wear;
}

pub returns-in-Err-Node : goal.returns-in-Err-Node
returns-in-Err-Node g c = record {
  answers = λ f m begins.
      let up : c.args.clone.now.is_up ≡ true = search rules in
      refused_answers g.F.Files.honest c.args.clone.now.is_up c.receive_from.new.self.is_up m begins.1 (g.A.Source.remaining c.receive_from.new.reader) (g.F.Files.content c.args.clone.now.files) (g.F.Files.content c.receive_from.new.self.files)
      c.args.clone.now.awaited c.receive_from.new.self.awaited (Err c.in-Err-Node.field-0) c.in-Err-Node.fault (ap Err c.in-Err-Node.field-0-is) f up (c.in-Err-Node.ensures.known m begins.0 begins.1 begins.2 begins.3);
  alone = λ f.
      let up : c.args.clone.now.is_up ≡ true = search rules in
      none_taken g.F.Files.content c.args.clone.now c.receive_from.new.self (g.A.Source.remaining c.args.reader.now) (g.A.Source.remaining c.receive_from.new.reader) g.F.Files.honest c.in-Err-Node.field-0 c.in-Err-Node.fault c.in-Err-Node.field-0-is f up
      c.in-Err-Node.ensures.receives;
  kept = λ f. own_others (c.in-Err-Node.ensures.objects f) (c.in-Err-Node.ensures.beside f) (c.in-Err-Node.ensures.clean f);
  wear = none_lost (subst (λ e. Writes g.F.Files.honest g.F.Files.content g.F.Files.failed g.F.Files.can_fail g.F.Files.left c.args.clone.now.files c.receive_from.new.self.files (IsOfDevice e)) c.in-Err-Node.field-0-is c.in-Err-Node.ensures.wear);
}

pub returns-in-Ok-None : goal.returns-in-Ok-None
returns-in-Ok-None g c = record {
  answers = λ f m begins.
      absurd
      (some_came g.F.Files.honest c.args.clone.now.is_up c.receive_from.new.self.is_up m begins.1 (g.A.Source.remaining c.receive_from.new.reader) (g.F.Files.content c.args.clone.now.files) (g.F.Files.content c.receive_from.new.self.files)
      c.args.clone.now.awaited c.receive_from.new.self.awaited (Ok c.in-Ok-None.field-0) (ap Ok c.in-Ok-None.field-0-is) (c.in-Ok-None.ensures.known m begins.0 begins.1 begins.2 begins.3));
  alone = λ f.
      let up : c.args.clone.now.is_up ≡ true = search rules in
      let same : c.receive_from.new.self ≡ c.args.clone.now = none_there c.in-Ok-None.field-0 c.in-Ok-None.field-0-is c.in-Ok-None.ensures.none in
      let still : c.receive_from.new.self.is_up ≡ true = ap (λ (h : Held _). h.is_up) same ∙ up in
      anyway_taken g.F.Files.content c.args.clone.now c.lose.new.clone (g.A.Source.remaining c.args.reader.now) (g.A.Source.remaining c.receive_from.new.reader) c.lose.result (of_fault c.lose.result Device c.lose.ensures.fault)
      (λ call other. subst (λ (h : Held _). AnswersCall g.F.Files.content call (ReceivedAs (Err c.lose.result)) h c.lose.new.clone) same (c.lose.ensures.answers f still call other));
  kept = λ f. own_then (own_others (c.in-Ok-None.ensures.objects f) (c.in-Ok-None.ensures.beside f) (c.in-Ok-None.ensures.clean f)) (own_same _ _ (ap g.F.Files.content c.lose.ensures.same));
  wear = lost_then c.in-Ok-None.ensures.wear (λ never. never) c.lose.ensures.same
      (inl (nothing_taken g.F.Files.honest (g.A.Source.remaining c.args.reader.now) (g.A.Source.remaining c.receive_from.new.reader) _ _ _ _ _ _ c.in-Ok-None.field-0 c.in-Ok-None.field-0-is c.in-Ok-None.ensures.receives));
}

pub returns-in-Err-ReadFailed : goal.returns-in-Err-ReadFailed
returns-in-Err-ReadFailed g c = record {
  answers = λ f m begins.
      let up : c.args.clone.now.is_up ≡ true = search rules in
      let still : c.receive_from.new.self.is_up ≡ true = search rules in
      answers_before (Receive m) (Err c.lose-in-Err-ReadFailed.result) _ _ _ _ _ _ _ _ _ (c.in-Err-ReadFailed.ensures.lost.kept f c.in-Err-ReadFailed.field-0-is) (c.lose-in-Err-ReadFailed.ensures.answers f still (Receive m) (λ never. cc never));
  alone = λ f.
      let up : c.args.clone.now.is_up ≡ true = search rules in
      let still : c.receive_from.new.self.is_up ≡ true = search rules in
      anyway_taken g.F.Files.content c.args.clone.now c.lose-in-Err-ReadFailed.new.clone (g.A.Source.remaining c.args.reader.now) (g.A.Source.remaining c.receive_from.new.reader) c.lose-in-Err-ReadFailed.result
      (of_fault c.lose-in-Err-ReadFailed.result Device c.lose-in-Err-ReadFailed.ensures.fault)
      (λ call other. answers_before call (Err c.lose-in-Err-ReadFailed.result) _ _ _ _ _ _ _ _ _ (c.in-Err-ReadFailed.ensures.lost.kept f c.in-Err-ReadFailed.field-0-is) (c.lose-in-Err-ReadFailed.ensures.answers f still call other));
  kept = λ f. own_then (own_others (c.in-Err-ReadFailed.ensures.objects f) (c.in-Err-ReadFailed.ensures.beside f) (c.in-Err-ReadFailed.ensures.clean f)) (own_same _ _ (ap g.F.Files.content c.lose-in-Err-ReadFailed.ensures.same));
  wear =
      lost_then (subst (λ e. Writes g.F.Files.honest g.F.Files.content g.F.Files.failed g.F.Files.can_fail g.F.Files.left c.args.clone.now.files c.receive_from.new.self.files (IsOfDevice e)) c.in-Err-ReadFailed.field-0-is c.in-Err-ReadFailed.ensures.wear) (λ never. never)
      c.lose-in-Err-ReadFailed.ensures.same (inr (reader_failed c.in-Err-ReadFailed.ensures.lost.failures (ap Err c.in-Err-ReadFailed.field-0-is)));
}
