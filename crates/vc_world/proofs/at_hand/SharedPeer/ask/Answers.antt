use Rattle.std.proofs.Common.{Err, Ok}
use Rattle.vc_world.proofs.Serves.{peer_answers}
use Rattle.vc_world.proofs.WearLemmas.{stops}
use Rattle.vc_world.proofs.at_hand.SharedPeer.ask.Goals as goal

pub returns-in-Ok : goal.returns-in-Ok
returns-in-Ok g c = record {
  answers = λ f m reads. peer_answers _ (λ shared. g.F.Files.content shared.files) (λ shared. shared.slots) (λ shared. shared.is_up) m (Ok c.in-Ok.reply) c.args.self.now c.answer.new.shared (c.in-Ok.ensures.answers f m reads);
  whole = λ never. never;
  said = tt;
  read = tt;
  wear = stops (λ shared. shared.files) c.args.self.now c.answer.new.shared c.in-Ok.ensures.wear;
}

pub returns-in-Err : goal.returns-in-Err
returns-in-Err g c = record {
  answers = λ f m reads. peer_answers _ (λ shared. g.F.Files.content shared.files) (λ shared. shared.slots) (λ shared. shared.is_up) m (Err c.in-Err.fault) c.args.self.now c.answer.new.shared (c.in-Err.ensures.answers f m reads);
  whole = tt;
  said = tt;
  read = tt;
  wear = stops (λ shared. shared.files) c.args.self.now c.answer.new.shared c.in-Err.ensures.wear;
}
