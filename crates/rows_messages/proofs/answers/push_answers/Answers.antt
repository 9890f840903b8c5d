use Rattle.vc_object_map.specs.Store.{objects}
use Rattle.rows_messages.proofs.answers.push_answers.Goals as goal

pub told-requires : goal.told-requires
told-requires g c = record { agrees = λ honest. c.new.ensures.agrees (objects (g.F.Files.content c.args.files.now)) }
