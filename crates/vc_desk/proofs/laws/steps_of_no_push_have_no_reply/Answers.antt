use Rattle.vc_desk.proofs.LawLemmas.{steps_of_none}
use Rattle.vc_desk.specs.Runs.{Held}
use Rattle.vc_desk.proofs.laws.steps_of_no_push_have_no_reply.Goals as goal

pub returns : goal.returns
returns g c = steps_of_none (Held g.F.Files.content)
