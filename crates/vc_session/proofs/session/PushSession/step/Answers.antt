use Rattle.vc_files.proofs.WearLemmas.{wears_writes}
use Rattle.vc_session.proofs.session.PushSession.step.Goals as goal

pub returns-in-Unpacked-clause-wear : goal.returns-in-Unpacked-clause-wear
returns-in-Unpacked-clause-wear g c = wears_writes c.check.ensures.wear (λ _. c.check.ensures.same)
