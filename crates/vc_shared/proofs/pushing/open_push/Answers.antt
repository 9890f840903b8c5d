use Rattle.std.proofs.Common.{rules}
use Rattle.vc_quarantine.proofs.KeepingLemmas.{keeps_quarantine}
use Rattle.vc_shared.proofs.PushingLemmas.{changes_free}
use Rattle.vc_shared.proofs.pushing.open_push.Goals as goal

pub returns-in-Ok-clause-outside : goal.returns-in-Ok-clause-outside
returns-in-Ok-clause-outside g c = λ honest. changes_free _ _ _ _ c.in-Some.ensures (c.new.ensures.outside honest)

pub returns-in-Err-clause-outside : goal.returns-in-Err-clause-outside
returns-in-Err-clause-outside g c = λ honest. changes_free _ _ _ _ c.in-Some.ensures (c.new.ensures.outside honest)

pub returns-in-Ok-clause-good : goal.returns-in-Ok-clause-good
returns-in-Ok-clause-good g c = λ honest. record { objects = keeps_quarantine _ _ _ (c.new.ensures.outside honest); bad = search rules }

pub returns-in-Err-clause-good : goal.returns-in-Err-clause-good
returns-in-Err-clause-good g c = λ honest. record { objects = keeps_quarantine _ _ _ (c.new.ensures.outside honest); bad = search rules }
