use Rattle.std.proofs.Common.{cond, ap, sym}
use Rattle.vc_push_rules.specs.declared.stage.Stage.TheVariants.{Done}
use Rattle.vc_session.proofs.SessionLemmas.{passing_there}
use Rattle.vc_session.proofs.session.stage_while.Goals as goal

pub returns-in-Some : goal.returns-in-Some
returns-in-Some c = sym (ap (λ b. cond b c.args.stage Done) (passing_there c.args.verdicts.now c.in-Some.field-0 c.in-Some.ensures.place.0))
