use Rattle.std.proofs.Common.{rules}
use Rattle.vc_commands.proofs.TellingLemmas.{push_untold}
use Rattle.vc_commands.proofs.exchanging.tell_push.Goals as goal

pub returns-in_err-settled : goal.returns-in_err-settled
returns-in_err-settled g c = push_untold _ _ c.in_err-settled.field-0.0 _ (search rules) (search rules)
