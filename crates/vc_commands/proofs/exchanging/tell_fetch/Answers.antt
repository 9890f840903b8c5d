use Rattle.std.proofs.Common.{rules}
use Rattle.vc_commands.proofs.TellingLemmas.{fetch_untold}
use Rattle.vc_commands.proofs.exchanging.tell_fetch.Goals as goal

pub returns-in_err-settled : goal.returns-in_err-settled
returns-in_err-settled g c = fetch_untold _ _ c.in_err-settled.field-0.0 _ (search rules) (search rules)
