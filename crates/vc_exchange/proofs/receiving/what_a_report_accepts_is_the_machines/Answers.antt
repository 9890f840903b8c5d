use Rattle.vc_exchange.proofs.ReceivingLemmas.{accepted_agree}
use Rattle.vc_exchange.proofs.receiving.what_a_report_accepts_is_the_machines.Goals as goal

pub returns : goal.returns
returns c = accepted_agree
