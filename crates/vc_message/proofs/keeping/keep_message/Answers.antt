use Rattle.vc_message.proofs.KeepingLaws.{known_kept}
use Rattle.vc_message.proofs.keeping.keep_message.Goals as goal

pub returns-clause-known : goal.returns-clause-known
returns-clause-known g c = λ m bytes rest is reads fits.
    known_kept c.args.limit bytes rest m reads fits (g.R.Source.remaining c.args.source) _ c.keep_at.result.1 is c.keep_at.ensures.message c.keep_at.ensures.end c.keep_at.ensures.fault
