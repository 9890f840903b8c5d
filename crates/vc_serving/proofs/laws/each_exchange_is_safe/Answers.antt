use Rattle.vc_serving.proofs.SafeLemmas.{each_safe}
use Rattle.vc_serving.proofs.laws.each_exchange_is_safe.Goals as goal

pub returns : goal.returns
returns g c = each_safe g.F.Files.content g.R.Source.remaining g.W.Write.contents
