use Rattle.vc_rev.proofs.NamesLemmas.{id_read}
use Rattle.vc_rev.proofs.names.id_of.Goals as goal

pub returns : goal.returns
returns c = id_read c.args.name.now c.from_hex.result c.from_hex.ensures.value c.from_hex.ensures.found
