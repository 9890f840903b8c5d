use Rattle.vc_refs.proofs.RefFileLemmas.{id_from_hex}
use Rattle.vc_working.proofs.begun.id_in.Goals as goal

pub returns : goal.returns
returns c = rw (← c.without_lf.ensures) (id_from_hex c.without_lf.result.now c.from_hex.result c.from_hex.ensures.value c.from_hex.ensures.found)
