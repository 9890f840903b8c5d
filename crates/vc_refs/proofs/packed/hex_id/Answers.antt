use Rattle.vc_refs.proofs.RefFileLemmas.{id_from_hex}
use Rattle.vc_refs.proofs.packed.hex_id.Goals as goal

pub returns : goal.returns
returns c = id_from_hex c.args.digits.now c.from_hex.result c.from_hex.ensures.value c.from_hex.ensures.found
