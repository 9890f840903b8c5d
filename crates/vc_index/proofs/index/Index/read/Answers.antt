use Rattle.vc_index.proofs.AgainLemmas.{read_again, read_only}
use Rattle.vc_index.proofs.index.Index.read.Goals as goal

pub returns-clause-again : goal.returns-clause-again
returns-clause-again c = read_again c.args.bytes.now c.read_text.result c.read_text.ensures.ok c.read_text.ensures.index c.read_text.ensures.refused

pub returns-clause-only : goal.returns-clause-only
returns-clause-only c = read_only c.args.bytes.now c.read_text.result c.read_text.ensures.ok c.read_text.ensures.index c.read_text.ensures.refused
