use Rattle.vc_arguments.proofs.KnownLines.{knows_lines}
use Rattle.vc_arguments.proofs.laws.known_lines.Goals as goal

pub returns : goal.returns
returns c = knows_lines
