use Rattle.std.proofs.Common.{rules}
use Rattle.vc_cli.proofs.faults.Faults.tell.Goals as goal
use Rattle.vc_cli.proofs.faults.Faults.tell.Goals.{then-self+in_ok-writeln, else-self}

pub returns-clause-told : goal.returns-clause-told
returns-clause-told g c = elim c.if-self.branch [
  | then-self+in_ok-writeln w ↦ search rules
  | else-self w ↦ search rules
]
