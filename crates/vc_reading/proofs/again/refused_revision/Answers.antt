use Rattle.std.proofs.Common.{rules}
use Rattle.vc_cli.specs.Revisions.{IsOfRevision}
use Rattle.vc_reading.specs.Again.{IsRefusedRevision}
use Rattle.vc_reading.proofs.again.refused_revision.Goals as goal
use Rattle.vc_reading.proofs.again.refused_revision.Goals.{then-status-eq1, else-status-eq1}

pub returns-in-Err-clause-refused : goal.returns-in-Err-clause-refused
returns-in-Err-clause-refused g c = λ honest. elim c.if-status-eq1.branch [
  | then-status-eq1 w ↦
      let refused : IsOfRevision (g.F.Files.content c.args.files.now) w.as_bytes.result.now c.in-Err.failure = search rules in
      let it : IsRefusedRevision (g.F.Files.content c.args.files.now) w.as_bytes.result.now = record { failure = c.in-Err.failure; refused = refused; status = search rules } in
      rw w.result-is it
  | else-status-eq1 w ↦ rw w.result-is tt
]
