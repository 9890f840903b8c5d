use Rattle.vc_cli.proofs.PrintLemmas.{on_err}
use Rattle.vc_object.specs.declared.kind.Kind.TheVariants.{Blob}
use Rattle.vc_reading.proofs.BodyLemmas.{none_of_line}
use Rattle.vc_reading.proofs.hash_object.name_blob.Goals as goal

pub returns-in_err-id-clause-front : goal.returns-in_err-id-clause-front
returns-in_err-id-clause-front g c = on_err c.from_residual.result (none_of_line Blob (g.I.Read.remaining c.args.stream) (g.O.Write.contents c.args.output.now))
