use Rattle.std.proofs.Common.{inl}
use Rattle.std.proofs.KnownBytes.{Keeps-refl}
use Rattle.vc_cli.proofs.PrintLemmas.{on_err}
use Rattle.vc_reading.proofs.cat_file.print_named.Goals as goal

pub returns-in_err-id-clause-front : goal.returns-in_err-id-clause-front
returns-in_err-id-clause-front g c = λ honest. on_err c.from_residual.result (inl (Keeps-refl (g.O.Write.contents c.args.output.now)))
