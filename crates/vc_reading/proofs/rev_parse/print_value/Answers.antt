use Rattle.std.proofs.Common.{inl, inr}
use Rattle.std.proofs.lemmas.Result.{IfErr-weaker}
use Rattle.vc_cli.specs.Failure.{IsFault}
use Rattle.vc_reading.specs.Shown.{IsOfPrinting}
use Rattle.vc_reading.proofs.rev_parse.print_value.Goals as goal

pub returns-in-Ok-clause-refused : goal.returns-in-Ok-clause-refused
returns-in-Ok-clause-refused g c = λ honest.
    IfErr-weaker c.print_id.result IsFault (IsOfPrinting (g.F.Files.content c.args.files.now) c.args.revision.now) (λ e fault. inr (fault, c.in-Ok.id, c.in-Ok.ensures.value honest)) c.print_id.ensures.fault

pub returns-in-Err-clause-refused : goal.returns-in-Err-clause-refused
returns-in-Err-clause-refused g c = λ honest. inl (c.in-Err.ensures.refused honest)
