use Rattle.std.proofs.Common.{rules, Ok, Err}
use Rattle.std.specs.Prelude.{Result}
use Rattle.vc_files.proofs.WearLemmas.{writes_from, writes_told}
use Rattle.vc_files.specs.Failures.{Writes}
use Rattle.vc_cli.specs.Failure.{TellsDevice}
use Rattle.vc_cli.specs.declared.failure.Failure.{Failure}
use Rattle.vc_cli.specs.declared.failure.Failure.TheVariants.{Refs}
use Rattle.vc_reading.proofs.pack_refs.pack_in.Goals as goal

pub returns-in-Ok-clause-wear : goal.returns-in-Ok-clause-wear
returns-in-Ok-clause-wear g c =
    let F = g.F.Files in
    let done : Result (Unit {0}) Failure = Ok tt in
    let w : Writes F.honest F.content F.failed F.can_fail F.left c.args.files.now c.pack.new.self.files.now (TellsDevice done) = writes_told (writes_from c.new.ensures.files c.in-Ok.ensures.wear) (search rules) (search rules) in
    search (rules, w)

pub returns-in-Err-clause-wear : goal.returns-in-Err-clause-wear
returns-in-Err-clause-wear g c =
    let F = g.F.Files in
    let refused : Result (Unit {0}) Failure = Err (Refs c.in-Err.fault) in
    let w : Writes F.honest F.content F.failed F.can_fail F.left c.args.files.now c.pack.new.self.files.now (TellsDevice refused) = writes_told (writes_from c.new.ensures.files c.in-Err.ensures.wear) (search rules) (search rules) in
    search (rules, w)
