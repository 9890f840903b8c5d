use Rattle.std.proofs.Common.{rules, ℕ, Ok, Err}
use Rattle.std.specs.Prelude.{Result}
use Rattle.vc_files.proofs.WearLemmas.{writes_told}
use Rattle.vc_files.specs.Failures.{Writes}
use Rattle.vc_cli.specs.Failure.{TellsDevice}
use Rattle.vc_cli.specs.declared.failure.Failure.{Failure}
use Rattle.vc_cli.specs.declared.failure.Failure.TheVariants.{Node}
use Rattle.vc_reading.proofs.prune.prune_in.Goals as goal

pub returns-in-Ok-clause-wear : goal.returns-in-Ok-clause-wear
returns-in-Ok-clause-wear g c =
    let F = g.F.Files in
    let done : Result ℕ Failure = Ok c.in-Ok.count in
    let w : Writes F.honest F.content F.failed F.can_fail F.left c.args.files.now c.prune.new.files (TellsDevice done) = writes_told c.in-Ok.ensures.wear (search rules) (search rules) in
    search (rules, w)

pub returns-in-Err-clause-wear : goal.returns-in-Err-clause-wear
returns-in-Err-clause-wear g c =
    let F = g.F.Files in
    let refused : Result ℕ Failure = Err (Node c.in-Err.fault) in
    let w : Writes F.honest F.content F.failed F.can_fail F.left c.args.files.now c.prune.new.files (TellsDevice refused) = writes_told c.in-Err.ensures.wear (search rules) (search rules) in
    search (rules, w)
