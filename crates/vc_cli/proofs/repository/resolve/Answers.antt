use Rattle.std.proofs.Common.{ℕ, List, Ok, IfOk, subst}
use Rattle.vc_cli.specs.Revisions.{Denoted}
use Rattle.vc_cli.proofs.repository.resolve.Goals as goal

pub returns-clause-value : goal.returns-clause-value
returns-clause-value g c = λ honest.
    subst (λ (text : List ℕ). IfOk c.resolve_bytes.result (λ id. Denoted (g.F.Files.content c.args.files.now) text (Ok id))) c.as_bytes.ensures.value (c.resolve_bytes.ensures.value honest)
