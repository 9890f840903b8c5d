use Rattle.std.proofs.Common.{◌≡◌, rules, subst, sym}
use Rattle.vc_local.specs.Opening.{IsOpenable}
use Rattle.vc_shared.proofs.RestartLemmas.{held_open}
use Rattle.vc_simulation.proofs.world_shared.WorldShared+FusedFiles+F.into_files.Goals as goal

pub returns-clause-opens : goal.returns-clause-opens
returns-clause-opens g c frail n held =
    let same : c.into_inner.result ≡ c.args.self.node.files.files = search rules in
    subst (λ files. IsOpenable (g.F.Files.content files) n.repository) (sym same) (held_open (g.F.Files.content c.args.self.node.files.files) c.args.self.node.slots c.args.self.node.is_up n held.1.holds)
