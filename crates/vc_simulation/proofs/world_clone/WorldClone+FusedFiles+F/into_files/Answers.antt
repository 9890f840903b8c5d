use Rattle.std.proofs.Common.{◌≡◌, rules, subst, sym}
use Rattle.vc_local.specs.Opening.{IsOpenable}
use Rattle.vc_local.proofs.OpeningLaws.{held_nodes_open}
use Rattle.vc_simulation.proofs.world_clone.WorldClone+FusedFiles+F.into_files.Goals as goal

pub returns-clause-opens : goal.returns-clause-opens
returns-clause-opens g c frail n held =
    let same : c.into_inner.result ≡ c.args.self.node.files.files = search rules in
    subst (λ files. IsOpenable (g.F.Files.content files) n.repository) (sym same) (held_nodes_open (g.F.Files.content c.args.self.node.files.files) c.args.self.node.is_up held.1.awaited n held.1.holds)
