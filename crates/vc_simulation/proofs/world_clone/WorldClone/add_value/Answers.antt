use Rattle.std.proofs.Common.{rules}
use Rattle.vc_simulation.proofs.CloneLemmas.{fails_later, memory_halted}
use Rattle.vc_simulation.specs.Nodes.{seen_clone}
use Rattle.vc_simulation.specs.Values.{IsNoValue, IsValue}
use Rattle.vc_simulation.proofs.world_clone.WorldClone.add_value.Goals as goal

pub returns-then-is_err-clause-err : goal.returns-then-is_err-clause-err
returns-then-is_err-clause-err g c honest = fails_later (seen_clone g.F.Files.content g.F.Files.can_fail g.F.Files.left) (IsValue c.args.text.now c.in-Ok.id) (IsNoValue c.args.text.now) (IsNoValue c.args.text.now) _ c.args.self.now.node c.value.new.self.node _
    (search rules) (memory_halted g.F.Files.content g.F.Files.can_fail g.F.Files.left (IsNoValue c.args.text.now) _ _ _ (search rules) c.halt.ensures.up c.halt.ensures.files c.halt.ensures.awaits c.halt.ensures.end) (λ r k p q. q)
