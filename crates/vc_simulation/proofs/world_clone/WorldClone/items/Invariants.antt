use Rattle.std.proofs.Common.{◌≡◌, true, take, length}
use Rattle.vc_simulation.specs.Nodes.{seen_clone}
use Rattle.vc_simulation.specs.Values.{ArePushed, Finds}
use Rattle.vc_simulation.proofs.world_clone.WorldClone.items.Given as goal

abbrev pub invariant-loop-one : goal.invariant-loop-one
invariant-loop-one g l = record {
  up : l.self.node.is_up ≡ true;
  count : length l.items.items ≡ l.one-index;
  found : g.F.Files.honest → Finds (seen_clone g.F.Files.content g.F.Files.can_fail g.F.Files.left) (ArePushed (take l.one-index l.named) l.items.items) l.fn.self.node l.self.node;
}
