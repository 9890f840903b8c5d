use Rattle.std.proofs.Common.{◌≡◌, true, take}
use Rattle.vc_simulation.specs.Nodes.{seen_clone}
use Rattle.vc_simulation.specs.Values.{AreIds, Finds}
use Rattle.vc_simulation.proofs.world_clone.WorldClone.values.Given as goal

abbrev pub invariant-loop-text : goal.invariant-loop-text
invariant-loop-text g l = record {
  up : l.self.node.is_up ≡ true;
  found : g.F.Files.honest → Finds (seen_clone g.F.Files.content g.F.Files.can_fail g.F.Files.left) (AreIds (take l.text-index l.texts) l.ids.items) l.fn.self.node l.self.node;
}
