use Rattle.std.proofs.Common.{◌≡◌, ◌+◌, Bool, length}
use Rattle.std.specs.List.{AllByRecursion}
use Rattle.std.specs.Vec.Iter.{into_iter_items, into_iter_len}
use Rattle.vc_events.specs.World.{fresh_clone}
use Rattle.vc_rules.specs.Stops.{IsBelow}
use Rattle.vc_simulation.specs.Nodes.{BeginsAs, IsEmpty, seen_cloned}
use Rattle.vc_simulation.proofs.file_world.new_clones.Given as goal

abbrev pub invariant-loop-file : goal.invariant-loop-file
invariant-loop-file g l = record {
  new : g.F.Files.honest → (frail : Bool) → IsBelow g.F.Files.can_fail g.F.Files.left frail → AllByRecursion (IsEmpty g.F.Files.content) l.fn.files.items
      → AllByRecursion (λ c. BeginsAs (seen_cloned g.F.Files.content g.F.Files.can_fail g.F.Files.left) frail c fresh_clone) l.clones.items;
  rest : AllByRecursion (IsEmpty g.F.Files.content) l.fn.files.items → AllByRecursion (IsEmpty g.F.Files.content) (into_iter_items l.file-iterator);
  count : length l.clones.items + length (into_iter_items l.file-iterator) ≡ length l.fn.files.items;
  len : into_iter_len l.file-iterator ≡ length (into_iter_items l.file-iterator);
}
