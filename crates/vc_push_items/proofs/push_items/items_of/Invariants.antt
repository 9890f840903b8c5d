use Rattle.std.proofs.Common.{◌≡◌, map, take}
use Rattle.vc_files.specs.Failures.{Wears}
use Rattle.vc_push_items.specs.PushWords.{AreItemsFor}
use Rattle.vc_push_items.proofs.push_items.items_of.Given as goal

abbrev pub invariant-loop-word : goal.invariant-loop-word
invariant-loop-word g l = record {
  same : g.F.Files.content l.files ≡ g.F.Files.content l.fn.files;
  items : g.F.Files.honest → AreItemsFor (g.F.Files.content l.fn.files) (map (λ word. word.now) (take l.word-index l.words)) l.items.items;
  wear : Wears g.F.Files.failed g.F.Files.can_fail g.F.Files.left l.fn.files l.files ⊥;
}
