use Rattle.std.proofs.Common.{◌≡◌, ◌≢◌, true, take}
use Rattle.std.specs.List.{All}
use Rattle.vc_object.specs.declared.mode.Mode.TheVariants.{Tree}
use Rattle.vc_committing.specs.Adding.{AreNamed, StoresFiles, files_at}
use Rattle.vc_working.specs.Devices.{WritesEither}
use Rattle.vc_committing.proofs.add.store_files.Given as goal

abbrev pub invariant-loop-path : goal.invariant-loop-path
invariant-loop-path g l = record {
  named : g.W.WorkTree.honest → AreNamed l.staged.items (files_at (g.W.WorkTree.content l.fn.work) l.mode (take l.path-index l.paths));
  files : All (λ file. file.mode ≢ Tree) l.staged.items;
  stored : g.W.WorkTree.honest → g.F.Files.honest → StoresFiles (files_at (g.W.WorkTree.content l.fn.work) l.mode (take l.path-index l.paths)) l.fn.node.is_up l.node.is_up (g.F.Files.content l.fn.node.files) (g.F.Files.content l.node.files);
  up : l.node.is_up ≡ true;
  wear : WritesEither g.W.WorkTree.failed g.W.WorkTree.can_fail g.W.WorkTree.left g.F.Files.honest g.F.Files.content g.F.Files.failed g.F.Files.can_fail g.F.Files.left l.fn.work l.work l.fn.node.files l.node.files ⊥;
  same : g.W.WorkTree.content l.work ≡ g.W.WorkTree.content l.fn.work;
  folders : g.W.WorkTree.folders l.work ≡ g.W.WorkTree.folders l.fn.work;
}
