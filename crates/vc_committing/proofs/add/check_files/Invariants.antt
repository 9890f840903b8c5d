use Rattle.std.proofs.Common.{◌≡◌, drop}
use Rattle.vc_files.specs.Failures.{Wears}
use Rattle.vc_committing.specs.Adding.{files_at}
use Rattle.vc_committing.proofs.AddLemmas.{Leads}
use Rattle.vc_committing.proofs.add.check_files.Given as goal

abbrev pub invariant-loop-path : goal.invariant-loop-path
invariant-loop-path g l = record {
  leads : g.W.WorkTree.honest → Leads l.fn.index (files_at (g.W.WorkTree.content l.fn.work) l.mode l.paths) l.index (files_at (g.W.WorkTree.content l.fn.work) l.mode (drop l.path-index l.paths));
  same : g.W.WorkTree.content l.work ≡ g.W.WorkTree.content l.fn.work;
  folders : g.W.WorkTree.folders l.work ≡ g.W.WorkTree.folders l.fn.work;
  wear : Wears g.W.WorkTree.failed g.W.WorkTree.can_fail g.W.WorkTree.left l.fn.work l.work ⊥;
}
