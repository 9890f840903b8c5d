use Rattle.std.proofs.Common.{◌≡◌, map, take}
use Rattle.std.specs.Prelude.{string_bytes}
use Rattle.std.specs.List.{AllByRecursion, flat_map}
use Rattle.vc_files.specs.Failures.{Wears}
use Rattle.vc_working.specs.Naming.{IsListingIf, Names, files_named_by}
use Rattle.vc_working.proofs.NamedLemmas.{word_bytes}
use Rattle.vc_working.proofs.named_files.paths_named.Given as goal

abbrev pub invariant-loop-word : goal.invariant-loop-word
invariant-loop-word g l = record {
  named : g.W.WorkTree.honest → map string_bytes l.paths.items ≡ flat_map (files_named_by (g.W.WorkTree.content l.fn.work) l.own) (map word_bytes (take l.word-index l.words));
  names : g.W.WorkTree.honest → AllByRecursion (Names (g.W.WorkTree.content l.fn.work) l.own) (map word_bytes (take l.word-index l.words));
  listed : g.W.WorkTree.honest → IsListingIf (g.W.WorkTree.content l.fn.work) l.listed;
  same : g.W.WorkTree.content l.work ≡ g.W.WorkTree.content l.fn.work;
  folders : g.W.WorkTree.folders l.work ≡ g.W.WorkTree.folders l.fn.work;
  wear : Wears g.W.WorkTree.failed g.W.WorkTree.can_fail g.W.WorkTree.left l.fn.work l.work ⊥;
}
