use Rattle.std.proofs.Common.{◌≡◌}
use Rattle.std.specs.Prelude.{string_bytes}
use Rattle.std.specs.List.{list_any}
use Rattle.vc_files.specs.Path.{is_above}
use Rattle.vc_work_tree.proofs.memory.has_folder_below.Given as goal

-- what is left decides
abbrev pub invariant-loop-path : goal.invariant-loop-path
invariant-loop-path l = record {
  can : (goal.iterator-loop-path).can_next l.path-iterator;
  finite : (goal.iterator-loop-path).is_finite l.path-iterator;
  left : list_any (λ k. is_above l.folder (string_bytes k)) l.path-iterator ≡ list_any (λ k. is_above l.folder (string_bytes k)) l.folders.keys;
}
