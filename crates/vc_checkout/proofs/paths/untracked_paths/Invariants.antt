use Rattle.std.proofs.Common.{◌≡◌, ◌&&◌, not, ℕ, List, map, take}
use Rattle.std.specs.Prelude.{is_some, string_bytes}
use Rattle.std.specs.FinMap as maps
use Rattle.vc_checkout.specs.WorkTree.{has_path}
use Rattle.vc_work_tree.specs.Paths.{is_listed}
use Rattle.vc_checkout.proofs.paths.untracked_paths.Given as goal

-- of the paths so far, those that the index lacks were found
abbrev pub invariant-loop-path : goal.invariant-loop-path
invariant-loop-path g l = (l.known ≡ l.index) × ((path : List ℕ) → has_path l.found path ≡ (is_listed path (map string_bytes (take l.path-index l.path-items)) && not (is_some (maps.get l.index path))))
