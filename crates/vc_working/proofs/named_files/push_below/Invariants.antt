use Rattle.std.proofs.Common.{◌≡◌, ◌++◌, map, filter, take}
use Rattle.std.specs.Prelude.{string_bytes}
use Rattle.vc_working.specs.Naming.{is_below}
use Rattle.vc_working.proofs.named_files.push_below.Given as goal

abbrev pub invariant-loop-path : goal.invariant-loop-path
invariant-loop-path l = map string_bytes l.paths.items ≡ map string_bytes l.fn.paths.items ++ filter (is_below l.own l.start) (map string_bytes (take l.path-index l.all))
