use Rattle.std.proofs.Common.{◌≡◌, ◌++◌, map, nat_eq}
use Rattle.std.specs.Prelude.{string_bytes, filter}
use Rattle.std.specs.List.{starts_with}
use Rattle.vc_files.specs.FileMap.{paths_under}
use Rattle.vc_files.proofs.memory.MemoryFilesFiles.list.Given as goal

-- the paths so far and those that the rest gives are those of all files
abbrev pub invariant-loop-path : goal.invariant-loop-path
invariant-loop-path l =
    map string_bytes l.listed.items ++ filter (λ path. starts_with nat_eq path l.prefix) (map (λ e. string_bytes e.0) l.path-iterator)
    ≡ paths_under l.fn.self l.prefix
