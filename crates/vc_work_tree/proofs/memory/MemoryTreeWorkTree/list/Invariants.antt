use Rattle.std.proofs.Common.{◌≡◌, ◌++◌, map}
use Rattle.std.specs.Prelude.{string_bytes}
use Rattle.std.specs.FinMap as files
use Rattle.vc_work_tree.proofs.memory.MemoryTreeWorkTree.list.Given as goal

-- the paths so far and those that the rest gives are those of all files
abbrev pub invariant-loop-path : goal.invariant-loop-path
invariant-loop-path l = map string_bytes l.listed.items ++ map string_bytes l.path-iterator ≡ files.keys l.fn.self.0
