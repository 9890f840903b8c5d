use Rattle.std.proofs.Common.{rules}
use Rattle.vc_files.proofs.MemoryLemmas.{keys-files_of}
use Rattle.vc_files.proofs.PrefixLemmas.{filter_from}
use Rattle.vc_files.proofs.memory.MemoryFilesFiles.list.Goals as goal

pub loop-path-init : goal.loop-path-init
loop-path-init c =
    rw (← c.self.view_is, keys-files_of c.self.inside.map c.range-path-items.ensures.ordered, ← filter_from c.in_ok-first.first c.args.prefix.now c.self.inside.map.entries c.in_ok-first.ensures.ok) (search rules)
