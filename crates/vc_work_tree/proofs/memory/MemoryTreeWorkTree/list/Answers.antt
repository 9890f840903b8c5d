use Rattle.std.proofs.Common.{rules}
use Rattle.vc_files.proofs.MemoryLemmas.{keys-files_of}
use Rattle.vc_work_tree.proofs.memory.MemoryTreeWorkTree.list.Goals as goal

pub loop-path-init : goal.loop-path-init
loop-path-init c =
    rw (← c.self.view_is, keys-files_of c.self.inside.files c.keys-path-items.ensures.ordered) (search rules)
