use Rattle.vc_refs.proofs.FolderLemmas.{SeeksInside}
use Rattle.vc_refs.proofs.folders.is_folder_of_any.Given as goal

-- those that were passed by don't lie in the folder
abbrev pub invariant-loop-other : goal.invariant-loop-other
invariant-loop-other l = SeeksInside l.fn.name l.fn.later l.other-iterator
