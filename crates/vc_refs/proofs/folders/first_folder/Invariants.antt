use Rattle.vc_refs.proofs.FolderLemmas.{SeeksFolder}
use Rattle.vc_refs.proofs.folders.first_folder.Given as goal

-- the names that were passed by are no folders
abbrev pub invariant-loop-name : goal.invariant-loop-name
invariant-loop-name l = SeeksFolder l.refs l.later
