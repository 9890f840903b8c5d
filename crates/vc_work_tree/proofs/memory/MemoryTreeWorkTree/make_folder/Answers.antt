use Rattle.std.proofs.Common.{rules, ◌≡◌, ◌⊎◌, true, subst}
use Rattle.std.specs.Prelude.{string_bytes}
use Rattle.vc_files.specs.FileMap.{FileMap}
use Rattle.vc_files.specs.Memory.{files_of}
use Rattle.vc_work_tree.specs.Folders.{AreFolders, Folders, IsFolder, folders_of}
use Rattle.vc_work_tree.proofs.HeldLemmas.{held_set, folders_made}
use Rattle.vc_work_tree.proofs.memory.MemoryTreeWorkTree.make_folder.Goals as goal

pub returns-clause-folders : goal.returns-clause-folders
returns-clause-folders c = λ _.
    let path = c.args.path.now in
    let key : string_bytes c.in_ok-from_str.field-0 ≡ path = search rules in
    let work = files_of c.self.inside.files in
    let new = folders_of c.insert.new.self in
    subst (λ (v : FileMap × Folders). AreFolders work new (λ one. IsFolder v.0 v.1 one ⊎ (one ≡ path))) c.self.view_is
    (folders_made work (folders_of c.self.inside.folders) new path (held_set c.self.inside.folders c.insert.new.self path true (rw (← key) c.in_ok-insert.ensures.updates)))
