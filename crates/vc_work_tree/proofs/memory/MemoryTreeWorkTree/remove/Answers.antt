use Rattle.std.proofs.Common.{rules, ◌≡◌, true, false, ◌∙◌, ap, subst}
use Rattle.std.specs.Prelude.{is_some}
use Rattle.std.specs.BTreeMap.{get_by_text}
use Rattle.std.specs.FinMap as files
use Rattle.vc_files.specs.FileMap.{FileMap}
use Rattle.vc_files.specs.Memory.{files_of}
use Rattle.vc_files.proofs.MemoryLemmas.{files_of-unset}
use Rattle.vc_work_tree.specs.Folders.{AreFolders, Folders, IsFolder, folders_of}
use Rattle.vc_work_tree.proofs.FolderLemmas.{still_folders}
use Rattle.vc_work_tree.proofs.HeldLemmas.{folders_taken, removed_absent, some_left, some_stored}
use Rattle.vc_work_tree.proofs.memory.MemoryTreeWorkTree.remove.Goals as goal

pub returns-then-not-contains_key-clause-ok : goal.returns-then-not-contains_key-clause-ok
returns-then-not-contains_key-clause-ok c = λ _.
    let lacks : is_some (get_by_text c.self.inside.files c.args.path.now) ≡ false = search rules in
    subst (λ (v : FileMap × Folders). v.0 ≡ files.remove v.0 c.args.path.now) c.self.view_is (removed_absent c.self.inside.files c.args.path.now lacks)

pub returns-then-not-contains_key-clause-folders : goal.returns-then-not-contains_key-clause-folders
returns-then-not-contains_key-clause-folders c = λ _. still_folders c.args.self.now.0 c.args.self.now.1

pub returns-clause-ok : goal.returns-clause-ok
returns-clause-ok c = λ _. files_of-unset c.self.inside.files c.remove.new.self c.args.path.now c.remove.ensures.updates ∙ ap (λ (v : FileMap × Folders). files.remove v.0 c.args.path.now) c.self.view_is

pub returns-clause-folders : goal.returns-clause-folders
returns-clause-folders c = λ _.
    let path = c.args.path.now in
    let has : is_some (get_by_text c.self.inside.files path) ≡ true = search rules in
    let work = files_of c.self.inside.files in
    let now = files_of c.remove.new.self in
    subst (λ (v : FileMap × Folders). AreFolders now (folders_of c.note_folder.new.folders) (IsFolder v.0 v.1)) c.self.view_is
    (folders_taken work now (folders_of c.self.inside.folders) (folders_of c.note_folder.new.folders) path (some_left work now path (files_of-unset c.self.inside.files c.remove.new.self path c.remove.ensures.updates)) (some_stored c.self.inside.files path has) c.in_ok-note_folder.ensures.noted)
