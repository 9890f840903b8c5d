use Rattle.std.proofs.Common.{rules, ◌≡◌, ◌∙◌, false, IsTrue, sym, subst}
use Rattle.std.specs.FinSet.{contains}
use Rattle.vc_files.specs.FileMap.{FileMap}
use Rattle.vc_files.specs.Memory.{files_of}
use Rattle.vc_work_tree.specs.Folders.{Folders, IsFolder, folders_of}
use Rattle.vc_work_tree.proofs.FolderLemmas.{folder_itself}
use Rattle.vc_work_tree.proofs.HeldLemmas.{below_folder, folder_below, held_any}
use Rattle.vc_work_tree.proofs.memory.MemoryTree.has_folder.Goals as goal

pub returns-then-contains : goal.returns-then-contains
returns-then-contains c =
    let work = files_of c.self.inside.files in
    let held = folders_of c.self.inside.folders in
    let has : IsTrue (contains held c.args.path.now) = held_any c.self.inside.folders c.args.path.now ∙ search rules in
    (λ _. subst (λ (v : FileMap × Folders). IsFolder v.0 v.1 c.args.path.now) c.self.view_is (folder_itself work (λ one. IsTrue (contains held one)) c.args.path.now has), λ _. c.if-contains.true)

pub returns-else-contains : goal.returns-else-contains
returns-else-contains c =
    let work = files_of c.self.inside.files in
    let held = folders_of c.self.inside.folders in
    let lacks : contains held c.args.path.now ≡ false = held_any c.self.inside.folders c.args.path.now ∙ search rules in
    (λ t. subst (λ (v : FileMap × Folders). IsFolder v.0 v.1 c.args.path.now) c.self.view_is (below_folder work held c.args.path.now (c.has_below.ensures.0 t)), λ is. c.has_below.ensures.1 (folder_below work held c.args.path.now lacks (subst (λ (v : FileMap × Folders). IsFolder v.0 v.1 c.args.path.now) (sym c.self.view_is) is)))
