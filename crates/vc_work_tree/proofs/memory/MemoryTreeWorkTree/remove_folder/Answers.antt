use Rattle.std.proofs.Common.{rules, ◌≡◌, ◌≢◌, ◌∙◌, true, false, refl, sym, subst, inl, inr}
use Rattle.std.specs.FinSet.{contains}
use Rattle.vc_files.specs.FileMap.{FileMap}
use Rattle.vc_files.specs.Memory.{files_of}
use Rattle.vc_work_tree.specs.Folders.{AreFolders, Folders, IsFolder, folders_of}
use Rattle.vc_work_tree.proofs.HeldLemmas.{HasBelow, below_folder, folder_gone, folders_kept, folders_removed, held_any, held_set, no_folder}
use Rattle.vc_work_tree.proofs.memory.MemoryTreeWorkTree.remove_folder.Goals as goal

pub returns-then-has_below-clause-folders : goal.returns-then-has_below-clause-folders
returns-then-has_below-clause-folders c = λ _.
    subst (λ (v : FileMap × Folders). AreFolders v.0 v.1 (λ one. IsFolder v.0 v.1 one × (one ≢ c.args.path.now))) c.self.view_is
    (folders_kept (files_of c.self.inside.files) (folders_of c.self.inside.folders) c.args.path.now (inl (c.has_below.ensures.0 c.if-has_below.true)))

pub returns-then-has_below-clause-gone : goal.returns-then-has_below-clause-gone
returns-then-has_below-clause-gone c = λ _.
    (λ _. subst (λ (v : FileMap × Folders). IsFolder v.0 v.1 c.args.path.now) c.self.view_is (below_folder (files_of c.self.inside.files) (folders_of c.self.inside.folders) c.args.path.now (c.has_below.ensures.0 c.if-has_below.true)), λ _. refl)

pub returns-then-not-contains-clause-folders : goal.returns-then-not-contains-clause-folders
returns-then-not-contains-clause-folders c = λ _.
    let work = files_of c.self.inside.files in
    let held = folders_of c.self.inside.folders in
    let empty : HasBelow work held c.args.path.now → ⊥ = λ below. let t = c.has_below.ensures.1 below in cc (t, c.if-has_below.false) in
    let lacks : contains held c.args.path.now ≡ false = held_any c.self.inside.folders c.args.path.now ∙ search rules in
    subst (λ (v : FileMap × Folders). AreFolders v.0 v.1 (λ one. IsFolder v.0 v.1 one × (one ≢ c.args.path.now))) c.self.view_is
    (folders_kept work held c.args.path.now (inr (no_folder work held held held c.args.path.now empty lacks)))

pub returns-then-not-contains-clause-gone : goal.returns-then-not-contains-clause-gone
returns-then-not-contains-clause-gone c = λ _.
    let work = files_of c.self.inside.files in
    let held = folders_of c.self.inside.folders in
    let empty : HasBelow work held c.args.path.now → ⊥ = λ below. let t = c.has_below.ensures.1 below in cc (t, c.if-has_below.false) in
    let lacks : contains held c.args.path.now ≡ false = held_any c.self.inside.folders c.args.path.now ∙ search rules in
    (λ t. absurd (cc t), λ is. absurd (no_folder work held held held c.args.path.now empty lacks (subst (λ (v : FileMap × Folders). IsFolder v.0 v.1 c.args.path.now) (sym c.self.view_is) is)))

pub returns-clause-folders : goal.returns-clause-folders
returns-clause-folders c = λ _.
    let path = c.args.path.now in
    let work = files_of c.self.inside.files in
    let held = folders_of c.self.inside.folders in
    let empty : HasBelow work held path → ⊥ = λ below. let t = c.has_below.ensures.1 below in cc (t, c.if-has_below.false) in
    let has : contains held path ≡ true = held_any c.self.inside.folders path ∙ search rules in
    subst (λ (v : FileMap × Folders). AreFolders work (folders_of c.remove.new.self) (λ one. IsFolder v.0 v.1 one × (one ≢ path))) c.self.view_is
    (folders_removed work held (folders_of c.note_folder.new.folders) (folders_of c.remove.new.self) path empty c.in_ok-note_folder.ensures.noted has (held_set c.note_folder.new.folders c.remove.new.self path false c.remove.ensures.updates))

pub returns-clause-gone : goal.returns-clause-gone
returns-clause-gone c = λ _.
    let path = c.args.path.now in
    let work = files_of c.self.inside.files in
    let held = folders_of c.self.inside.folders in
    let empty : HasBelow work held path → ⊥ = λ below. let t = c.has_below.ensures.1 below in cc (t, c.if-has_below.false) in
    let has : contains held path ≡ true = held_any c.self.inside.folders path ∙ search rules in
    (λ t. absurd (cc t), λ is. absurd (folder_gone work held (folders_of c.note_folder.new.folders) (folders_of c.remove.new.self) path empty c.in_ok-note_folder.ensures.noted has (held_set c.note_folder.new.folders c.remove.new.self path false c.remove.ensures.updates) is))
