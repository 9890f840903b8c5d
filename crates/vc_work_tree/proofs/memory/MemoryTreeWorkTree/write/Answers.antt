use Rattle.std.proofs.Common.{rules, ◌≡◌, ◌||◌, not, ap, subst}
use Rattle.std.specs.Prelude.{bytes_eq, filter, string_bytes}
use Rattle.std.specs.FinMap as files
use Rattle.std.proofs.lemmas.Fn.{filter_same}
use Rattle.vc_files.specs.FileMap.{FileMap}
use Rattle.vc_files.specs.Memory.{files_of}
use Rattle.vc_files.proofs.MemoryLemmas.{files_of-set}
use Rattle.vc_files.specs.Path.{is_above}
use Rattle.vc_work_tree.specs.Folders.{AreFolders, Folders, IsAtOrIn, IsFolder, folders_of}
use Rattle.vc_work_tree.proofs.HeldLemmas.{folders_put, held_filter, some_put, some_there}
use Rattle.vc_work_tree.proofs.memory.MemoryTreeWorkTree.write.Goals as goal

pub returns-clause-ok : goal.returns-clause-ok
returns-clause-ok c = λ _.
    let key : string_bytes c.in_ok-key.key ≡ c.args.path.now = search rules in
    let value : c.in_ok-value.value.items ≡ c.args.bytes.now = search rules in
    rw (files_of-set c.self.inside.files c.insert.new.self (string_bytes c.in_ok-key.key) c.in_ok-value.value c.in_ok-insert.ensures.updates, key, value)
    (ap (λ (v : FileMap × Folders). files.insert v.0 c.args.path.now c.args.bytes.now) c.self.view_is)

pub returns-clause-folders : goal.returns-clause-folders
returns-clause-folders c = λ _.
    let path = c.args.path.now in
    let key : string_bytes c.in_ok-key.key ≡ path = search rules in
    let work = files_of c.self.inside.files in
    let now = files_of c.insert.new.self in
    let new = folders_of c.retain.new.self in
    let put : now ≡ files.insert work path c.in_ok-value.value.items = rw (← key) (files_of-set c.self.inside.files c.insert.new.self (string_bytes c.in_ok-key.key) c.in_ok-value.value c.in_ok-insert.ensures.updates) in
    let kept : c.retain.new.self.keys ≡ filter (λ k. not (bytes_eq (string_bytes k) path || is_above path (string_bytes k))) c.self.inside.folders.keys = filter_same _ _ _ (λ x b f' k. search rules) _ _ c.retain.ensures.filtered in
    subst (λ (v : FileMap × Folders). AreFolders now new (λ one. IsFolder v.0 v.1 one × (IsAtOrIn path one → ⊥))) c.self.view_is
    (folders_put work now (folders_of c.self.inside.folders) new path (some_put work now path c.in_ok-value.value.items put) (some_there work now path c.in_ok-value.value.items put) (held_filter c.self.inside.folders c.retain.new.self path kept))
