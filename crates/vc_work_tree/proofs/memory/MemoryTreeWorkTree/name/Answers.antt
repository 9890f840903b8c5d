use Rattle.std.proofs.Common.{rules, ◌≡◌, sym, ◌∙◌, ap, Some, None}
use Rattle.std.specs.Prelude.{option_map}
use Rattle.std.specs.BTreeMap.{get_by_text}
use Rattle.std.specs.FinMap as files
use Rattle.vc_files.specs.FileMap.{FileMap}
use Rattle.vc_work_tree.specs.Folders.{Folders}
use Rattle.vc_work_tree.specs.Paths.{blob_name}
use Rattle.vc_files.proofs.MemoryLemmas.{get-files_of}
use Rattle.vc_work_tree.proofs.memory.MemoryTreeWorkTree.name.Goals as goal

pub returns-in_default-clause-named : goal.returns-in_default-clause-named
returns-in_default-clause-named c = λ _.
    let none : None ≡ option_map blob_name (option_map (λ bytes. bytes.items) (get_by_text c.self.inside.files c.args.path.now)) = search rules in
    none ∙ ap (option_map blob_name) (sym (get-files_of c.self.inside.files c.args.path.now) ∙ ap (λ (v : FileMap × Folders). files.get v.0 c.args.path.now) c.self.view_is)

pub returns-clause-named : goal.returns-clause-named
returns-clause-named c = λ _.
    let some : Some c.name_of.result ≡ option_map blob_name (option_map (λ bytes. bytes.items) (get_by_text c.self.inside.files c.args.path.now)) = search rules in
    some ∙ ap (option_map blob_name) (sym (get-files_of c.self.inside.files c.args.path.now) ∙ ap (λ (v : FileMap × Folders). files.get v.0 c.args.path.now) c.self.view_is)
