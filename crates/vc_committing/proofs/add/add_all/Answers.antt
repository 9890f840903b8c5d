use Rattle.std.proofs.Common.{rules, ◌≡◌, Bool, List, Err, true, map, refl, sym, subst, ◌∙◌}
use Rattle.vc_arguments.specs.Modes.{mode_of}
use Rattle.vc_files.proofs.WearLemmas.{wears_writes}
use Rattle.vc_files.specs.FileMap.{FileMap}
use Rattle.vc_local.specs.IndexFile.{SpellsIndex}
use Rattle.vc_model.specs.Node.Answer.{Did}
use Rattle.vc_model.specs.Node.Reply.{Stored}
use Rattle.vc_local.specs.Shown.{shown}
use Rattle.vc_local.specs.Staging.{BlamesStaging, File, MayStandAll, StagesShown, file_placed, placed}
use Rattle.vc_local.specs.declared.fault.NodeFault.TheVariants.{Down}
use Rattle.vc_local.specs.declared.staging.Staged.{Staged}
use Rattle.vc_committing.specs.Adding.{AreBlobs, AreNamed, IsOfStoring, RefusesAdd, RefusesFiles, StoresBlobs, StoresFiles, files_at, files_named}
use Rattle.vc_cli.specs.declared.failure.Failure.TheVariants.{Node}
use Rattle.vc_cli.proofs.ToldLemmas.{handed_on}
use Rattle.vc_committing.proofs.AddedLemmas.{adds_files, files_refused, files_same, index_refused, paths_there, staging_refused, still_spelled, storing_refused, was_up, words_refused}
use Rattle.vc_working.proofs.DeviceLemmas.{either_both, either_told, of_files, of_work}
use Rattle.vc_working.proofs.NamedLemmas.{word_bytes}
use Rattle.vc_committing.proofs.add.add_all.Goals as goal

pub returns-in_err-paths-clause-refused : goal.returns-in_err-paths-clause-refused
returns-in_err-paths-clause-refused g c = λ work_honest honest.
    let old = g.F.Files.content c.args.node.now.files in
    let work = g.W.WorkTree.content c.args.work.now in
    let up = c.args.node.now.is_up in
    let failure = c.in_err-paths.field-0.0 in
    handed_on (RefusesAdd work c.args.own.now (mode_of c.args.mode) (map word_bytes c.args.words.now) up up old old) failure c.from_residual.result c.from_residual.ensures.1
    (words_refused work c.args.own.now (mode_of c.args.mode) (map word_bytes c.args.words.now) up up old old refl failure refl (c.in_err-paths.ensures.refused work_honest))

pub returns-in_err-staged-clause-refused : goal.returns-in_err-staged-clause-refused
returns-in_err-staged-clause-refused g c = λ work_honest honest.
    let content = g.F.Files.content in
    let trees = g.W.WorkTree.content in
    let work = trees c.args.work.now in
    let words = map word_bytes c.args.words.now in
    let old = content c.args.node.now.files in
    let new = content c.store_files.new.node.files in
    let failure = c.in_err-staged.field-0.0 in
    let stored : files_at (trees c.check_files.new.work) c.mode-2.result c.deref-2.result.now ≡ files_named work c.args.own.now (mode_of c.args.mode) words =
    files_same work _ c.args.own.now (mode_of c.args.mode) _ words c.in_ok-paths.paths.items _ (c.in_ok-check_files.ensures.untouched.0 ∙ c.in_ok-paths.ensures.untouched.0) c.mode-2.ensures.value c.deref-2.ensures.value (c.in_ok-paths.ensures.named work_honest) in
    let told = subst (λ (fs : List File). IsOfStoring fs old new failure) stored
    (subst (λ (m : FileMap). IsOfStoring (files_at (trees c.check_files.new.work) c.mode-2.result c.deref-2.result.now) m new failure) c.in_ok-index.ensures.same (c.in_err-staged.ensures.refused work_honest honest)) in
    handed_on (RefusesAdd work c.args.own.now (mode_of c.args.mode) words c.args.node.now.is_up c.store_files.new.node.is_up old new) failure c.from_residual-in_err-staged.result c.from_residual-in_err-staged.ensures.1
    (storing_refused work c.args.own.now (mode_of c.args.mode) words c.args.node.now.is_up c.store_files.new.node.is_up old new failure told)

pub returns-in_err-index-clause-refused : goal.returns-in_err-index-clause-refused
returns-in_err-index-clause-refused g c = λ work_honest honest.
    let content = g.F.Files.content in
    let old = content c.args.node.now.files in
    let fault = c.in_err-index.field-0.0 in
    handed_on (RefusesAdd (g.W.WorkTree.content c.args.work.now) c.args.own.now (mode_of c.args.mode) (map word_bytes c.args.words.now) c.args.node.now.is_up c.index.new.self.is_up old (content c.index.new.self.files))
    (Node fault) c.from_residual-in_err-index.result c.from_residual-in_err-index.ensures.1
    (index_refused (g.W.WorkTree.content c.args.work.now) c.args.own.now (mode_of c.args.mode) (map word_bytes c.args.words.now) c.args.node.now.is_up c.index.new.self.is_up old (content c.index.new.self.files) c.in_err-index.ensures.same fault
    (λ none. let down : ◌≡◌ (Err fault) (Err Down) = c.in_err-index.ensures.settles.down none in cc) c.in_err-index.ensures.settles.up (c.in_err-index.ensures.refused honest))

pub check_files-requires-clause-there : goal.check_files-requires-clause-there
check_files-requires-clause-there g c = λ honest.
    paths_there (g.W.WorkTree.content c.args.work.now) _ c.args.own.now (map word_bytes c.args.words.now) c.in_ok-paths.paths.items _ c.in_ok-paths.ensures.untouched.0 c.deref.ensures.value (c.in_ok-paths.ensures.named honest)

pub returns-in_err-check_files-clause-refused : goal.returns-in_err-check_files-clause-refused
returns-in_err-check_files-clause-refused g c = λ work_honest honest.
    let content = g.F.Files.content in
    let trees = g.W.WorkTree.content in
    let work = trees c.args.work.now in
    let words = map word_bytes c.args.words.now in
    let old = content c.args.node.now.files in
    let failure = c.in_err-check_files.field-0.0 in
    let up : c.args.node.now.is_up ≡ true = was_up c.args.node.now.is_up c.in_ok-index.index Down c.in_ok-index.ensures.settles.down in
    let after : c.index.new.self.is_up ≡ true = c.in_ok-index.ensures.settles.up up in
    let files : files_at (trees c.paths_named.new.work) c.mode.result c.deref.result.now ≡ files_named work c.args.own.now (mode_of c.args.mode) words =
    files_same work _ c.args.own.now (mode_of c.args.mode) _ words c.in_ok-paths.paths.items _ c.in_ok-paths.ensures.untouched.0 c.mode.ensures.value c.deref.ensures.value (c.in_ok-paths.ensures.named work_honest) in
    handed_on (RefusesAdd work c.args.own.now (mode_of c.args.mode) words c.args.node.now.is_up c.index.new.self.is_up old (content c.index.new.self.files)) failure c.from_residual-in_err-check_files.result (search rules)
    (files_refused work c.args.own.now (mode_of c.args.mode) words c.args.node.now.is_up c.index.new.self.is_up old (content c.index.new.self.files) c.in_ok-index.ensures.same up after (c.in_ok-paths.ensures.names work_honest) failure c.in_ok-index.index
    (c.in_ok-index.ensures.spelled honest) (λ n spells. sym (c.in_ok-index.ensures.again honest n spells)) (subst (λ (fs : List File). RefusesFiles c.in_ok-index.index fs failure) files (c.in_err-check_files.ensures.refused work_honest)))

pub store_files-requires-clause-there : goal.store_files-requires-clause-there
store_files-requires-clause-there g c = λ honest.
    paths_there (g.W.WorkTree.content c.args.work.now) _ c.args.own.now (map word_bytes c.args.words.now) c.in_ok-paths.paths.items _ (c.in_ok-check_files.ensures.untouched.0 ∙ c.in_ok-paths.ensures.untouched.0) c.deref-2.ensures.value
    (c.in_ok-paths.ensures.named honest)

pub returns-in_err-stage_all-clause-refused : goal.returns-in_err-stage_all-clause-refused
returns-in_err-stage_all-clause-refused g c = λ work_honest honest.
    let content = g.F.Files.content in
    let trees = g.W.WorkTree.content in
    let work = trees c.args.work.now in
    let words = map word_bytes c.args.words.now in
    let old = content c.args.node.now.files in
    let between = content c.store_files.new.node.files in
    let fault = c.in_err-stage_all.field-0.0 in
    let m = c.in_ok-index.index in
    let named = c.in_ok-paths.ensures.named work_honest in
    let files = files_named work c.args.own.now (mode_of c.args.mode) words in
    let checked : files_at (trees c.paths_named.new.work) c.mode.result c.deref.result.now ≡ files =
    files_same work _ c.args.own.now (mode_of c.args.mode) _ words c.in_ok-paths.paths.items _ c.in_ok-paths.ensures.untouched.0 c.mode.ensures.value c.deref.ensures.value named in
    let stored : files_at (trees c.check_files.new.work) c.mode-2.result c.deref-2.result.now ≡ files =
    files_same work _ c.args.own.now (mode_of c.args.mode) _ words c.in_ok-paths.paths.items _ (c.in_ok-check_files.ensures.untouched.0 ∙ c.in_ok-paths.ensures.untouched.0) c.mode-2.ensures.value c.deref-2.ensures.value named in
    let are : AreNamed c.in_ok-staged.staged.items files = subst (AreNamed c.in_ok-staged.staged.items) stored (c.in_ok-staged.ensures.named work_honest) in
    let may : MayStandAll m (map file_placed files) = subst (λ (fs : List File). MayStandAll m (map file_placed fs)) checked (c.in_ok-check_files.ensures.may work_honest) in
    let blobs = subst (λ (x : FileMap). StoresBlobs (files_at (trees c.check_files.new.work) c.mode-2.result c.deref-2.result.now) x between) c.in_ok-index.ensures.same (c.in_ok-staged.ensures.stored work_honest honest).blobs in
    let spells : SpellsIndex between m = still_spelled old between m blobs.outside (c.in_ok-index.ensures.spelled honest) in
    let blames : BlamesStaging m (map placed c.in_ok-staged.staged.items) fault =
    subst (λ (ts : List Staged). BlamesStaging m (map placed ts) fault) c.deref-3.ensures.value (c.in_err-stage_all.ensures.refused honest c.in_ok-staged.ensures.up m spells) in
    handed_on (RefusesAdd work c.args.own.now (mode_of c.args.mode) words c.args.node.now.is_up c.stage_all.new.self.is_up old (content c.stage_all.new.self.files)) (Node fault) c.from_residual-in_err-stage_all.result c.from_residual-in_err-stage_all.ensures.1
    (staging_refused work c.args.own.now (mode_of c.args.mode) words c.args.node.now.is_up c.stage_all.new.self.is_up old between (content c.stage_all.new.self.files) (c.in_err-stage_all.ensures.kept honest).err m c.in_ok-staged.staged.items files fault refl (subst (λ (fs : List File). StoresBlobs fs old between) stored blobs) are may blames)

pub returns-clause-added : goal.returns-clause-added
returns-clause-added g c = λ work_honest honest.
    let content = g.F.Files.content in
    let trees = g.W.WorkTree.content in
    let work = trees c.args.work.now in
    let words = map word_bytes c.args.words.now in
    let old = content c.args.node.now.files in
    let named = c.in_ok-paths.ensures.named work_honest in
    let checked : files_at (trees c.paths_named.new.work) c.mode.result c.deref.result.now ≡ files_named work c.args.own.now (mode_of c.args.mode) words =
    files_same work _ c.args.own.now (mode_of c.args.mode) _ words c.in_ok-paths.paths.items _ c.in_ok-paths.ensures.untouched.0 c.mode.ensures.value c.deref.ensures.value named in
    let stored : files_at (trees c.check_files.new.work) c.mode-2.result c.deref-2.result.now ≡ files_named work c.args.own.now (mode_of c.args.mode) words =
    files_same work _ c.args.own.now (mode_of c.args.mode) _ words c.in_ok-paths.paths.items _ (c.in_ok-check_files.ensures.untouched.0 ∙ c.in_ok-paths.ensures.untouched.0) c.mode-2.ensures.value c.deref-2.ensures.value named in
    let blobs : AreBlobs (files_at (trees c.check_files.new.work) c.mode-2.result c.deref-2.result.now) = subst AreBlobs (checked ∙ sym stored) (c.in_ok-check_files.ensures.blobs work_honest) in
    let up : c.args.node.now.is_up ≡ true = was_up c.args.node.now.is_up c.in_ok-index.index Down c.in_ok-index.ensures.settles.down in
    let after : c.index.new.self.is_up ≡ c.args.node.now.is_up = c.in_ok-index.ensures.settles.up up ∙ sym up in
    let stores = subst (λ (x : FileMap). StoresFiles (files_at (trees c.check_files.new.work) c.mode-2.result c.deref-2.result.now) c.args.node.now.is_up c.store_files.new.node.is_up x (content c.store_files.new.node.files)) c.in_ok-index.ensures.same
    (subst (λ (u : Bool). StoresFiles (files_at (trees c.check_files.new.work) c.mode-2.result c.deref-2.result.now) u c.store_files.new.node.is_up (content c.index.new.self.files) (content c.store_files.new.node.files)) after (c.in_ok-staged.ensures.stored work_honest honest)) in
    adds_files work c.args.own.now (mode_of c.args.mode) words c.args.node.now.is_up c.store_files.new.node.is_up c.stage_all.new.self.is_up old (content c.store_files.new.node.files) (content c.stage_all.new.self.files) c.in_ok-staged.staged.items _ stored
    (c.in_ok-paths.ensures.names work_honest) (c.in_ok-staged.ensures.named work_honest) blobs stores
    (subst (λ (ts : List Staged). StagesShown ts (Did Stored) c.store_files.new.node.is_up c.stage_all.new.self.is_up (shown (content c.store_files.new.node.files)) (shown (content c.stage_all.new.self.files))) c.deref-3.ensures.value (c.in_ok-stage_all.ensures.answers honest).any)
    (record { objects = (c.in_ok-stage_all.ensures.kept honest).objects; clean = (c.in_ok-stage_all.ensures.kept honest).clean })

-- ---- its devices

pub returns-in_err-paths-clause-wear : goal.returns-in_err-paths-clause-wear
returns-in_err-paths-clause-wear g c = either_told (of_work c.in_err-paths.ensures.wear) (search rules) (search rules)

pub returns-in_err-index-clause-wear : goal.returns-in_err-index-clause-wear
returns-in_err-index-clause-wear g c = either_both (of_work c.in_ok-paths.ensures.wear) (search rules) (either_told (of_files (wears_writes c.in_err-index.ensures.wear (search rules))) (search rules) (search rules))

pub returns-in_err-check_files-clause-wear : goal.returns-in_err-check_files-clause-wear
returns-in_err-check_files-clause-wear g c =
    either_both (of_work c.in_ok-paths.ensures.wear) (search rules)
    (either_both (of_files (wears_writes c.in_ok-index.ensures.wear (search rules))) (search rules)
    (either_told (of_work c.in_err-check_files.ensures.wear) (search rules) (search rules)))

pub returns-in_err-staged-clause-wear : goal.returns-in_err-staged-clause-wear
returns-in_err-staged-clause-wear g c =
    either_both (of_work c.in_ok-paths.ensures.wear) (search rules)
    (either_both (of_files (wears_writes c.in_ok-index.ensures.wear (search rules))) (search rules)
    (either_both (of_work c.in_ok-check_files.ensures.wear) (search rules)
    (either_told c.in_err-staged.ensures.wear (search rules) (search rules))))

pub returns-in_err-stage_all-clause-wear : goal.returns-in_err-stage_all-clause-wear
returns-in_err-stage_all-clause-wear g c =
    either_both (of_work c.in_ok-paths.ensures.wear) (search rules)
    (either_both (of_files (wears_writes c.in_ok-index.ensures.wear (search rules))) (search rules)
    (either_both (of_work c.in_ok-check_files.ensures.wear) (search rules)
    (either_both c.in_ok-staged.ensures.wear (search rules)
    (either_told (of_files c.in_err-stage_all.ensures.wear) (search rules) (search rules)))))

pub returns-clause-wear : goal.returns-clause-wear
returns-clause-wear g c =
    either_both (of_work c.in_ok-paths.ensures.wear) (search rules)
    (either_both (of_files (wears_writes c.in_ok-index.ensures.wear (search rules))) (search rules)
    (either_both (of_work c.in_ok-check_files.ensures.wear) (search rules)
    (either_both c.in_ok-staged.ensures.wear (search rules)
    (either_told (of_files c.in_ok-stage_all.ensures.wear) (search rules) (search rules)))))
