use Rattle.std.proofs.Common.{rules, ◌≡◌, ◌≢◌, ◌⊎◌, ap, ◌∙◌, subst, inl, inr, Option, List, ℕ}
use Rattle.std.specs.FinMap as files
use Rattle.std.specs.Prelude.{option_map}
use Rattle.vc_object.specs.declared.mode.Mode.TheVariants as modes
use Rattle.vc_object_map.specs.Store.{objects}
use Rattle.vc_index.specs.declared.faults.IndexFault.{IndexFault}
use Rattle.vc_checkout.specs.Blobs.{BlamesBlob}
use Rattle.vc_checkout.specs.CheckedOut.{file_of}
use Rattle.vc_checkout.specs.CheckoutFault.{IsFault}
use Rattle.vc_checkout.specs.declared.faults.CheckoutFault.{CheckoutFault}
use Rattle.vc_checkout.specs.declared.faults.CheckoutFault.TheVariants.{Index}
use Rattle.vc_checkout.proofs.ApplyLemmas.{step_removed, step_put, file_commit, file_blob}
use Rattle.vc_checkout.proofs.BlobLemmas.{no_blame}
use Rattle.vc_work_tree.specs.Folders.{AreFolders, IsAtOrIn, IsFolder}
use Rattle.vc_checkout.proofs.LeavingLemmas.{kept_removed, keeps_same, moved_folders}
use Rattle.vc_checkout.proofs.MakingLemmas.{lost_between, put_between, put_file, put_folder, was_or_put}
use Rattle.vc_checkout.proofs.ClearLemmas.{if_err}
use Rattle.vc_checkout.proofs.apply.put_in.Goals as goal
use Rattle.vc_lemmas.proofs.Lists.{on_err}

pub returns-in_err-make_folder-clause-begun : goal.returns-in_err-make_folder-clause-begun
returns-in_err-make_folder-clause-begun g c = λ honest stored.
    let old = g.T.WorkTree.content c.args.work.now in
    let all = objects (g.F.Files.content c.args.files.now) in
    let text : c.in-Ok.text.now ≡ c.args.path.now = search rules in
    on_err _ _ (inr (step_removed (λ (_ after : Option (List ℕ)). after ≡ file_of all c.args.entry.mode c.args.entry.id) c.args.path.now old _
    (c.make_folder.ensures.same ∙ c.in_ok-remove.ensures.ok honest ∙ ap (files.remove old) text) (file_commit all c.args.entry.mode c.args.entry.id (search rules))))

pub returns-then-eq-clause-done : goal.returns-then-eq-clause-done
returns-then-eq-clause-done g c = λ honest stored.
    let old = g.T.WorkTree.content c.args.work.now in
    let all = objects (g.F.Files.content c.args.files.now) in
    let text : c.in-Ok.text.now ≡ c.args.path.now = search rules in
    step_removed (λ (_ after : Option (List ℕ)). after ≡ file_of all c.args.entry.mode c.args.entry.id) c.args.path.now old _
    (c.make_folder.ensures.same ∙ c.in_ok-remove.ensures.ok honest ∙ ap (files.remove old) text) (file_commit all c.args.entry.mode c.args.entry.id (search rules))

pub returns-in_err-body-clause-refused : goal.returns-in_err-body-clause-refused
returns-in_err-body-clause-refused g c =
    let other : c.args.entry.mode ≢ modes.Commit = search rules in
    if_err c.from_residual-in_err-body.result c.in_err-body.field-0.0 (λ (e : CheckoutFault). g.F.Files.honest → IsFault e) (search rules) (λ stored.
    let blob = c.requires.blob stored other in
    let e = c.in_err-body.field-0.0 in
    let told : IsFault e ⊎ ((cause : IndexFault) × (e ≡ Index cause) × BlamesBlob (g.F.Files.content c.args.files.now) c.args.path.now c.args.entry.id cause) = c.in_err-body.ensures.refused stored in
    elim told [
      | inl fault ↦ fault
      | inr at ↦ absurd (no_blame (g.F.Files.content c.args.files.now) c.args.path.now c.args.entry.id blob.0 at.0 blob.1 at.2)
    ])

pub returns-clause-done : goal.returns-clause-done
returns-clause-done g c = λ honest stored.
    let old = g.T.WorkTree.content c.args.work.now in
    let all = objects (g.F.Files.content c.args.files.now) in
    let text : c.in-Ok.text.now ≡ c.args.path.now = search rules in
    let bytes : c.deref.result.now ≡ c.in_ok-body.body.items = search rules in
    let other : c.args.entry.mode ≢ modes.Commit = search rules in
    step_put (λ (_ after : Option (List ℕ)). after ≡ file_of all c.args.entry.mode c.args.entry.id) c.args.path.now c.in_ok-body.body.items old _
    (c.in_ok-write.ensures.ok honest ∙ ap (λ p. files.insert old p c.deref.result.now) text ∙ ap (files.insert old c.args.path.now) bytes) (file_blob all c.args.entry.mode c.args.entry.id c.in_ok-body.body.items other (ap (option_map (λ object. object.body)) (c.in_ok-body.ensures.blob stored)))

pub returns-then-eq-clause-folders : goal.returns-then-eq-clause-folders
returns-then-eq-clause-folders g c = λ honest.
    let content = g.T.WorkTree.content in
    let folders = g.T.WorkTree.folders in
    let old = content c.args.work.now in
    let was = folders c.args.work.now in
    let path = c.args.path.now in
    let text : c.in-Ok.text.now ≡ path = search rules in
    let mid = content c.remove.new.self in
    let held = folders c.remove.new.self in
    let now = content c.make_folder.new.self in
    let new = folders c.make_folder.new.self in
    put_folder old now was new c.args.entry path mid held (search rules) (keeps_same mid now c.make_folder.ensures.same) (c.in_ok-remove.ensures.folders honest) (subst (λ (p : List ℕ). AreFolders now new (λ d. IsFolder mid held d ⊎ (d ≡ p))) text (c.in_ok-make_folder.ensures.folders honest))

pub returns-then-eq-clause-between : goal.returns-then-eq-clause-between
returns-then-eq-clause-between g c = λ honest.
    let content = g.T.WorkTree.content in
    let folders = g.T.WorkTree.folders in
    let old = content c.args.work.now in
    let was = folders c.args.work.now in
    let path = c.args.path.now in
    let text : c.in-Ok.text.now ≡ path = search rules in
    let mid = content c.remove.new.self in
    let held = folders c.remove.new.self in
    let now = content c.make_folder.new.self in
    let new = folders c.make_folder.new.self in
    put_between old now was new c.args.entry path (λ r some. inl (kept_removed old now path (c.make_folder.ensures.same ∙ c.in_ok-remove.ensures.ok honest ∙ ap (files.remove old) text) r some))
    (put_folder old now was new c.args.entry path mid held (search rules) (keeps_same mid now c.make_folder.ensures.same) (c.in_ok-remove.ensures.folders honest) (subst (λ (p : List ℕ). AreFolders now new (λ d. IsFolder mid held d ⊎ (d ≡ p))) text (c.in_ok-make_folder.ensures.folders honest)))

pub returns-in_err-make_folder-clause-between : goal.returns-in_err-make_folder-clause-between
returns-in_err-make_folder-clause-between g c = λ honest.
    let content = g.T.WorkTree.content in
    let folders = g.T.WorkTree.folders in
    let old = content c.args.work.now in
    let was = folders c.args.work.now in
    let path = c.args.path.now in
    let text : c.in-Ok.text.now ≡ path = search rules in
    let mid = content c.remove.new.self in
    let held = folders c.remove.new.self in
    let now = content c.make_folder.new.self in
    let new = folders c.make_folder.new.self in
    lost_between old now was new c.args.entry path (kept_removed old now path (c.make_folder.ensures.same ∙ c.in_ok-remove.ensures.ok honest ∙ ap (files.remove old) text))
    (moved_folders mid now held new c.make_folder.ensures.same (c.in_err-make_folder.ensures.err_folders honest) (IsFolder old was) (c.in_ok-remove.ensures.folders honest))

pub returns-clause-folders : goal.returns-clause-folders
returns-clause-folders g c = λ honest.
    let content = g.T.WorkTree.content in
    let folders = g.T.WorkTree.folders in
    let old = content c.args.work.now in
    let was = folders c.args.work.now in
    let path = c.args.path.now in
    let text : c.in-Ok.text.now ≡ path = search rules in
    let now = content c.write.new.self in
    let new = folders c.write.new.self in
    put_file old now was new c.args.entry path (search rules) (subst (λ (p : List ℕ). AreFolders now new (λ d. IsFolder old was d × (IsAtOrIn p d → ⊥))) text (c.in_ok-write.ensures.folders honest))

pub returns-clause-between : goal.returns-clause-between
returns-clause-between g c = λ honest.
    let content = g.T.WorkTree.content in
    let folders = g.T.WorkTree.folders in
    let old = content c.args.work.now in
    let was = folders c.args.work.now in
    let path = c.args.path.now in
    let text : c.in-Ok.text.now ≡ path = search rules in
    let now = content c.write.new.self in
    let new = folders c.write.new.self in
    put_between old now was new c.args.entry path (was_or_put old now path c.deref.result.now (c.in_ok-write.ensures.ok honest ∙ ap (λ p. files.insert old p c.deref.result.now) text))
    (put_file old now was new c.args.entry path (search rules) (subst (λ (p : List ℕ). AreFolders now new (λ d. IsFolder old was d × (IsAtOrIn p d → ⊥))) text (c.in_ok-write.ensures.folders honest)))
