use Rattle.std.proofs.Common.{rules, ◌≡◌, ◌≢◌, sym, ap, ◌∙◌, subst, inr, Option, List, ℕ}
use Rattle.std.specs.FinMap as files
use Rattle.std.specs.FinMap.{get}
use Rattle.vc_files.specs.FileMap.{FileMap}
use Rattle.std.specs.Prelude.{IsSome, IsUtf8}
use Rattle.vc_index.specs.Path.{IsAbove}
use Rattle.vc_checkout.specs.CheckedOut.{StepAt, left_of}
use Rattle.vc_work_tree.specs.Folders.{AreFolders, IsFolder}
use Rattle.vc_checkout.specs.FoldersAfter.{AreBetween}
use Rattle.vc_checkout.proofs.ApplyLemmas.{step_same, step_removed, left_commit, left_other}
use Rattle.vc_checkout.proofs.LeavingLemmas.{between_same, kept_removed, kept_same, keeps_same, out_between, out_file, out_folder, out_nothing}
use Rattle.vc_checkout.proofs.apply.take_out.Goals.{then-eq+in_ok-remove_folder, else-eq+in_ok-remove}
use Rattle.vc_checkout.proofs.apply.take_out.Goals as goal
use Rattle.vc_lemmas.proofs.Lists.{on_err}

pub returns-in_err-remove_empty_above-clause-begun : goal.returns-in_err-remove_empty_above-clause-begun
returns-in_err-remove_empty_above-clause-begun g c = λ honest.
    let content = g.T.WorkTree.content in
    let old = content c.args.work.now in
    let path = c.args.path.now in
    let R = λ (file after : Option (List ℕ)). after ≡ left_of c.args.entry.mode file in
    let text : c.in-Ok.text.now ≡ path = search rules in
    let step : StepAt R path old (content c.if-eq.work) = elim c.if-eq.branch [
      | then-eq+in_ok-remove_folder w ↦ step_same R path old _ (ap content w.work-is ∙ w.in_ok-remove_folder.ensures.same) (left_commit c.args.entry.mode (get old path) (search rules))
      | else-eq+in_ok-remove w ↦ step_removed R path old _ (ap content w.work-is ∙ w.in_ok-remove.ensures.ok honest ∙ ap (files.remove old) text) (sym (left_other c.args.entry.mode (get old path) (search rules)))
    ] in
    on_err _ _ (inr (subst (λ (n : FileMap). StepAt R path old n) (sym c.remove_empty_above.ensures.same) step))

pub returns-clause-done : goal.returns-clause-done
returns-clause-done g c = λ honest.
    let content = g.T.WorkTree.content in
    let old = content c.args.work.now in
    let path = c.args.path.now in
    let R = λ (file after : Option (List ℕ)). after ≡ left_of c.args.entry.mode file in
    let text : c.in-Ok.text.now ≡ path = search rules in
    let step : StepAt R path old (content c.if-eq.work) = elim c.if-eq.branch [
      | then-eq+in_ok-remove_folder w ↦ step_same R path old _ (ap content w.work-is ∙ w.in_ok-remove_folder.ensures.same) (left_commit c.args.entry.mode (get old path) (search rules))
      | else-eq+in_ok-remove w ↦ step_removed R path old _ (ap content w.work-is ∙ w.in_ok-remove.ensures.ok honest ∙ ap (files.remove old) text) (sym (left_other c.args.entry.mode (get old path) (search rules)))
    ] in
    subst (λ (n : FileMap). StepAt R path old n) (sym c.remove_empty_above.ensures.same) step

pub returns-in_default-clause-folders : goal.returns-in_default-clause-folders
returns-in_default-clause-folders g c = λ honest.
    out_nothing (g.T.WorkTree.content c.args.work.now) (g.T.WorkTree.folders c.args.work.now) c.args.entry c.args.path.now (search rules)

pub returns-in_err-remove_folder-clause-between : goal.returns-in_err-remove_folder-clause-between
returns-in_err-remove_folder-clause-between g c = λ honest.
    between_same (g.T.WorkTree.content c.args.work.now) _ (g.T.WorkTree.folders c.args.work.now) _ _ c.in_err-remove_folder.ensures.same (c.in_err-remove_folder.ensures.err_folders honest) (λ d is. is.0)

pub returns-in_err-remove-clause-between : goal.returns-in_err-remove-clause-between
returns-in_err-remove-clause-between g c = λ honest.
    between_same (g.T.WorkTree.content c.args.work.now) _ (g.T.WorkTree.folders c.args.work.now) _ _ (c.in_err-remove.ensures.err honest) (c.in_err-remove.ensures.err_folders honest) (λ d is. is.0)

pub returns-in_err-remove_empty_above-clause-between : goal.returns-in_err-remove_empty_above-clause-between
returns-in_err-remove_empty_above-clause-between g c = λ honest.
    let content = g.T.WorkTree.content in
    let folders = g.T.WorkTree.folders in
    let old = content c.args.work.now in
    let was = folders c.args.work.now in
    let path = c.args.path.now in
    let text : c.in-Ok.text.now ≡ path = search rules in
    let utf8 : IsUtf8 path = search rules in
    let mid = content c.if-eq.work in
    let held = folders c.if-eq.work in
    let now = content c.remove_empty_above.new.work in
    let new = folders c.remove_empty_above.new.work in
    let second : AreBetween now new (λ d. IsFolder mid held d × (IsAbove d path → ⊥)) (IsFolder mid held) = subst (λ (p : List ℕ). AreBetween now new (λ d. IsFolder mid held d × (IsAbove d p → ⊥)) (IsFolder mid held)) text (c.remove_empty_above.ensures.between honest) in
    elim c.if-eq.branch [
      | then-eq+in_ok-remove_folder w ↦ out_between old mid now was held new c.args.entry path utf8 (λ d. IsFolder old was d × (d ≢ path)) (λ d is. (is.0, λ same. is.1 (utf8, inr (same, search rules)))) (λ d is. is.0)
          (kept_same old mid (ap content w.work-is ∙ w.in_ok-remove_folder.ensures.same)) (subst (λ (t : g.row.T.Denot). AreFolders (content t) (folders t) (λ d. IsFolder old was d × (d ≢ path))) (sym w.work-is) (subst (λ (p : List ℕ). AreFolders (content w.remove_folder.new.self) (folders w.remove_folder.new.self) (λ d. IsFolder old was d × (d ≢ p))) text (w.in_ok-remove_folder.ensures.folders honest))) second
      | else-eq+in_ok-remove w ↦ out_between old mid now was held new c.args.entry path utf8 (IsFolder old was) (λ d is. is.0) (λ d is. is)
          (kept_removed old mid path (ap content w.work-is ∙ w.in_ok-remove.ensures.ok honest ∙ ap (files.remove old) text)) (subst (λ (t : g.row.T.Denot). AreFolders (content t) (folders t) (IsFolder old was)) (sym w.work-is) (w.in_ok-remove.ensures.folders honest)) second
    ]

pub returns-clause-folders : goal.returns-clause-folders
returns-clause-folders g c = λ honest.
    let content = g.T.WorkTree.content in
    let folders = g.T.WorkTree.folders in
    let old = content c.args.work.now in
    let was = folders c.args.work.now in
    let path = c.args.path.now in
    let text : c.in-Ok.text.now ≡ path = search rules in
    let utf8 : IsUtf8 path = search rules in
    let mid = content c.if-eq.work in
    let held = folders c.if-eq.work in
    let now = content c.remove_empty_above.new.work in
    let new = folders c.remove_empty_above.new.work in
    let up : (q : List ℕ) → IsSome (get mid q) → IsSome (get now q) = keeps_same mid now c.remove_empty_above.ensures.same in
    let second : AreFolders now new (λ d. IsFolder mid held d × (IsAbove d path → ⊥)) = subst (λ (p : List ℕ). AreFolders now new (λ d. IsFolder mid held d × (IsAbove d p → ⊥))) text (c.in_ok-remove_empty_above.ensures.folders honest) in
    elim c.if-eq.branch [
      | then-eq+in_ok-remove_folder w ↦ out_folder old mid now was held new c.args.entry path utf8 (search rules) up (subst (λ (t : g.row.T.Denot). AreFolders (content t) (folders t) (λ d. IsFolder old was d × (d ≢ path))) (sym w.work-is) (subst (λ (p : List ℕ). AreFolders (content w.remove_folder.new.self) (folders w.remove_folder.new.self) (λ d. IsFolder old was d × (d ≢ p))) text (w.in_ok-remove_folder.ensures.folders honest))) second
      | else-eq+in_ok-remove w ↦ out_file old mid now was held new c.args.entry path utf8 (search rules) up (subst (λ (t : g.row.T.Denot). AreFolders (content t) (folders t) (IsFolder old was)) (sym w.work-is) (w.in_ok-remove.ensures.folders honest)) second
    ]

pub returns-clause-between : goal.returns-clause-between
returns-clause-between g c = λ honest.
    let content = g.T.WorkTree.content in
    let folders = g.T.WorkTree.folders in
    let old = content c.args.work.now in
    let was = folders c.args.work.now in
    let path = c.args.path.now in
    let text : c.in-Ok.text.now ≡ path = search rules in
    let utf8 : IsUtf8 path = search rules in
    let mid = content c.if-eq.work in
    let held = folders c.if-eq.work in
    let now = content c.remove_empty_above.new.work in
    let new = folders c.remove_empty_above.new.work in
    let second : AreBetween now new (λ d. IsFolder mid held d × (IsAbove d path → ⊥)) (IsFolder mid held) = subst (λ (p : List ℕ). AreBetween now new (λ d. IsFolder mid held d × (IsAbove d p → ⊥)) (IsFolder mid held)) text (c.remove_empty_above.ensures.between honest) in
    elim c.if-eq.branch [
      | then-eq+in_ok-remove_folder w ↦ out_between old mid now was held new c.args.entry path utf8 (λ d. IsFolder old was d × (d ≢ path)) (λ d is. (is.0, λ same. is.1 (utf8, inr (same, search rules)))) (λ d is. is.0)
          (kept_same old mid (ap content w.work-is ∙ w.in_ok-remove_folder.ensures.same)) (subst (λ (t : g.row.T.Denot). AreFolders (content t) (folders t) (λ d. IsFolder old was d × (d ≢ path))) (sym w.work-is) (subst (λ (p : List ℕ). AreFolders (content w.remove_folder.new.self) (folders w.remove_folder.new.self) (λ d. IsFolder old was d × (d ≢ p))) text (w.in_ok-remove_folder.ensures.folders honest))) second
      | else-eq+in_ok-remove w ↦ out_between old mid now was held new c.args.entry path utf8 (IsFolder old was) (λ d is. is.0) (λ d is. is)
          (kept_removed old mid path (ap content w.work-is ∙ w.in_ok-remove.ensures.ok honest ∙ ap (files.remove old) text)) (subst (λ (t : g.row.T.Denot). AreFolders (content t) (folders t) (IsFolder old was)) (sym w.work-is) (w.in_ok-remove.ensures.folders honest)) second
    ]
