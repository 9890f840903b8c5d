use Rattle.std.proofs.Common.{rules, ◌≡◌, ap, inl, inr, refl, sym, subst, ◌∙◌}
use Rattle.vc_object.specs.ObjectMap.{ObjectMap}
use Rattle.vc_object_map.specs.Store.{objects}
use Rattle.vc_checkout.specs.Blobs.{HasDueBlobs}
use Rattle.vc_checkout.specs.Steps.{Begins, Brings}
use Rattle.vc_checkout.specs.declared.faults.CheckoutFault.{CheckoutFault}
use Rattle.vc_cli.specs.Failure.{of_checkout, status_of}
use Rattle.vc_cli.specs.declared.failure.Failure.TheVariants.{Fault}
use Rattle.vc_cli.proofs.ToldLemmas.{handed_on}
use Rattle.vc_working.specs.Checkout.{StopsHalfway}
use Rattle.vc_working.proofs.BegunLemmas.{begun_same, objects_noted}
use Rattle.vc_working.proofs.DeviceLemmas.{either_both, either_told, of_either, of_files}
use Rattle.vc_working.proofs.mending.bring_noted.Goals as goal

pub bring-requires-clause-blobs : goal.bring-requires-clause-blobs
bring-requires-clause-blobs g c = λ honest.
    let content = g.F.Files.content in
    let old = content c.args.files.now in
    let mine : objects (content c.begin_from.new.files) ≡ objects old = ap objects (c.in_ok-begin_from.ensures.noted honest) ∙ objects_noted old c.args.is_cut c.args.start.now c.args.root.now in
    subst (λ (o : ObjectMap). HasDueBlobs o c.args.start.now c.args.tree.now) (sym mine) (c.requires.blobs honest)

pub returns-clause-brought : goal.returns-clause-brought
returns-clause-brought g c = λ work_honest honest.
    let content = g.F.Files.content in
    let old = content c.args.files.now in
    let mine : objects (content c.begin_from.new.files) ≡ objects old = ap objects (c.in_ok-begin_from.ensures.noted honest) ∙ objects_noted old c.args.is_cut c.args.start.now c.args.root.now in
    subst (λ (o : ObjectMap). Brings g.W.WorkTree.content g.W.WorkTree.folders o c.args.start.now c.args.tree.now c.args.work.now c.bring.new.work) mine (c.in_ok-bring.ensures.brought work_honest honest)

pub returns-in_err-begin_from-clause-stopped : goal.returns-in_err-begin_from-clause-stopped
returns-in_err-begin_from-clause-stopped g c = λ honest.
    let content = g.F.Files.content in
    let trees = g.W.WorkTree.content in
    let held = g.W.WorkTree.folders in
    let old = content c.args.files.now in
    let start = c.args.start.now in
    let was = c.args.work.now in
    handed_on (λ e. (status_of e ≡ 3) × StopsHalfway trees held g.W.WorkTree.left old (content c.begin_from.new.files) c.args.is_cut start c.args.root.now was was (g.W.WorkTree.honest → Begins trees held (objects old) start c.args.tree.now was was))
    (Fault c.in_err-begin_from.field-0.0) c.from_residual.result c.from_residual.ensures.1
    (refl, inl (((refl, refl), refl), c.in_err-begin_from.ensures.err honest))

pub returns-in_err-bring-clause-stopped : goal.returns-in_err-bring-clause-stopped
returns-in_err-bring-clause-stopped g c = λ honest.
    let content = g.F.Files.content in
    let trees = g.W.WorkTree.content in
    let held = g.W.WorkTree.folders in
    let old = content c.args.files.now in
    let start = c.args.start.now in
    let was = c.args.work.now in
    let now = c.bring.new.work in
    let cause = c.in_err-bring.field-0.0 in
    let brought : content c.bring.new.files ≡ content c.begin_from.new.files = c.in_err-bring.ensures.files in
    let mine : objects (content c.begin_from.new.files) ≡ objects old = ap objects (c.in_ok-begin_from.ensures.noted honest) ∙ objects_noted old c.args.is_cut start c.args.root.now in
    handed_on (λ e. (status_of e ≡ 3) × StopsHalfway trees held g.W.WorkTree.left old (content c.bring.new.files) c.args.is_cut start c.args.root.now was now (g.W.WorkTree.honest → Begins trees held (objects old) start c.args.tree.now was now))
    (of_checkout cause) c.from_residual-in_err-bring.result c.from_residual-in_err-bring.ensures.1 (
      ap (λ (x : CheckoutFault). status_of (of_checkout x)) (c.in_err-bring.ensures.refused honest).1,
      inr (
        brought ∙ c.in_ok-begin_from.ensures.noted honest,
        begun_same (content c.begin_from.new.files) (content c.bring.new.files) _ brought (c.in_ok-begin_from.ensures.says honest),
        λ work_honest. subst (λ (o : ObjectMap). Begins trees held o start c.args.tree.now was now) mine (c.in_err-bring.ensures.begun work_honest honest),
      ),
    )

pub returns-clause-says : goal.returns-clause-says
returns-clause-says g c = λ honest. begun_same (g.F.Files.content c.begin_from.new.files) (g.F.Files.content c.bring.new.files) _ c.in_ok-bring.ensures.files (c.in_ok-begin_from.ensures.says honest)

pub returns-in_err-begin_from-clause-wear : goal.returns-in_err-begin_from-clause-wear
returns-in_err-begin_from-clause-wear g c = either_told (of_files c.in_err-begin_from.ensures.wear) (search rules) (search rules)

pub returns-in_err-bring-clause-wear : goal.returns-in_err-bring-clause-wear
returns-in_err-bring-clause-wear g c =
    either_both (of_files c.in_ok-begin_from.ensures.wear) (search rules)
    (either_told (of_either c.in_err-bring.ensures.wear (search rules)) (search rules) (search rules))

pub returns-clause-wear : goal.returns-clause-wear
returns-clause-wear g c =
    either_both (of_files c.in_ok-begin_from.ensures.wear) (search rules)
    (either_told (of_either c.in_ok-bring.ensures.wear (search rules)) (search rules) (search rules))
