use Rattle.std.proofs.Common.{rules, ◌≡◌, ℕ, List, Some, refl, ap, subst, sym, ◌∙◌, inl, inr}
use Rattle.std.specs.FinMap.{insert}
use Rattle.std.specs.Prelude.{codes}
use Rattle.vc_index.specs.IndexText.{index_text}
use Rattle.vc_files.specs.FileMap.{FileMap}
use Rattle.vc_files.proofs.WearLemmas.{wears_writes}
use Rattle.vc_object_map.specs.Store.{objects}
use Rattle.vc_checkout.specs.Blobs.{HasDueBlobs}
use Rattle.vc_checkout.specs.Refusal.{IsClear}
use Rattle.vc_checkout.specs.Steps.{Brings, BringsPart}
use Rattle.vc_checkout.proofs.BringLemmas.{begun_behind, brought_behind}
use Rattle.vc_local.specs.Shown.{shown}
use Rattle.vc_cli.specs.declared.failure.Failure.TheVariants.{Fault, Refs}
use Rattle.vc_cli.proofs.ToldLemmas.{handed_on}
use Rattle.vc_working.specs.Begun.{begun_in}
use Rattle.vc_working.specs.Checkout.{LeavesOrFails, RefusesCheckout, noted}
use Rattle.vc_working.specs.Checkout.RefusesCheckout.{of_fault, of_look}
use Rattle.vc_working.proofs.BegunLemmas.{begun_head, begun_index, begun_none, begun_same, shown_brought, shown_done, shown_headed}
use Rattle.vc_working.proofs.CheckoutLemmas.{refs_status, refused_start}
use Rattle.vc_working.proofs.DeviceLemmas.{either_both, either_told, of_either, of_files, unstopped_either}
use Rattle.vc_working.proofs.MendingLemmas.{is_allowed, left_noted, may_honest, may_same, starts_honest, starts_same, stops_from}
use Rattle.vc_working.proofs.checkout.check_out.Goals as goal

pub bring_noted-requires-clause-clear : goal.bring_noted-requires-clause-clear
bring_noted-requires-clause-clear g c = λ work_honest. subst (λ (w : FileMap). (path : List ℕ) → IsClear c.in_ok-is_cut.start c.in_ok-index.tree w path) (sym c.in_ok-is_cut.ensures.unwritten.0.0) (c.in_ok-is_cut.ensures.clear work_honest)

pub bring_noted-requires-clause-blobs : goal.bring_noted-requires-clause-blobs
bring_noted-requires-clause-blobs g c = λ honest. subst (λ (f : FileMap). HasDueBlobs (objects f) c.in_ok-is_cut.start c.in_ok-index.tree) (sym c.in_ok-is_cut.ensures.same) (c.in_ok-is_cut.ensures.may honest).blobs

pub returns-clause-done : goal.returns-clause-done
returns-clause-done g c = λ work_honest honest.
    let content = g.F.Files.content in
    let trees = g.W.WorkTree.content in
    let held = g.W.WorkTree.folders in
    let can_hold = g.W.WorkTree.can_hold c.args.work.now in
    let old = content c.args.files.now in
    let work = trees c.args.work.now in
    let aim = c.in_ok-index.aim in
    let root = c.in_ok-index.root in
    let tree = c.in_ok-index.tree in
    let is_cut = c.in_ok-is_cut.is_cut in
    let start = c.in_ok-is_cut.start in
    let looked : content c.look.new.files ≡ old = c.in_ok-index.ensures.same in
    let ready : content c.ready.new.files ≡ old = c.in_ok-is_cut.ensures.same ∙ looked in
    let written : content c.write_index.new.files ≡ insert (noted old is_cut start root) (codes "index") (index_text tree) = c.in_ok-write_index.ensures.written honest ∙ ap (λ (m : FileMap). insert m (codes "index") (index_text tree)) (c.in_ok-bring_noted.ensures.noted honest ∙ ap (λ (m : FileMap). noted m is_cut start root) ready) in
    record {
      index = c.in_ok-index.index;
      head = aim;
      root = root;
      tree = tree;
      before = c.in_ok-index.ensures.may honest;
      is_cut = is_cut;
      start = start;
      starts = starts_honest g.W.WorkTree.honest old work root c.in_ok-index.index is_cut start work_honest (starts_same g.W.WorkTree.honest old (content c.look.new.files) work root c.in_ok-index.index is_cut start looked (c.in_ok-is_cut.ensures.starts honest));
      may = may_honest g.W.WorkTree.honest can_hold old work start tree work_honest (may_same g.W.WorkTree.honest can_hold old (content c.look.new.files) work start tree looked (c.in_ok-is_cut.ensures.may honest));
      brought = brought_behind trees held g.W.WorkTree.left g.W.WorkTree.can_hold start tree c.args.work.now c.ready.new.work c.in_ok-is_cut.ensures.unwritten (objects old) (objects (content c.ready.new.files)) c.bring_noted.new.work (ap objects ready) (c.in_ok-bring_noted.ensures.brought work_honest honest);
      sound = c.in_ok-write_index.ensures.index;
      shows = shown_done (content c.set_head.new.files) (content c.end.new.files) _ (c.in_ok-end.ensures.gone honest)
          (shown_headed old (content c.write_index.new.files) (content c.set_head.new.files) aim (index_text tree) (shown_brought old (content c.write_index.new.files) is_cut start root (index_text tree) written)
          (c.in_ok-set_head.ensures.sets.only honest) (c.in_ok-set_head.ensures.sets.refs honest) (c.in_ok-set_head.ensures.sets.set honest));
      ended = begun_none (content c.set_head.new.files) (content c.end.new.files) (c.in_ok-end.ensures.gone honest);
    }

-- ---- why it is refused

pub returns-in_err-index-clause-refused : goal.returns-in_err-index-clause-refused
returns-in_err-index-clause-refused g c = λ honest.
    handed_on (RefusesCheckout g.W.WorkTree.honest (g.W.WorkTree.can_hold c.args.work.now) c.args.own.now c.args.revision.now (g.F.Files.content c.args.files.now) (g.W.WorkTree.content c.args.work.now)) c.in_err-index.field-0.0 c.from_residual.result c.from_residual.ensures.1
    (of_look (c.in_err-index.ensures.refused honest))

pub returns-in_err-is_cut-clause-refused : goal.returns-in_err-is_cut-clause-refused
returns-in_err-is_cut-clause-refused g c = λ honest.
    let old = g.F.Files.content c.args.files.now in
    let work = g.W.WorkTree.content c.args.work.now in
    let can_hold = g.W.WorkTree.can_hold c.args.work.now in
    let e = c.in_err-is_cut.field-0.0 in
    handed_on (RefusesCheckout g.W.WorkTree.honest can_hold c.args.own.now c.args.revision.now old work) e c.from_residual-in_err-is_cut.result c.from_residual-in_err-is_cut.ensures.1
    (refused_start g.W.WorkTree.honest can_hold c.args.own.now c.args.revision.now old (g.F.Files.content c.look.new.files) work c.in_ok-index.index c.in_ok-index.tree c.in_ok-index.root c.in_ok-index.aim e
    (c.in_ok-index.ensures.may honest) c.in_ok-index.ensures.same (c.in_err-is_cut.ensures.refused honest))

pub returns-in_err-bring_noted-clause-refused : goal.returns-in_err-bring_noted-clause-refused
returns-in_err-bring_noted-clause-refused g c = λ honest.
    handed_on (RefusesCheckout g.W.WorkTree.honest (g.W.WorkTree.can_hold c.args.work.now) c.args.own.now c.args.revision.now (g.F.Files.content c.args.files.now) (g.W.WorkTree.content c.args.work.now)) c.in_err-bring_noted.field-0.0 c.from_residual-in_err-bring_noted.result c.from_residual-in_err-bring_noted.ensures.1
    (of_fault (c.in_err-bring_noted.ensures.stopped honest).0)

pub returns-in_err-set_head-clause-refused : goal.returns-in_err-set_head-clause-refused
returns-in_err-set_head-clause-refused g c = λ honest.
    handed_on (RefusesCheckout g.W.WorkTree.honest (g.W.WorkTree.can_hold c.args.work.now) c.args.own.now c.args.revision.now (g.F.Files.content c.args.files.now) (g.W.WorkTree.content c.args.work.now)) (Refs c.in_err-set_head.field-0.0) c.from_residual-in_err-set_head.result c.from_residual-in_err-set_head.ensures.1
    (of_fault (refs_status c.in_err-set_head.field-0.0 c.in_err-set_head.ensures.refused))

-- ---- what an error leaves

pub returns-in_err-bring_noted-clause-begun : goal.returns-in_err-bring_noted-clause-begun
returns-in_err-bring_noted-clause-begun g c = λ honest.
    let content = g.F.Files.content in
    let trees = g.W.WorkTree.content in
    let held = g.W.WorkTree.folders in
    let left = g.W.WorkTree.left in
    let can_hold = g.W.WorkTree.can_hold in
    let old = content c.args.files.now in
    let was = c.args.work.now in
    let aim = c.in_ok-index.aim in
    let root = c.in_ok-index.root in
    let tree = c.in_ok-index.tree in
    let is_cut = c.in_ok-is_cut.is_cut in
    let start = c.in_ok-is_cut.start in
    let looked : content c.look.new.files ≡ old = c.in_ok-index.ensures.same in
    let ready : content c.ready.new.files ≡ old = c.in_ok-is_cut.ensures.same ∙ looked in
    let new = content c.bring_noted.new.files in
    let now = c.bring_noted.new.work in
    let e = c.in_err-bring_noted.field-0.0 in
    handed_on (LeavesOrFails g.W.WorkTree.honest trees held left can_hold c.args.own.now c.args.revision.now old new was now) e c.from_residual-in_err-bring_noted.result c.from_residual-in_err-bring_noted.ensures.1
    (left_noted g.W.WorkTree.honest trees held left can_hold c.args.own.now c.args.revision.now old (content c.look.new.files) new c.in_ok-index.index aim root tree is_cut start was now e (c.in_err-bring_noted.ensures.stopped honest).0 looked
    (c.in_ok-index.ensures.may honest) (c.in_ok-is_cut.ensures.starts honest) (c.in_ok-is_cut.ensures.may honest)
    (inl (stops_from trees held left old (content c.ready.new.files) new is_cut start root was c.ready.new.work now _ (g.W.WorkTree.honest → BringsPart trees held left can_hold (objects old) start tree was now) ready c.in_ok-is_cut.ensures.unwritten
    (λ begins work_honest. begun_behind trees held left can_hold start tree was c.ready.new.work c.in_ok-is_cut.ensures.unwritten (objects old) (objects (content c.ready.new.files)) now (ap objects ready) (begins work_honest) (is_allowed g.W.WorkTree.honest (can_hold was) old (content c.look.new.files) (trees was) start tree work_honest looked (c.in_ok-is_cut.ensures.may honest)))
    (c.in_err-bring_noted.ensures.stopped honest).1)))

pub returns-in_err-write_index-clause-begun : goal.returns-in_err-write_index-clause-begun
returns-in_err-write_index-clause-begun g c = λ honest.
    let content = g.F.Files.content in
    let trees = g.W.WorkTree.content in
    let held = g.W.WorkTree.folders in
    let left = g.W.WorkTree.left in
    let can_hold = g.W.WorkTree.can_hold in
    let old = content c.args.files.now in
    let was = c.args.work.now in
    let aim = c.in_ok-index.aim in
    let root = c.in_ok-index.root in
    let tree = c.in_ok-index.tree in
    let is_cut = c.in_ok-is_cut.is_cut in
    let start = c.in_ok-is_cut.start in
    let looked : content c.look.new.files ≡ old = c.in_ok-index.ensures.same in
    let ready : content c.ready.new.files ≡ old = c.in_ok-is_cut.ensures.same ∙ looked in
    let new = content c.write_index.new.files in
    let now = c.bring_noted.new.work in
    let brought : g.W.WorkTree.honest → Brings trees held (objects old) start tree was now = λ work_honest. brought_behind trees held left can_hold start tree was c.ready.new.work c.in_ok-is_cut.ensures.unwritten (objects old) (objects (content c.ready.new.files)) now (ap objects ready) (c.in_ok-bring_noted.ensures.brought work_honest honest) in
    let is_noted : content c.bring_noted.new.files ≡ noted old is_cut start root = c.in_ok-bring_noted.ensures.noted honest ∙ ap (λ (m : FileMap). noted m is_cut start root) ready in
    let kept : new ≡ content c.bring_noted.new.files = c.in_err-write_index.ensures.err honest in
    handed_on (LeavesOrFails g.W.WorkTree.honest trees held left can_hold c.args.own.now c.args.revision.now old new was now) (Fault c.in_err-write_index.field-0.0) c.from_residual-in_err-write_index.result c.from_residual-in_err-write_index.ensures.1
    (left_noted g.W.WorkTree.honest trees held left can_hold c.args.own.now c.args.revision.now old (content c.look.new.files) new c.in_ok-index.index aim root tree is_cut start was now (Fault c.in_err-write_index.field-0.0) refl looked
    (c.in_ok-index.ensures.may honest) (c.in_ok-is_cut.ensures.starts honest) (c.in_ok-is_cut.ensures.may honest)
    (inr (brought, begun_same (content c.bring_noted.new.files) new _ kept (c.in_ok-bring_noted.ensures.says honest), inl (kept ∙ is_noted))))

pub returns-in_err-set_head-clause-begun : goal.returns-in_err-set_head-clause-begun
returns-in_err-set_head-clause-begun g c = λ honest.
    let content = g.F.Files.content in
    let trees = g.W.WorkTree.content in
    let held = g.W.WorkTree.folders in
    let left = g.W.WorkTree.left in
    let can_hold = g.W.WorkTree.can_hold in
    let old = content c.args.files.now in
    let was = c.args.work.now in
    let aim = c.in_ok-index.aim in
    let root = c.in_ok-index.root in
    let tree = c.in_ok-index.tree in
    let is_cut = c.in_ok-is_cut.is_cut in
    let start = c.in_ok-is_cut.start in
    let looked : content c.look.new.files ≡ old = c.in_ok-index.ensures.same in
    let ready : content c.ready.new.files ≡ old = c.in_ok-is_cut.ensures.same ∙ looked in
    let new = content c.set_head.new.files in
    let now = c.bring_noted.new.work in
    let brought : g.W.WorkTree.honest → Brings trees held (objects old) start tree was now = λ work_honest. brought_behind trees held left can_hold start tree was c.ready.new.work c.in_ok-is_cut.ensures.unwritten (objects old) (objects (content c.ready.new.files)) now (ap objects ready) (c.in_ok-bring_noted.ensures.brought work_honest honest) in
    let is_noted : content c.bring_noted.new.files ≡ noted old is_cut start root = c.in_ok-bring_noted.ensures.noted honest ∙ ap (λ (m : FileMap). noted m is_cut start root) ready in
    let written : content c.write_index.new.files ≡ insert (noted old is_cut start root) (codes "index") (index_text tree) = c.in_ok-write_index.ensures.written honest ∙ ap (λ (m : FileMap). insert m (codes "index") (index_text tree)) is_noted in
    let says : begun_in (content c.write_index.new.files) ≡ Some root = begun_index (content c.bring_noted.new.files) (content c.write_index.new.files) (index_text tree) _ (c.in_ok-write_index.ensures.written honest) (c.in_ok-bring_noted.ensures.says honest) in
    let kept : new ≡ content c.write_index.new.files = c.in_err-set_head.ensures.sets.err honest in
    handed_on (LeavesOrFails g.W.WorkTree.honest trees held left can_hold c.args.own.now c.args.revision.now old new was now) (Refs c.in_err-set_head.field-0.0) c.from_residual-in_err-set_head.result c.from_residual-in_err-set_head.ensures.1
    (left_noted g.W.WorkTree.honest trees held left can_hold c.args.own.now c.args.revision.now old (content c.look.new.files) new c.in_ok-index.index aim root tree is_cut start was now (Refs c.in_err-set_head.field-0.0) (refs_status c.in_err-set_head.field-0.0 c.in_err-set_head.ensures.refused) looked
    (c.in_ok-index.ensures.may honest) (c.in_ok-is_cut.ensures.starts honest) (c.in_ok-is_cut.ensures.may honest)
    (inr (brought, begun_same (content c.write_index.new.files) new _ kept says, inr (inl (kept ∙ written)))))

pub returns-in_err-end-clause-begun : goal.returns-in_err-end-clause-begun
returns-in_err-end-clause-begun g c = λ honest.
    let content = g.F.Files.content in
    let trees = g.W.WorkTree.content in
    let held = g.W.WorkTree.folders in
    let left = g.W.WorkTree.left in
    let can_hold = g.W.WorkTree.can_hold in
    let old = content c.args.files.now in
    let was = c.args.work.now in
    let aim = c.in_ok-index.aim in
    let root = c.in_ok-index.root in
    let tree = c.in_ok-index.tree in
    let is_cut = c.in_ok-is_cut.is_cut in
    let start = c.in_ok-is_cut.start in
    let looked : content c.look.new.files ≡ old = c.in_ok-index.ensures.same in
    let ready : content c.ready.new.files ≡ old = c.in_ok-is_cut.ensures.same ∙ looked in
    let new = content c.end.new.files in
    let now = c.bring_noted.new.work in
    let brought : g.W.WorkTree.honest → Brings trees held (objects old) start tree was now = λ work_honest. brought_behind trees held left can_hold start tree was c.ready.new.work c.in_ok-is_cut.ensures.unwritten (objects old) (objects (content c.ready.new.files)) now (ap objects ready) (c.in_ok-bring_noted.ensures.brought work_honest honest) in
    let is_noted : content c.bring_noted.new.files ≡ noted old is_cut start root = c.in_ok-bring_noted.ensures.noted honest ∙ ap (λ (m : FileMap). noted m is_cut start root) ready in
    let written : content c.write_index.new.files ≡ insert (noted old is_cut start root) (codes "index") (index_text tree) = c.in_ok-write_index.ensures.written honest ∙ ap (λ (m : FileMap). insert m (codes "index") (index_text tree)) is_noted in
    let says : begun_in (content c.write_index.new.files) ≡ Some root = begun_index (content c.bring_noted.new.files) (content c.write_index.new.files) (index_text tree) _ (c.in_ok-write_index.ensures.written honest) (c.in_ok-bring_noted.ensures.says honest) in
    let kept : new ≡ content c.set_head.new.files = c.in_err-end.ensures.err honest in
    let headed = shown_headed old (content c.write_index.new.files) (content c.set_head.new.files) aim (index_text tree) (shown_brought old (content c.write_index.new.files) is_cut start root (index_text tree) written)
    (c.in_ok-set_head.ensures.sets.only honest) (c.in_ok-set_head.ensures.sets.refs honest) (c.in_ok-set_head.ensures.sets.set honest) in
    handed_on (LeavesOrFails g.W.WorkTree.honest trees held left can_hold c.args.own.now c.args.revision.now old new was now) (Fault c.in_err-end.field-0.0) c.from_residual-in_err-end.result c.from_residual-in_err-end.ensures.1
    (left_noted g.W.WorkTree.honest trees held left can_hold c.args.own.now c.args.revision.now old (content c.look.new.files) new c.in_ok-index.index aim root tree is_cut start was now (Fault c.in_err-end.field-0.0) refl looked
    (c.in_ok-index.ensures.may honest) (c.in_ok-is_cut.ensures.starts honest) (c.in_ok-is_cut.ensures.may honest)
    (inr (brought, begun_same (content c.set_head.new.files) new _ kept (begun_head (content c.write_index.new.files) (content c.set_head.new.files) _ (c.in_ok-set_head.ensures.sets.only honest) says), inr (inr (ap shown kept ∙ headed)))))

-- ---- its devices

pub returns-in_err-index-clause-wear : goal.returns-in_err-index-clause-wear
returns-in_err-index-clause-wear g c =
    either_told (of_files (wears_writes c.in_err-index.ensures.wear (search rules))) (search rules) (search rules)

pub returns-in_err-is_cut-clause-wear : goal.returns-in_err-is_cut-clause-wear
returns-in_err-is_cut-clause-wear g c =
    either_both (of_files (wears_writes c.in_ok-index.ensures.wear (search rules))) (search rules)
    (either_told (of_either (unstopped_either c.in_err-is_cut.ensures.wear) (search rules)) (search rules) (search rules))

pub returns-in_err-bring_noted-clause-wear : goal.returns-in_err-bring_noted-clause-wear
returns-in_err-bring_noted-clause-wear g c =
    either_both (of_files (wears_writes c.in_ok-index.ensures.wear (search rules))) (search rules)
    (either_both (of_either (unstopped_either c.in_ok-is_cut.ensures.wear) (search rules)) (search rules)
    (either_told (c.in_err-bring_noted.ensures.wear) (search rules) (search rules)))

pub returns-in_err-write_index-clause-wear : goal.returns-in_err-write_index-clause-wear
returns-in_err-write_index-clause-wear g c =
    either_both (of_files (wears_writes c.in_ok-index.ensures.wear (search rules))) (search rules)
    (either_both (of_either (unstopped_either c.in_ok-is_cut.ensures.wear) (search rules)) (search rules)
    (either_both (c.in_ok-bring_noted.ensures.wear) (search rules)
    (either_told (of_files c.in_err-write_index.ensures.wear) (search rules) (search rules))))

pub returns-in_err-set_head-clause-wear : goal.returns-in_err-set_head-clause-wear
returns-in_err-set_head-clause-wear g c =
    either_both (of_files (wears_writes c.in_ok-index.ensures.wear (search rules))) (search rules)
    (either_both (of_either (unstopped_either c.in_ok-is_cut.ensures.wear) (search rules)) (search rules)
    (either_both (c.in_ok-bring_noted.ensures.wear) (search rules)
    (either_both (of_files c.in_ok-write_index.ensures.wear) (search rules)
    (either_told (of_files c.in_err-set_head.ensures.wear) (search rules) (search rules)))))

pub returns-in_err-end-clause-wear : goal.returns-in_err-end-clause-wear
returns-in_err-end-clause-wear g c =
    either_both (of_files (wears_writes c.in_ok-index.ensures.wear (search rules))) (search rules)
    (either_both (of_either (unstopped_either c.in_ok-is_cut.ensures.wear) (search rules)) (search rules)
    (either_both (c.in_ok-bring_noted.ensures.wear) (search rules)
    (either_both (of_files c.in_ok-write_index.ensures.wear) (search rules)
    (either_both (of_files c.in_ok-set_head.ensures.wear) (search rules)
    (either_told (of_files c.in_err-end.ensures.wear) (search rules) (search rules))))))

pub returns-clause-wear : goal.returns-clause-wear
returns-clause-wear g c =
    either_both (of_files (wears_writes c.in_ok-index.ensures.wear (search rules))) (search rules)
    (either_both (of_either (unstopped_either c.in_ok-is_cut.ensures.wear) (search rules)) (search rules)
    (either_both (c.in_ok-bring_noted.ensures.wear) (search rules)
    (either_both (of_files c.in_ok-write_index.ensures.wear) (search rules)
    (either_both (of_files c.in_ok-set_head.ensures.wear) (search rules)
    (either_told (of_files c.in_ok-end.ensures.wear) (search rules) (search rules))))))
