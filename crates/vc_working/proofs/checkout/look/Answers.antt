use Rattle.std.proofs.Common.{◌≡◌, ◌∙◌, ◌⊎◌, Ok, subst}
use Rattle.vc_files.specs.FileMap.{FileMap}
use Rattle.vc_index.specs.TreeReading.{ListsAs}
use Rattle.vc_refs.specs.RefFault.{BlamesHead, IsGoodHead}
use Rattle.vc_object_map.specs.Store.{objects}
use Rattle.vc_local.specs.Blames.{MayHead}
use Rattle.vc_working.specs.Checkout.{IsApart, IsOfNewHead, IsOfOwn, IsOfTarget, IsOfTreeList, IsTarget, RefusesLook}
use Rattle.vc_working.specs.Checkout.RefusesLook.{of_head, of_new_head, of_target, of_tree}
use Rattle.vc_cli.specs.declared.failure.Failure.TheVariants.{Refs}
use Rattle.vc_cli.proofs.ToldLemmas.{handed_on}
use Rattle.vc_working.proofs.checkout.look.Goals as goal

pub returns-in_err-head-clause-refused : goal.returns-in_err-head-clause-refused
returns-in_err-head-clause-refused g c = λ honest.
    let content = g.F.Files.content in
    let old = content c.args.files.now in
    let fault = c.in_err-head.field-0.0 in
    handed_on (RefusesLook c.args.own.now c.args.revision.now old) (Refs fault) c.from_residual-in_err-head.result c.from_residual-in_err-head.ensures.1
    (of_head c.in_ok-index.index (c.in_ok-index.ensures.spelled honest) (subst (λ (m : FileMap). BlamesHead m fault) c.in_ok-index.ensures.same (c.in_err-head.ensures.refused honest)))

pub returns-in_err-aim-clause-refused : goal.returns-in_err-aim-clause-refused
returns-in_err-aim-clause-refused g c = λ honest.
    let content = g.F.Files.content in
    let old = content c.args.files.now in
    let e = c.in_err-aim.field-0.0 in
    let read : content c.read_index.new.files ≡ old = c.in_ok-index.ensures.same in
    let headed : content c.head.new.files ≡ old = c.in_ok-head.ensures.same ∙ read in
    handed_on (RefusesLook c.args.own.now c.args.revision.now old) e c.from_residual-in_err-aim.result c.from_residual-in_err-aim.ensures.1
    (of_target c.in_ok-index.index (record { spelled = c.in_ok-index.ensures.spelled honest; readable = subst IsGoodHead read (c.in_ok-head.ensures.good honest) })
    (subst (λ (m : FileMap). IsOfTarget m c.args.revision.now e) headed (c.in_err-aim.ensures.refused honest)))

pub returns-in_err-refuse_bad_head-clause-refused : goal.returns-in_err-refuse_bad_head-clause-refused
returns-in_err-refuse_bad_head-clause-refused g c = λ honest.
    let content = g.F.Files.content in
    let old = content c.args.files.now in
    let aim = c.in_ok-aim.aim in
    let root = c.in_ok-aim.root in
    let e = c.in_err-refuse_bad_head.field-0.0 in
    let read : content c.read_index.new.files ≡ old = c.in_ok-index.ensures.same in
    let headed : content c.head.new.files ≡ old = c.in_ok-head.ensures.same ∙ read in
    let aimed : content c.target.new.files ≡ old = c.in_ok-aim.ensures.same ∙ headed in
    handed_on (RefusesLook c.args.own.now c.args.revision.now old) e c.from_residual-in_err-refuse_bad_head.result c.from_residual-in_err-refuse_bad_head.ensures.1
    (of_new_head c.in_ok-index.index aim root (record { spelled = c.in_ok-index.ensures.spelled honest; readable = subst IsGoodHead read (c.in_ok-head.ensures.good honest) })
    (subst (λ (m : FileMap). IsTarget m c.args.revision.now aim root) headed (c.in_ok-aim.ensures.target honest))
    (subst (λ (m : FileMap). IsOfNewHead m aim e) aimed (c.in_err-refuse_bad_head.ensures.refused honest)))

pub returns-in_err-tree-clause-refused : goal.returns-in_err-tree-clause-refused
returns-in_err-tree-clause-refused g c = λ honest.
    let content = g.F.Files.content in
    let old = content c.args.files.now in
    let own = c.args.own.now in
    let aim = c.in_ok-aim.aim in
    let root = c.in_ok-aim.root in
    let e = c.in_err-tree.field-0.0 in
    let read : content c.read_index.new.files ≡ old = c.in_ok-index.ensures.same in
    let headed : content c.head.new.files ≡ old = c.in_ok-head.ensures.same ∙ read in
    let aimed : content c.target.new.files ≡ old = c.in_ok-aim.ensures.same ∙ headed in
    let good : content c.refuse_bad_head.new.files ≡ old = c.in_ok-refuse_bad_head.ensures.same ∙ aimed in
    handed_on (RefusesLook own c.args.revision.now old) e c.from_residual-in_err-tree.result c.from_residual-in_err-tree.ensures.1
    (of_tree c.in_ok-index.index aim root (record { spelled = c.in_ok-index.ensures.spelled honest; readable = subst IsGoodHead read (c.in_ok-head.ensures.good honest) })
    (subst (λ (m : FileMap). IsTarget m c.args.revision.now aim root) headed (c.in_ok-aim.ensures.target honest))
    (subst (λ (m : FileMap). MayHead m aim) aimed (c.in_ok-refuse_bad_head.ensures.may honest))
    (subst (λ (m : FileMap). IsOfTreeList m root e ⊎ IsOfOwn m root own e) good (c.in_err-tree.ensures.refused honest)))

pub returns-clause-may : goal.returns-clause-may
returns-clause-may g c = λ honest.
    let content = g.F.Files.content in
    let old = content c.args.files.now in
    let own = c.args.own.now in
    let aim = c.in_ok-aim.aim in
    let root = c.in_ok-aim.root in
    let tree = c.in_ok-tree.tree in
    let read : content c.read_index.new.files ≡ old = c.in_ok-index.ensures.same in
    let headed : content c.head.new.files ≡ old = c.in_ok-head.ensures.same ∙ read in
    let aimed : content c.target.new.files ≡ old = c.in_ok-aim.ensures.same ∙ headed in
    let good : content c.refuse_bad_head.new.files ≡ old = c.in_ok-refuse_bad_head.ensures.same ∙ aimed in
    record {
      started = record { spelled = c.in_ok-index.ensures.spelled honest; readable = subst IsGoodHead read (c.in_ok-head.ensures.good honest) };
      target = subst (λ (m : FileMap). IsTarget m c.args.revision.now aim root) headed (c.in_ok-aim.ensures.target honest);
      may = subst (λ (m : FileMap). MayHead m aim) aimed (c.in_ok-refuse_bad_head.ensures.may honest);
      lists = subst (λ (m : FileMap). ListsAs (objects m) root (Ok tree)) good (c.in_ok-tree.ensures.lists honest);
      apart = subst (λ (m : FileMap). IsApart (objects m) root own) good (c.in_ok-tree.ensures.apart honest);
    }
