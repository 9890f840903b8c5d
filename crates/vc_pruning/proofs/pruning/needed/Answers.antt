use Rattle.std.proofs.Common.{rules, ◌≡◌, ◌∙◌, Err, ap, subst, sym}
use Rattle.vc_files.specs.FileMap.{FileMap}
use Rattle.vc_local.specs.declared.fault.NodeFault.TheVariants.{Store}
use Rattle.vc_object_map.specs.Present.{IsPresentFrom}
use Rattle.vc_object_map.specs.Graph.{AreExactly}
use Rattle.vc_object_map.specs.Store.{objects}
use Rattle.vc_pruning.proofs.PruningLemmas.{blames_roots, blames_walk}
use Rattle.vc_pruning.specs.Roots.{AreRoots, BlamesNeeded}
use Rattle.vc_pruning.proofs.pruning.needed.Goals as goal

pub returns-clause-needed : goal.returns-clause-needed
returns-clause-needed g c honest =
    let content = g.F.Files.content in
    let old = content c.args.files.now in
    let roots = c.in_ok-roots.roots.items in
    let first : content c.new-store.result.files.now ≡ old = ap content c.new-store.ensures.files ∙ c.in_ok-roots.ensures.same in
    record {
      roots = roots;
      are_roots = c.in_ok-roots.ensures.roots honest;
      exact = subst (λ (m : FileMap). AreExactly (IsPresentFrom (objects m) roots) c.in_ok-ids.ids.items) first (rw c.deref.ensures.value at (c.in_ok-ids.ensures.reached honest));
    }

pub returns-in_err-roots-clause-refused : goal.returns-in_err-roots-clause-refused
returns-in_err-roots-clause-refused g c honest =
    let e = c.in_err-roots.field-0.0 in
    let told : BlamesNeeded (g.F.Files.content c.args.files.now) e = blames_roots _ _ (c.in_err-roots.ensures.refused honest) in
    let is : c.from_residual.result ≡ Err e = search rules in
    rw is told

pub returns-in_err-ids-clause-refused : goal.returns-in_err-ids-clause-refused
returns-in_err-ids-clause-refused g c honest =
    let content = g.F.Files.content in
    let old = content c.args.files.now in
    let first : content c.new-store.result.files.now ≡ old = ap content c.new-store.ensures.files ∙ c.in_ok-roots.ensures.same in
    let are : AreRoots old c.in_ok-roots.roots.items = c.in_ok-roots.ensures.roots honest in
    let e = c.in_err-ids.field-0.0 in
    let told : BlamesNeeded old (Store e) =
    subst (λ (m : FileMap). BlamesNeeded m (Store e)) first (blames_walk _ _ _ (subst (λ (m : FileMap). AreRoots m c.in_ok-roots.roots.items) (sym first) are) (rw c.deref.ensures.value at (c.in_err-ids.ensures.refused honest))) in
    let is : c.from_residual-in_err-ids.result ≡ Err (Store e) = search rules in
    rw is told
