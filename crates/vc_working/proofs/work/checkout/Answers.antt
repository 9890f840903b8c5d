use Rattle.std.proofs.Common.{◌≡◌, ◌∙◌, ℕ, Bool, List, subst}
use Rattle.std.proofs.lemmas.Result.{IfErr-weaker}
use Rattle.vc_cli.proofs.ToldLemmas.{OnOk-map}
use Rattle.vc_working.proofs.TreeLemmas.{checks_out, leaves_of, tree_gave}
use Rattle.vc_working.specs.Checkout.{LeavesOrFails}
use Rattle.vc_working.specs.Trees.{ChecksOutTree, LeavesTree, Tree, tree_of}
use Rattle.vc_working.proofs.work.checkout.Goals as goal

pub returns-clause-done : goal.returns-clause-done
returns-clause-done g c = λ tree_honest honest.
    let content = g.T.Tree.WorkTree.content in
    let held = g.T.Tree.WorkTree.folders in
    let left = g.T.Tree.WorkTree.left in
    let can_hold = g.T.Tree.WorkTree.can_hold in
    let trees = g.T.WorkTrees.trees in
    let store = c.args.store.now in
    let work = c.args.work.now in
    let revision = c.args.revision.now in
    let old = g.S.Stores.content c.args.stores.now (g.S.Stores.of c.args.lock.now) in
    let new = g.S.Stores.content c.checkout_into-done.new.stores (g.S.Stores.of c.args.lock.now) in
    let held_there = g.T.WorkTrees.can_hold c.args.trees.now store work in
    let own_there = g.T.WorkTrees.own c.args.trees.now store work in
    let was = c.in_ok-own.tree in
    let now = c.checkout_into-done.new.work in
    let own : c.as_bytes.result.now ≡ own_there = c.as_bytes.ensures.value ∙ c.as_str.ensures.value ∙ c.in_ok-own.ensures.own tree_honest in
    OnOk-map c.checkout_into-done.result
    (λ checks. tree_gave content held (ChecksOutTree held_there own_there revision old new) store work was now (trees c.args.trees.now) (trees c.open.new.self) (trees c.close.new.self) c.in_ok-own.ensures.opened c.close.ensures.back
    (subst (λ (k : List ℕ → Bool). ChecksOutTree k own_there revision old new (tree_of content held was) (tree_of content held now)) c.in_ok-own.ensures.holds
    (subst (λ (o : List ℕ). ChecksOutTree (can_hold was) o revision old new (tree_of content held was) (tree_of content held now)) own
    (checks_out content held left can_hold c.as_bytes.result.now revision old new was now checks))))
    (c.checkout_into-done.ensures.done tree_honest honest)

pub returns-clause-begun : goal.returns-clause-begun
returns-clause-begun g c = λ tree_honest honest.
    let content = g.T.Tree.WorkTree.content in
    let held = g.T.Tree.WorkTree.folders in
    let left = g.T.Tree.WorkTree.left in
    let can_hold = g.T.Tree.WorkTree.can_hold in
    let is_honest = g.T.Tree.WorkTree.honest in
    let trees = g.T.WorkTrees.trees in
    let store = c.args.store.now in
    let work = c.args.work.now in
    let revision = c.args.revision.now in
    let old = g.S.Stores.content c.args.stores.now (g.S.Stores.of c.args.lock.now) in
    let new = g.S.Stores.content c.checkout_into-done.new.stores (g.S.Stores.of c.args.lock.now) in
    let held_there = g.T.WorkTrees.can_hold c.args.trees.now store work in
    let own_there = g.T.WorkTrees.own c.args.trees.now store work in
    let was = c.in_ok-own.tree in
    let now = c.checkout_into-done.new.work in
    let own : c.as_bytes.result.now ≡ own_there = c.as_bytes.ensures.value ∙ c.as_str.ensures.value ∙ c.in_ok-own.ensures.own tree_honest in
    IfErr-weaker c.checkout_into-done.result (LeavesOrFails is_honest content held left can_hold c.as_bytes.result.now revision old new was now)
    (LeavesTree is_honest held_there own_there revision old new (trees c.args.trees.now store work) (trees c.close.new.self store work))
    (λ e leaves. tree_gave content held (λ (s t : Tree). LeavesTree is_honest held_there own_there revision old new s t e) store work was now (trees c.args.trees.now) (trees c.open.new.self) (trees c.close.new.self) c.in_ok-own.ensures.opened c.close.ensures.back
    (subst (λ (k : List ℕ → Bool). LeavesTree is_honest k own_there revision old new (tree_of content held was) (tree_of content held now) e) c.in_ok-own.ensures.holds
    (subst (λ (o : List ℕ). LeavesTree is_honest (can_hold was) o revision old new (tree_of content held was) (tree_of content held now) e) own
    (leaves_of content held left can_hold is_honest c.as_bytes.result.now revision old new was now e leaves))))
    (c.checkout_into-done.ensures.begun honest)
