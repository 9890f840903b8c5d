use Rattle.std.proofs.Common.{◌∙◌, Ok, refl, subst, sym}
use Rattle.vc_files.specs.FileMap.{FileMap}
use Rattle.vc_object.specs.declared.kind.Kind.TheVariants as kinds
use Rattle.vc_working.specs.Checkout.{peeled}
use Rattle.vc_cli.specs.Revisions.{Denoted}
use Rattle.vc_working.proofs.CheckoutLemmas.{head_tree_is}
use Rattle.vc_working.proofs.status.head_tree.Goals as goal

pub returns-clause-tree : goal.returns-clause-tree
returns-clause-tree g c = λ honest.
    head_tree_is _ _ c.in-Some.commit c.in_ok-tree.tree (c.in_ok-commit.ensures.good honest) (sym (c.in_ok-commit.ensures.found honest) ∙ c.in-Some.is) refl
    (subst (λ (m : FileMap). Denoted m (peeled c.in-Some.commit kinds.Tree) (Ok c.in_ok-tree.tree)) c.in_ok-commit.ensures.same (c.in_ok-tree.ensures.value honest))
