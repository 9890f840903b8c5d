use Rattle.std.proofs.Common.{Ok, subst}
use Rattle.vc_files.specs.FileMap.{FileMap}
use Rattle.vc_object.specs.declared.kind.Kind.TheVariants as kinds
use Rattle.vc_working.specs.Checkout.{peeled}
use Rattle.vc_cli.specs.Revisions.{Denoted}
use Rattle.vc_working.proofs.checkout.commit_tree.Goals as goal

pub returns-clause-tree : goal.returns-clause-tree
returns-clause-tree g c = λ honest. record {
  commit_is = c.in_ok-commit.ensures.value honest;
  root_is = subst (λ (m : FileMap). Denoted m (peeled c.in_ok-commit.commit kinds.Tree) (Ok c.in_ok-tree.tree)) c.in_ok-commit.ensures.same (c.in_ok-tree.ensures.value honest);
}
