use Rattle.vc_rev.proofs.value.expr_value.Goals as goal

pub returns-in-Object-clause-refused : goal.returns-in-Object-clause-refused
returns-in-Object-clause-refused g c = rw c.in-Object.is c.rev_value.ensures.refused

pub returns-in-InTree-clause-refused : goal.returns-in-InTree-clause-refused
returns-in-InTree-clause-refused g c = rw c.in-InTree.is c.in_tree.ensures.refused
