use Rattle.vc_rev.proofs.steps.peel_to.Goals as goal

pub returns-in-Commit-clause-refused : goal.returns-in-Commit-clause-refused
returns-in-Commit-clause-refused g c = rw c.in-Commit.is c.pick_from.ensures.refused

pub returns-in-Tree-clause-refused : goal.returns-in-Tree-clause-refused
returns-in-Tree-clause-refused g c = rw c.in-Tree.is c.pick_from-in-Tree.ensures.refused

pub returns-in-Blob-clause-refused : goal.returns-in-Blob-clause-refused
returns-in-Blob-clause-refused g c = rw c.in-Blob.is c.pick_from-in-Blob.ensures.refused
