use Rattle.vc_rev_set.proofs.terms.term_roots.Goals as goal

pub returns-in-Include-clause-refused : goal.returns-in-Include-clause-refused
returns-in-Include-clause-refused g c = rw c.in-Include.is c.single.ensures.refused

pub returns-in-Exclude-clause-refused : goal.returns-in-Exclude-clause-refused
returns-in-Exclude-clause-refused g c = rw c.in-Exclude.is c.single-in-Exclude.ensures.refused

pub returns-in-Parents-clause-refused : goal.returns-in-Parents-clause-refused
returns-in-Parents-clause-refused g c = rw c.in-Parents.is c.single-in-Parents.ensures.refused

pub returns-in-ExcludeParents-clause-refused : goal.returns-in-ExcludeParents-clause-refused
returns-in-ExcludeParents-clause-refused g c = rw c.in-ExcludeParents.is c.single-in-ExcludeParents.ensures.refused

pub returns-in-Only-clause-refused : goal.returns-in-Only-clause-refused
returns-in-Only-clause-refused g c = rw c.in-Only.is c.single-in-Only.ensures.refused

pub returns-in-Since-clause-refused : goal.returns-in-Since-clause-refused
returns-in-Since-clause-refused g c = rw c.in-Since.is c.since.ensures.refused

pub returns-in-Range-clause-refused : goal.returns-in-Range-clause-refused
returns-in-Range-clause-refused g c = rw c.in-Range.is c.range.ensures.refused

pub returns-in-Symmetric-clause-refused : goal.returns-in-Symmetric-clause-refused
returns-in-Symmetric-clause-refused g c = rw c.in-Symmetric.is c.symmetric.ensures.refused
