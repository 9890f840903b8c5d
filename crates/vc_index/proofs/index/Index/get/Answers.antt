use Rattle.std.proofs.Common.{rules}
use Rattle.vc_index.proofs.MapLemmas.{get-index_of}
use Rattle.vc_index.proofs.index.Index.get.Goals as goal

pub returns-clause-found : goal.returns-clause-found
returns-clause-found c = rw (← c.self.view_is, get-index_of) (search rules)
