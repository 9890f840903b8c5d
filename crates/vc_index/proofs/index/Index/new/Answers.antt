use Rattle.std.proofs.Common.{subst, sym}
use Rattle.vc_index.specs.IndexMap.{IsIndex}
use Rattle.vc_index.proofs.MapLemmas.{index_of-new, empty-IsIndex}
use Rattle.vc_index.proofs.index.Index.new.Goals as goal

pub invariant_of-result : goal.invariant_of-result
invariant_of-result c = subst IsIndex (sym (index_of-new c.new.result c.new.ensures.empty)) empty-IsIndex
