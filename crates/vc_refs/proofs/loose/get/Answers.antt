use Rattle.std.proofs.Common.{sym, subst}
use Rattle.vc_refs.specs.RefMap.{IsInRefs}
use Rattle.vc_refs.proofs.RefsLemmas.{is_ref-from_legal}
use Rattle.vc_refs.proofs.loose.get.Goals as goal

pub read-requires : goal.read-requires
read-requires g c = is_ref-from_legal _ c.as_str.ensures.legal (subst IsInRefs (sym c.as_str.ensures.text) c.requires)
