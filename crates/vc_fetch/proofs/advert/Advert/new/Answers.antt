use Rattle.std.proofs.Common.{sym, subst, ◌≤◌, length}
use Rattle.std.specs.FinMap.{entries}
use Rattle.std.specs.List.{AllByRecursion}
use Rattle.vc_fetch.specs.Advert.{Ref, RefIds}
use Rattle.vc_fetch.proofs.RefMaps.{ref_ids-new, short_empty}
use Rattle.vc_fetch.proofs.advert.Advert.new.Goals as goal

pub returns-clause-short : goal.returns-clause-short
returns-clause-short c = subst (λ (m : RefIds). AllByRecursion (λ (ref : Ref). length ref.0 ≤ 65450) (entries m)) (sym (ref_ids-new c.new.result c.new.ensures.empty)) short_empty
