use Rattle.std.proofs.Common.{◌≡◌, [], Result, Ok}
use Rattle.indexmap.specs.IndexSet.{IndexSet, IsFromIterResult, insert_all}
use Rattle.std.proofs.lemmas.Iterator.Adapters.{fact_from_collect}
use Rattle.std.proofs.lemmas.Iterator.Consumers.{YieldsList-from_copied, YieldsList-from_rest}
use Rattle.std.specs.declared.alloc.AllocError.{AllocError}
use Rattle.vc_object_map.proofs.NamesLemmas.{Contains-IsIntersection, Contains-same_members}
use Rattle.vc_object_map.proofs.WalkLemmas.{Reaches-from_one, ReachedFrom-one}
use Rattle.vc_object.proofs.IdLemmas.{id_eq_equiv, id_eq-same}
use Rattle.vc_object.specs.ObjectId.{id_eq}
use Rattle.vc_object.specs.declared.id.ObjectId.{ObjectId}
use Rattle.vc_selection.proofs.bases.common_in_history.Goals as goal

pub returns : goal.returns
returns c x =
    let common = c.in_ok-common.common.keys in
    let made : IsFromIterResult id_eq c.intersection.result c.in_ok-common.common =
    (fact_from_collect (λ xs n. (n.keys ≡ insert_all id_eq [] xs) × IsFromIterResult id_eq xs n) (let r : Result (IndexSet ObjectId _) AllocError = Ok c.in_ok-common.common in r) c.in_ok-common.ensures.ran
    (YieldsList-from_copied (YieldsList-from_rest c.intersection.result c.copied.ensures.source))).1 in
    let same = Contains-same_members id_eq_equiv id_eq-same common c.intersection.result made.0 x in
    let split = Contains-IsIntersection id_eq_equiv id_eq-same c.in_ok-of_a.of_a.keys c.in_ok-of_b.of_b.keys c.intersection.result c.intersection.ensures.members x in
    let of_a = c.in_ok-of_a.ensures x in
    let of_b = c.in_ok-of_b.ensures x in (
      λ h. let at = split.0 (same.0 h) in (Reaches-from_one _ _ _ (of_a.0 at.0), Reaches-from_one _ _ _ (of_b.0 at.1)),
      λ h. same.1 (split.1 (of_a.1 (ReachedFrom-one _ _ _ h.0), of_b.1 (ReachedFrom-one _ _ _ h.1))),
    )
