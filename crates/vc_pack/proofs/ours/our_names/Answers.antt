use Rattle.std.proofs.Common.{rules, ◌≡◌, true, ⊎_elim}
use Rattle.vc_object_map.specs.Graph.{itself}
use Rattle.vc_pack.proofs.ours.our_names.Goals as goal

pub returns-then-are_among-clause-names : goal.returns-then-are_among-clause-names
returns-then-are_among-clause-names g c honest agrees id asked =
    let same = c.in_ok-sorted.ensures.same id in
    let told : c.are_among.result ≡ true = search rules in
    let wants = rw c.deref.ensures.value at (c.are_among.ensures.wants told id) in
    let haves = rw c.deref.ensures.value at (c.are_among.ensures.haves told id) in
    (λ h. record { root = id; is_root = same.0 h; reaches = itself }, λ r. ⊎_elim wants haves asked)

pub returns-then-branch-clause-names : goal.returns-then-branch-clause-names
returns-then-branch-clause-names g c honest agrees =
    let told : c.in_ok-reach_known.field-0 ≡ true = search rules in
    let same = c.in_ok-reach_known.ensures.same in
    rw same at (c.in_ok-names.ensures.names honest (rw same agrees) (rw same (c.in_ok-reach_known.ensures.reach honest told)))

pub returns-clause-names : goal.returns-clause-names
returns-clause-names g c honest agrees id asked = rw (c.new.ensures.files, c.in_ok-reach_known.ensures.same) at (c.in_ok-names-2.ensures.reached honest id)
