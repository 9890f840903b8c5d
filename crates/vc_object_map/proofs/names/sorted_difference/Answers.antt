use Rattle.std.proofs.Common.{rules, ◌≡◌}
use Rattle.vc_object.proofs.IdLemmas.{id_eq_equiv, id_eq-same}
use Rattle.vc_object_map.proofs.NamesLemmas.{Contains-IsDifference}
use Rattle.vc_object_map.proofs.names.sorted_difference.Goals as goal

pub sorted_by_name-requires : goal.sorted_by_name-requires
sorted_by_name-requires c =
    let items : c.in_ok-names.names.items ≡ c.difference.result = search rules in
    record { distinct = rw items c.difference.ensures.unique }

pub returns-clause-difference : goal.returns-clause-difference
returns-clause-difference c id =
    let items : c.in_ok-names.names.items ≡ c.difference.result = search rules in
    let same = c.sorted_by_name.ensures.same_names id in
    let is = Contains-IsDifference id_eq_equiv id_eq-same c.args.names.now.keys c.args.others.now.keys c.difference.result c.difference.ensures.members id in
    (λ h. is.0 (rw items at (same.1 h)), λ h. same.0 (rw (← items) at (is.1 h)))
