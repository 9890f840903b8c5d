use Rattle.std.proofs.Common.{rules, ◌≡◌, drop}
use Rattle.vc_object.proofs.IdLemmas.{id_eq_equiv}
use Rattle.vc_object.specs.ObjectId.{id_eq}
use Rattle.vc_object_map.proofs.NamesLemmas.{Contains-drop, IsDistinct-drop}
use Rattle.vc_object_map.proofs.names.sorted_from.Goals as goal

pub sorted_by_name-requires : goal.sorted_by_name-requires
sorted_by_name-requires c =
    let keys = c.args.names.now.keys in
    let items : c.in_ok-later.later.items ≡ drop c.args.place keys = search (rules, c.as_slice.ensures.keys) in
    record { distinct = rw items (IsDistinct-drop id_eq id_eq_equiv keys c.args.place (c.as_slice.ensures.unique)) }

pub returns-clause-later : goal.returns-clause-later
returns-clause-later c id =
    let keys = c.args.names.now.keys in
    let items : c.in_ok-later.later.items ≡ drop c.args.place keys = search (rules, c.as_slice.ensures.keys) in
    let same = c.sorted_by_name.ensures.same_names id in
    let is = Contains-drop id_eq id_eq_equiv keys c.args.place (c.as_slice.ensures.unique) id in
    (λ h. is.0 (rw items at (same.1 h)), λ h. same.0 (rw (← items) at (is.1 h)))
