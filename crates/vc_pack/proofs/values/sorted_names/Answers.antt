use Rattle.std.proofs.Common.{◌≡◌, ◌∙◌, [], List, ap, arith}
use Rattle.indexmap.specs.IndexSet.{insert_all}
use Rattle.vc_pack.proofs.SetLemmas.{Contains-set_of}
use Rattle.vc_object.specs.ObjectId.{id_eq}
use Rattle.vc_object.specs.declared.id.ObjectId.{ObjectId}
use Rattle.vc_pack.proofs.values.sorted_names.Goals as goal

pub returns-clause-same : goal.returns-clause-same
returns-clause-same c id =
    let ids = c.args.ids.now in
    let made : c.add_names.new.set.keys ≡ insert_all id_eq [] ids = c.in_ok-add_names.ensures.added ∙ ap (λ (l : List ObjectId). insert_all id_eq l ids) c.new-set.ensures.empty in
    let is = Contains-set_of ids c.add_names.new.set.keys made id in
    let later = c.in_ok-names.ensures.later id in
    (λ h. is.0 (later.0 h).0, λ h. later.1 (is.1 h, λ none. absurd (omega (arith, none.1))))
