use Rattle.std.proofs.Common.{rules, ◌≡◌, ◌∙◌, ◌∷◌, [], Some, None}
use Rattle.indexmap.specs.IndexMap.{get}
use Rattle.indexmap.proofs.CallerLemmas.{insert_entry-new}
use Rattle.vc_object.specs.ObjectId.{id_eq}
use Rattle.vc_known.proofs.PlaceLemmas.{Places-one}
use Rattle.vc_known.specs.Walked.{kind_met, place_at}
use Rattle.vc_known.proofs.layer.put_place.Goals as goal

pub returns-in_ok-insert-clause-places : goal.returns-in_ok-insert-clause-places
returns-in_ok-insert-clause-places c =
    let id = c.args.id.now in
    let kind = c.in-Some.kind.now in
    let none : get id_eq c.args.places.now id ≡ None = search rules in
    let is : kind_met c.args.walked.now id ≡ Some kind = search rules in
    Places-one c.args.layer (kind_met c.args.walked.now) (get id_eq c.args.places.now) (get id_eq c.insert.new.self) id kind none is c.in_ok-insert.ensures.updates.0

pub returns-in_ok-insert-clause-front : goal.returns-in_ok-insert-clause-front
returns-in_ok-insert-clause-front c =
    let id = c.args.id.now in
    let place = place_at c.args.layer c.in-Some.kind.now in
    let none : get id_eq c.args.places.now id ≡ None = search rules in
    ((id, place) ∷ [], c.in_ok-insert.ensures.entries ∙ insert_entry-new id_eq c.args.places.now id place none)
