use Rattle.std.proofs.Common.{◌∙◌, ◌∷◌, [], ◌++◌, ◌+◌, sym, ap, subst, refl, take, get_or, append_assoc, append-nil, arith}
use Rattle.std.proofs.Math.Seq.{take_all}
use Rattle.std.proofs.lemmas.List.{get_or_default}
use Rattle.indexmap.specs.IndexMap.{get}
use Rattle.vc_object.specs.ObjectId.{id_eq}
use Rattle.vc_object.specs.declared.id.ObjectId.{ObjectId}
use Rattle.vc_known.proofs.PlaceLemmas.{Places-none, Places-then, take-next}
use Rattle.vc_known.specs.Walked.{Places, kind_met}
use Rattle.vc_known.proofs.layer.put_places.Goals as goal

pub loop-id-init : goal.loop-id-init
loop-id-init c = record {
  places = Places-none c.args.layer (kind_met c.args.walked.now) [] (get id_eq c.args.places.now) refl;
  front = ([], sym (append-nil c.args.places.now.entries));
}

pub loop-id-preserved : goal.loop-id-preserved
loop-id-preserved c =
    let before = c.loop-id.invariant in
    let none : ObjectId = record { 0 = [] } in
    let names = c.as_slice-names.result.now in
    let n = c.loop-id.id-index in
    let id : ObjectId = get_or names n none in
    let more = c.in_ok-put_place.ensures.front in
    record {
      places = Places-then c.args.layer (kind_met c.args.walked.now) (take n names) (id ∷ []) (take (n + 1) names) (get id_eq c.args.places.now) (get id_eq c.loop-id.places) (get id_eq c.put_place.new.places)
          (take-next names n id c.loop-id-test.true (get_or_default names n id none c.loop-id-test.true)) before.places c.in_ok-put_place.ensures.places;
      front = (before.front.0 ++ more.0, more.1 ∙ ap (λ l. l ++ more.0) before.front.1 ∙ append_assoc c.args.places.now.entries before.front.0 more.0);
    }

pub returns-in_err-put_place-clause-front : goal.returns-in_err-put_place-clause-front
returns-in_err-put_place-clause-front c =
    let before = c.loop-id.invariant in
    let more = c.in_err-put_place.ensures.front in
    (before.front.0 ++ more.0, more.1 ∙ ap (λ l. l ++ more.0) before.front.1 ∙ append_assoc c.args.places.now.entries before.front.0 more.0)

pub returns-clause-places : goal.returns-clause-places
returns-clause-places c =
    let names = c.as_slice-names.result.now in
    let all = take_all c.loop-id.id-index names (omega (arith, c.loop-id-test.false)) ∙ c.as_slice-names.ensures.keys in
    subst (λ l. Places c.args.layer l (kind_met c.args.walked.now) (get id_eq c.args.places.now) (get id_eq c.loop-id.places)) all c.loop-id.invariant.places
