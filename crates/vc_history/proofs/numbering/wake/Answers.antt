use Rattle.std.proofs.Common.{◌≡◌, ◌<◌, ◌++◌, [], ap, sym, ◌∙◌, map, rules, length, get_or, position, Some}
use Rattle.std.proofs.lemmas.List.{map-append, get_or-map}
use Rattle.vc_object.specs.ObjectId.{id_eq}
use Rattle.vc_history.specs.Numbering.{places, queues}
use Rattle.vc_history.proofs.numbering.wake.Goals as goal

pub returns-in_ok-extend_from_slice : goal.returns-in_ok-extend_from_slice
returns-in_ok-extend_from_slice c =
    let list = c.in-Some-get.list.now in
    let place = c.in-Some.place in (
      places list,
      ap (map (λ l. l.place)) (c.in_ok-extend_from_slice.ensures.items ∙ ap (λ l. c.args.looks.now.items ++ l) c.deref.ensures.value) ∙ map-append (λ l. l.place) c.args.looks.now.items list.items,
      λ k at.
          let found : position (id_eq c.args.name.now) c.args.met.now.keys ≡ Some place = search rules in
          let same : place ≡ k = let e : Some place ≡ Some k = sym found ∙ at in cc in
          let below : place < length c.args.waiting.now = search rules in
          let is : list ≡ get_or c.args.waiting.now place list = search rules in
          ap (map (λ l. l.place)) (ap (λ v. v.items) is) ∙ sym (get_or-map places c.args.waiting.now place list [] below)
          ∙ ap (λ i. get_or (queues c.args.waiting.now) i []) same,
    )
