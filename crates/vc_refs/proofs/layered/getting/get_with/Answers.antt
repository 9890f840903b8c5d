use Rattle.std.proofs.Common.{◌≡◌, false, Some, None, sym, ap, ◌∙◌}
use Rattle.vc_refs.specs.Refs.{is_taken, loose_refs, packed_at, packed_map}
use Rattle.vc_refs.proofs.LayeredLemmas.{refs-loose, refs-packed, taken_from_value, untaken_from_none, good_loose}
use Rattle.vc_refs.proofs.layered.getting.get_with.Goals as goal

pub returns-in-Some-clause-found : goal.returns-in-Some-clause-found
returns-in-Some-clause-found g c = λ honest.
    let content = g.F.Files.content c.args.files.now in
    let own : Some c.in-Some.id ≡ loose_refs content c.args.name.now = rw c.in-Some.is at (c.in_ok-id.ensures.found honest) in
    own ∙ sym (refs-loose content c.args.name.now (taken_from_value content c.args.name.now c.in-Some.id (sym own)))

pub returns-in-Some-clause-good : goal.returns-in-Some-clause-good
returns-in-Some-clause-good g c = λ honest.
    let content = g.F.Files.content c.args.files.now in
    let own : Some c.in-Some.id ≡ loose_refs content c.args.name.now = rw c.in-Some.is at (c.in_ok-id.ensures.found honest) in
    good_loose content c.args.name.now (taken_from_value content c.args.name.now c.in-Some.id (sym own)) (c.in_ok-id.ensures.good honest)

pub returns-clause-found : goal.returns-clause-found
returns-clause-found g c = λ honest.
    let content = g.F.Files.content c.args.files.now in
    let none : None ≡ loose_refs content c.args.name.now = rw c.in_default.is at (c.in_ok-id.ensures.found honest) in
    let free : is_taken content c.args.name.now ≡ false = untaken_from_none content c.args.name.now (sym none) (c.in_ok-id.ensures.good honest) in
    let read : packed_map content ≡ Some c.refresh.new.self = rw c.in_ok-id.ensures.same at (c.in_ok-refresh.ensures.found honest) in
    c.get-2.ensures ∙ sym (refs-packed content c.args.name.now free ∙ ap (λ m. packed_at m c.args.name.now) read)
