use Rattle.std.proofs.Common.{◌≡◌, false, Some, None, sym, ap, ◌∙◌}
use Rattle.vc_refs.specs.Refs.{is_taken, loose_refs, packed_at}
use Rattle.vc_refs.proofs.LayeredLemmas.{refs-loose, refs-packed, taken_from_value, untaken_from_none, good_loose, good_packed, good_packed_file}
use Rattle.vc_refs.proofs.layered.getting.get_over.Goals as goal

pub returns-in-Some-clause-found : goal.returns-in-Some-clause-found
returns-in-Some-clause-found g c = λ honest.
    let content = g.F.Files.content c.args.files.now in
    let own : Some c.in-Some.own ≡ loose_refs content c.args.name.now = rw c.in-Some.is at (c.in_ok-own.ensures.found honest) in
    own ∙ sym (refs-loose content c.args.name.now (taken_from_value content c.args.name.now c.in-Some.own (sym own)))

pub returns-in-Some-clause-good : goal.returns-in-Some-clause-good
returns-in-Some-clause-good g c = λ honest.
    let content = g.F.Files.content c.args.files.now in
    let own : Some c.in-Some.own ≡ loose_refs content c.args.name.now = rw c.in-Some.is at (c.in_ok-own.ensures.found honest) in
    good_loose content c.args.name.now (taken_from_value content c.args.name.now c.in-Some.own (sym own)) (c.in_ok-own.ensures.good honest)

pub returns-clause-found : goal.returns-clause-found
returns-clause-found g c = λ honest.
    let content = g.F.Files.content c.args.files.now in
    let none : None ≡ loose_refs content c.args.name.now = rw c.in_default.is at (c.in_ok-own.ensures.found honest) in
    let free : is_taken content c.args.name.now ≡ false = untaken_from_none content c.args.name.now (sym none) (c.in_ok-own.ensures.good honest) in
    c.get-2.ensures ∙ sym (refs-packed content c.args.name.now free ∙ ap (λ m. packed_at m c.args.name.now) (c.requires.read honest))

pub returns-clause-good : goal.returns-clause-good
returns-clause-good g c = λ honest.
    let content = g.F.Files.content c.args.files.now in
    let none : None ≡ loose_refs content c.args.name.now = rw c.in_default.is at (c.in_ok-own.ensures.found honest) in
    let free : is_taken content c.args.name.now ≡ false = untaken_from_none content c.args.name.now (sym none) (c.in_ok-own.ensures.good honest) in
    good_packed content c.args.name.now free (good_packed_file content c.args.packed.now (c.requires.read honest))
