use Rattle.std.proofs.Common.{rules, ◌≡◌, Some, None, sym, ap, ◌∙◌}
use Rattle.std.specs.FinMap as files
use Rattle.std.specs.Prelude.{codes}
use Rattle.vc_refs.specs.Packed.{packed_refs}
use Rattle.vc_refs.proofs.LayeredLemmas.{packed_map-absent, packed_map-there}
use Rattle.vc_refs.proofs.layered.packed_file.PackedCache.refresh.Goals as goal

pub returns-in_default-clause-found : goal.returns-in_default-clause-found
returns-in_default-clause-found g c = λ honest.
    let absent : None ≡ files.get (g.F.Files.content c.args.files.now) (codes "packed-refs") = rw c.in_default.is at (c.in_ok-text.ensures.found honest) in
    packed_map-absent _ (sym absent) ∙ ap Some (sym (c.drop.view_is ∙ c.new.ensures))

pub returns-then-eq-clause-found : goal.returns-then-eq-clause-found
returns-then-eq-clause-found g c = λ honest.
    let there : Some c.in-Some.text.items ≡ files.get (g.F.Files.content c.args.files.now) (codes "packed-refs") = rw c.in-Some.is at (c.in_ok-text.ensures.found honest) in
    let known : c.in-Some.text.items ≡ c.self.inside.text.items = search rules in
    packed_map-there _ _ (sym there) ∙ ap packed_refs known ∙ c.self.invariant ∙ ap Some c.self.view_is

pub returns-in_default-2-clause-refused : goal.returns-in_default-2-clause-refused
returns-in_default-2-clause-refused g c = λ honest.
    let there : Some c.in-Some.text.items ≡ files.get (g.F.Files.content c.args.files.now) (codes "packed-refs") = rw c.in-Some.is at (c.in_ok-text.ensures.found honest) in
    let read : packed_refs c.in-Some.text.items ≡ None = search rules in
    (search rules, packed_map-there _ _ (sym there) ∙ read)

pub returns-clause-found : goal.returns-clause-found
returns-clause-found g c = λ honest.
    let there : Some c.in-Some.text.items ≡ files.get (g.F.Files.content c.args.files.now) (codes "packed-refs") = rw c.in-Some.is at (c.in_ok-text.ensures.found honest) in
    let read : packed_refs c.in-Some.text.items ≡ Some c.in-Some-2.refs = search rules in
    packed_map-there _ _ (sym there) ∙ read
