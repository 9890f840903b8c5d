use Rattle.std.proofs.Common.{rules, ◌≡◌, Some, map, sym, ap, ◌∙◌, subst}
use Rattle.std.specs.Prelude.{string_bytes}
use Rattle.vc_refs.specs.LooseFault as own
use Rattle.vc_refs.specs.Packing.{loose_at, with_all, AreGood, AreInRefs, IsMapOf}
use Rattle.vc_refs.specs.RefFault.{BlamesList, BlamesPacked}
use Rattle.vc_refs.specs.Refs.{packed_map, refs}
use Rattle.vc_refs.proofs.LayeredLemmas.{good_packed_file}
use Rattle.vc_refs.proofs.LayeredListingLemmas.{all_loose, all_spelled, list_blames_loose, list_blames_packed}
use Rattle.vc_refs.proofs.ListingLemmas.{AllGood}
use Rattle.vc_refs.proofs.layered.listing.all_refs.Goals as goal

pub returns-in_err-before-clause-refused : goal.returns-in_err-before-clause-refused
returns-in_err-before-clause-refused g c = λ honest listed.
    let content = g.F.Files.content c.args.files.now in
    let told : BlamesList content c.in_err-before.field-0.0 = list_blames_packed content c.in_err-before.field-0.0 (c.in_err-before.ensures.refused honest) in
    search (rules, told)

pub returns-in_err-loose-clause-refused : goal.returns-in_err-loose-clause-refused
returns-in_err-loose-clause-refused g c = λ honest listed.
    let content = g.F.Files.content c.args.files.now in
    let blames : own.BlamesList content c.in_err-loose.field-0.0 = rw c.in_ok-before.ensures.same at (c.in_err-loose.ensures.refused honest (rw c.in_ok-before.ensures.same listed)) in
    let told : BlamesList content c.in_err-loose.field-0.0 =
    list_blames_loose content (good_packed_file content c.in_ok-before.before (c.in_ok-before.ensures.found honest)) c.in_err-loose.field-0.0 blames in
    search (rules, told)

pub returns-in_err-packed-clause-refused : goal.returns-in_err-packed-clause-refused
returns-in_err-packed-clause-refused g c = λ honest listed.
    let content = g.F.Files.content c.args.files.now in
    let same = c.in_ok-loose.ensures.same ∙ c.in_ok-before.ensures.same in
    let blames : BlamesPacked content c.in_err-packed.field-0.0 = rw same at (c.in_err-packed.ensures.refused honest) in
    let told : BlamesList content c.in_err-packed.field-0.0 = list_blames_packed content c.in_err-packed.field-0.0 blames in
    search (rules, told)

pub put_over-requires : goal.put_over-requires
put_over-requires g c = subst AreInRefs (sym c.deref.ensures.value) c.in_ok-loose.ensures.inside

pub returns-clause-found : goal.returns-clause-found
returns-clause-found g c = λ honest listed.
    let content = g.F.Files.content c.args.files.now in
    let same = c.in_ok-loose.ensures.same ∙ c.in_ok-before.ensures.same in
    let read : packed_map content ≡ Some c.in_ok-packed.packed = rw same at (c.in_ok-packed.ensures.found honest (rw same (c.in_ok-before.ensures.found honest))) in
    let good : AreGood content (map string_bytes c.args.paths.now) = rw c.in_ok-before.ensures.same at (c.in_ok-loose.ensures.good honest) in
    let loose : c.in_ok-loose.loose.items ≡ loose_at content (map string_bytes c.args.paths.now) = rw c.in_ok-before.ensures.same at (c.in_ok-loose.ensures.found honest) in
    let all = all_loose content c.args.paths.now c.in_ok-packed.packed listed read good in
    subst (IsMapOf (refs content)) (sym (c.in_ok-merged.ensures ∙ ap (with_all c.in_ok-packed.packed) (c.deref.ensures.value ∙ loose))) all

pub returns-clause-good : goal.returns-clause-good
returns-clause-good g c = λ honest listed.
    let content = g.F.Files.content c.args.files.now in
    let good : AreGood content (map string_bytes c.args.paths.now) = rw c.in_ok-before.ensures.same at (c.in_ok-loose.ensures.good honest) in
    all_spelled content (good_packed_file content c.in_ok-before.before (c.in_ok-before.ensures.found honest)) (subst (AllGood content) listed (record { each = good }))
