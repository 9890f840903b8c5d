use Rattle.std.proofs.Common.{rules, ◌≡◌, map, ap, ◌∙◌}
use Rattle.std.specs.Prelude.{codes, string_bytes}
use Rattle.vc_files.specs.FileMap.{paths_under}
use Rattle.vc_refs.specs.Packing.{IsMapOf}
use Rattle.vc_refs.specs.RefFault.{BlamesList}
use Rattle.vc_refs.specs.Refs.{refs, SpellsRefs}
use Rattle.vc_refs.proofs.layered.listing.read_all.Goals as goal

pub returns-in_err-refs-clause-refused : goal.returns-in_err-refs-clause-refused
returns-in_err-refs-clause-refused g c = λ honest.
    let content = g.F.Files.content c.args.files.now in
    let listed : map string_bytes c.deref.result.now ≡ paths_under content (codes "refs/") = ap (map string_bytes) c.deref.ensures.value ∙ c.in_ok-paths.ensures.listed honest in
    let told : BlamesList content c.in_err-refs.field-0.0 = rw c.in_ok-paths.ensures.same at (c.in_err-refs.ensures.refused honest (rw c.in_ok-paths.ensures.same listed)) in
    search (rules, told)

pub returns-clause-found : goal.returns-clause-found
returns-clause-found g c = λ honest.
    let content = g.F.Files.content c.args.files.now in
    let listed : map string_bytes c.deref.result.now ≡ paths_under content (codes "refs/") = ap (map string_bytes) c.deref.ensures.value ∙ c.in_ok-paths.ensures.listed honest in
    let all : IsMapOf (refs content) c.in_ok-refs.refs = rw c.in_ok-paths.ensures.same at (c.in_ok-refs.ensures.found honest (rw c.in_ok-paths.ensures.same listed)) in
    all

pub returns-clause-good : goal.returns-clause-good
returns-clause-good g c = λ honest.
    let content = g.F.Files.content c.args.files.now in
    let listed : map string_bytes c.deref.result.now ≡ paths_under content (codes "refs/") = ap (map string_bytes) c.deref.ensures.value ∙ c.in_ok-paths.ensures.listed honest in
    let good : SpellsRefs content = rw c.in_ok-paths.ensures.same at (c.in_ok-refs.ensures.good honest (rw c.in_ok-paths.ensures.same listed)) in
    good
