use Rattle.std.proofs.Common.{rules, ◌≡◌, None, Some, sym, ◌∙◌}
use Rattle.std.specs.FinMap as files
use Rattle.vc_refs.specs.RefFile.{id_in}
use Rattle.vc_refs.proofs.RefsLemmas.{loose-absent, loose-there, loose_good, bad_there}
use Rattle.vc_refs.proofs.loose.read.Goals as goal

pub returns-in_default-clause-found : goal.returns-in_default-clause-found
returns-in_default-clause-found g c = λ honest. sym (loose-absent _ _ (search (rules, c.in_ok-bytes.ensures.found honest)))

pub returns-in-Some-id_in-clause-found : goal.returns-in-Some-id_in-clause-found
returns-in-Some-id_in-clause-found g c = λ honest.
    let there : files.get (g.F.Files.content c.args.files.now) c.args.path.now ≡ Some c.in-Some.bytes.items = search (rules, c.in_ok-bytes.ensures.found honest) in
    let spelled : id_in c.in-Some.bytes.items ≡ Some c.in-Some-id_in.id = search rules in
    sym (loose-there _ _ _ c.requires there ∙ spelled)

pub returns-in-Some-id_in-clause-good : goal.returns-in-Some-id_in-clause-good
returns-in-Some-id_in-clause-good g c = λ honest.
    let there : files.get (g.F.Files.content c.args.files.now) c.args.path.now ≡ Some c.in-Some.bytes.items = search (rules, c.in_ok-bytes.ensures.found honest) in
    let spelled : id_in c.in-Some.bytes.items ≡ Some c.in-Some-id_in.id = search rules in
    loose_good _ _ c.in-Some-id_in.id (loose-there _ _ _ c.requires there ∙ spelled)

pub returns-clause-refused : goal.returns-clause-refused
returns-clause-refused g c = λ honest.
    let there : files.get (g.F.Files.content c.args.files.now) c.args.path.now ≡ Some c.in-Some.bytes.items = search (rules, c.in_ok-bytes.ensures.found honest) in
    let nothing : id_in c.in-Some.bytes.items ≡ None = search rules in
    (search rules, bad_there _ _ _ c.requires there nothing)
