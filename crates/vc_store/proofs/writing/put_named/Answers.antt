use Rattle.std.proofs.Common.{rules, ◌≡◌, Err}
use Rattle.std.specs.Prelude.{is_ok, true}
use Rattle.std.specs.FinMap as files
use Rattle.vc_files.proofs.WearLemmas.{wears_then, writes_told}
use Rattle.vc_object.specs.Object.{object_bytes}
use Rattle.vc_object.specs.Decoding.{stored_object}
use Rattle.vc_object_map.specs.declared.faults.StoreFault.TheVariants.{Absent}
use Rattle.vc_object_map.specs.Store.{object_path, stored}
use Rattle.vc_store.proofs.StoreLemmas.{objects-put, objects-there, outside-put, with_file-absent, with_file-there}
use Rattle.vc_store.proofs.writing.put_named.Goals as goal

pub returns-in_ok-put-clause-objects : goal.returns-in_ok-put-clause-objects
returns-in_ok-put-clause-objects g c = λ honest.
    let content = g.F.Files.content in
    let id = c.args.id.now in
    let object = c.args.object.now in
    let absent : stored (content c.args.files.now) id ≡ Err (Absent id) = search (rules, c.in_ok-has.ensures.tells.absent honest) in
    let made : content c.put.new.self ≡ files.insert (content c.args.files.now) (object_path id.0) (object_bytes object.kind object.body.now) = search (rules, c.in_ok-put.ensures.ok honest, c.in_ok-has.ensures.same) in
    rw made (objects-put (content c.args.files.now) id object.kind object.body.now (search rules) (search rules) (search rules) absent)

pub returns-in_ok-put-clause-outside : goal.returns-in_ok-put-clause-outside
returns-in_ok-put-clause-outside g c = λ honest.
    let content = g.F.Files.content in
    let id = c.args.id.now in
    let object = c.args.object.now in
    let made : content c.put.new.self ≡ files.insert (content c.args.files.now) (object_path id.0) (object_bytes object.kind object.body.now) = search (rules, c.in_ok-put.ensures.ok honest, c.in_ok-has.ensures.same) in
    rw made (outside-put (content c.args.files.now) id.0 (object_bytes object.kind object.body.now))

pub returns-else-not-branch-clause-objects : goal.returns-else-not-branch-clause-objects
returns-else-not-branch-clause-objects g c = λ honest.
    let content = g.F.Files.content in
    let id = c.args.id.now in
    let object = c.args.object.now in
    let there : is_ok (stored (content c.args.files.now) id) ≡ true = search (rules, c.in_ok-has.ensures.tells.there honest) in
    rw c.in_ok-has.ensures.same (objects-there (content c.args.files.now) id (stored_object object.kind object.body.now) (search rules) there)

pub returns-in_ok-put-clause-files : goal.returns-in_ok-put-clause-files
returns-in_ok-put-clause-files g c = λ honest.
    let content = g.F.Files.content in
    let id = c.args.id.now in
    let object = c.args.object.now in
    let absent : stored (content c.args.files.now) id ≡ Err (Absent id) = search (rules, c.in_ok-has.ensures.tells.absent honest) in
    let made : content c.put.new.self ≡ files.insert (content c.args.files.now) (object_path id.0) (object_bytes object.kind object.body.now) = search (rules, c.in_ok-put.ensures.ok honest, c.in_ok-has.ensures.same) in
    rw made (with_file-absent (content c.args.files.now) id object.kind object.body.now (search rules) absent)

pub returns-else-not-branch-clause-files : goal.returns-else-not-branch-clause-files
returns-else-not-branch-clause-files g c = λ honest.
    let content = g.F.Files.content in
    let id = c.args.id.now in
    let object = c.args.object.now in
    let there : is_ok (stored (content c.args.files.now) id) ≡ true = search (rules, c.in_ok-has.ensures.tells.there honest) in
    rw c.in_ok-has.ensures.same (with_file-there (content c.args.files.now) id object.kind object.body.now (search rules) there)

pub returns-in_ok-put-clause-wear : goal.returns-in_ok-put-clause-wear
returns-in_ok-put-clause-wear g c = wears_then c.in_ok-has.ensures.wear (λ _. c.in_ok-has.ensures.same) (search rules) (writes_told c.in_ok-put.ensures.wear (search rules) (search rules))
