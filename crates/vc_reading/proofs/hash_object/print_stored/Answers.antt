use Rattle.std.specs.Prelude.{IfErr}
use Rattle.vc_cli.proofs.StoreLemmas.{gave}
use Rattle.vc_files.specs.FileMap.{FileMap}
use Rattle.vc_reading.proofs.BodyLemmas.{left_unprinted, left_unstored}
use Rattle.vc_reading.specs.HashObject.{LeavesHashed}
use Rattle.vc_reading.proofs.hash_object.print_stored.Goals as goal

pub returns-in-Ok-clause-left : goal.returns-in-Ok-clause-left
returns-in-Ok-clause-left g c = λ honest.
    let contents = g.O.Write.contents in
    let before = contents c.args.output.now in
    let after = contents c.print_id.new.output in
    let stores = g.S.Stores.content in
    let kind = c.args.kind in
    let body = c.args.body.now in
    let opened = g.S.Files.Files.content c.in_ok-files.files in
    let back = g.S.Files.Files.content c.store_durably-stored.new.files in
    let told = c.print_id.result in
    gave (λ (was is : FileMap). IfErr told (LeavesHashed was kind body is before after)) (g.S.Stores.of c.args.lock.now) opened back (stores c.args.stores.now) (stores c.store_durably-stored.new.stores) (stores c.close_locked.new.self)
    c.in_ok-files.ensures.opened c.close_locked.ensures.back
    (left_unprinted opened back kind body before after c.in-Ok.name told c.in-Ok.ensures.named c.in-Ok.ensures.legal (c.in-Ok.ensures.stored honest) c.print_id.ensures.fault c.print_id.ensures.front)

pub returns-in-Err-clause-left : goal.returns-in-Err-clause-left
returns-in-Err-clause-left g c = λ honest.
    let before = g.O.Write.contents c.args.output.now in
    let stores = g.S.Stores.content in
    let kind = c.args.kind in
    let body = c.args.body.now in
    let opened = g.S.Files.Files.content c.in_ok-files.files in
    let back = g.S.Files.Files.content c.store_durably-stored.new.files in
    let e = c.in-Err.failure in
    gave (λ (was is : FileMap). LeavesHashed was kind body is before before e) (g.S.Stores.of c.args.lock.now) opened back (stores c.args.stores.now) (stores c.store_durably-stored.new.stores) (stores c.close_locked.new.self)
    c.in_ok-files.ensures.opened c.close_locked.ensures.back
    (left_unstored opened back kind body before e (c.in-Err.ensures.left honest))
