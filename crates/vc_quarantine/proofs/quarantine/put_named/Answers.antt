use Rattle.std.proofs.Common.{rules, ◌≡◌, ◌<◌, ◌^◌, arith}
use Rattle.std.specs.FinMap as files
use Rattle.vc_object.specs.Object.{object_bytes}
use Rattle.vc_push_rules.specs.Quarantine.{quarantine_path}
use Rattle.vc_quarantine.proofs.CleanLemmas.{bad_put}
use Rattle.vc_push_rules.proofs.QuarantineLemmas.{quarantined-put}
use Rattle.vc_quarantine.proofs.quarantine.put_named.Goals as goal

pub returns-clause-objects : goal.returns-clause-objects
returns-clause-objects g c = λ honest q.
    let content = g.F.Files.content in
    let id = c.args.id.now in
    let object = c.args.object.now in
    let made : content c.put_at.new.files ≡ files.insert (content c.args.files.now) (quarantine_path c.args.slot id.0) (object_bytes object.kind object.body.now) = search (rules, c.in_ok-put_at.ensures.ok honest) in
    rw made (quarantined-put (content c.args.files.now) c.args.slot id object.kind object.body.now (search rules) (search rules) (search rules) q)

pub returns-clause-bad : goal.returns-clause-bad
returns-clause-bad g c = λ honest.
    let content = g.F.Files.content in
    let id = c.args.id.now in
    let object = c.args.object.now in
    let made : content c.put_at.new.files ≡ files.insert (content c.args.files.now) (quarantine_path c.args.slot id.0) (object_bytes object.kind object.body.now) = search (rules, c.in_ok-put_at.ensures.ok honest) in
    let small : c.args.slot < 2 ^ 64 = omega (arith, c.ranges.slot.fits) in
    rw made (bad_put (content c.args.files.now) c.args.slot id object.kind object.body.now small (search rules) (search rules) (search rules))
