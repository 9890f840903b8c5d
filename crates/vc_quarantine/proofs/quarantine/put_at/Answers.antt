use Rattle.std.proofs.Common.{rules, ◌≡◌}
use Rattle.std.specs.FinMap as files
use Rattle.vc_push_rules.specs.Quarantine.{quarantine_path}
use Rattle.vc_push_rules.proofs.QuarantineLemmas.{outside_put_there}
use Rattle.vc_quarantine.proofs.quarantine.put_at.Goals as goal

pub returns-clause-outside : goal.returns-clause-outside
returns-clause-outside g c = λ honest.
    let content = g.F.Files.content in
    let made : content c.put.new.self ≡ files.insert (content c.args.files.now) (quarantine_path c.args.slot c.args.id.now.0) c.args.bytes.now = search (rules, c.in_ok-put.ensures.ok honest) in
    rw made (outside_put_there (content c.args.files.now) c.args.slot c.args.id.now.0 c.args.bytes.now)
