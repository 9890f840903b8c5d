use Rattle.std.proofs.Common.{rules, ◌≡◌, None, Result, Ok, Err, sym, ◌∙◌}
use Rattle.std.specs.FinMap as files
use Rattle.vc_object.specs.Decoding.{StoredObject, stored_object}
use Rattle.vc_push_rules.specs.Quarantine.{quarantine_path}
use Rattle.vc_object_map.specs.Store.{stored_in}
use Rattle.vc_object_map.specs.declared.faults.StoreFault.{StoreFault}
use Rattle.vc_object_map.specs.declared.faults.StoreFault.TheVariants.{Damaged}
use Rattle.vc_push_rules.proofs.QuarantineLemmas.{quarantined-found, quarantined-none}
use Rattle.vc_quarantine.proofs.quarantine.find_in_quarantine.Goals as goal

pub returns-clause-found : goal.returns-clause-found
returns-clause-found g c = λ honest.
    let content = g.F.Files.content c.args.files.now in
    let id = c.args.id.now in
    let object = stored_object c.in_ok-object.object.kind c.in_ok-object.object.body.items in
    let read : stored_in id (files.get content (quarantine_path c.args.slot id.0)) ≡ Ok object = search (rules, c.in_ok-bytes.ensures.found honest) in
    sym (quarantined-found content c.args.slot id object (search rules) read)

pub returns-in_default-clause-found : goal.returns-in_default-clause-found
returns-in_default-clause-found g c = λ honest.
    let content = g.F.Files.content c.args.files.now in
    let id = c.args.id.now in
    let none : files.get content (quarantine_path c.args.slot id.0) ≡ None = search (rules, c.in_ok-bytes.ensures.found honest) in
    sym (quarantined-none content c.args.slot id none)

pub returns-clause-damaged : goal.returns-clause-damaged
returns-clause-damaged g c = λ honest damaged.
    let content = g.F.Files.content c.args.files.now in
    let id = c.args.id.now in
    let object = stored_object c.in_ok-object.object.kind c.in_ok-object.object.body.items in
    let read : stored_in id (files.get content (quarantine_path c.args.slot id.0)) ≡ Ok object = search (rules, c.in_ok-bytes.ensures.found honest) in
    let no : ◌≡◌ {A = Result StoredObject StoreFault} (Ok object) (Err (Damaged id)) = sym read ∙ damaged in
    absurd (cc no)

pub returns-in_default-clause-damaged : goal.returns-in_default-clause-damaged
returns-in_default-clause-damaged g c = search rules
