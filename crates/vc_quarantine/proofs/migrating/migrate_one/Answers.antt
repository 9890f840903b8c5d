use Rattle.std.proofs.Common.{rules, ◌≡◌, [], ◌∷◌, true, Some, ap, subst, ◌∙◌}
use Rattle.vc_files.specs.FileMap.{FileMap}
use Rattle.vc_files.proofs.FileMapLemmas.{outside_from}
use Rattle.vc_files.proofs.WearLemmas.{wears_then, wears_writes, writes_told}
use Rattle.vc_object.specs.Decoding.{stored_object}
use Rattle.vc_object.specs.Object.{object_name}
use Rattle.vc_object.specs.ObjectId.{is_id}
use Rattle.vc_object.specs.ObjectMap.{ObjectMap}
use Rattle.vc_object_map.specs.Store.{objects, with_file, with_object}
use Rattle.vc_object_map.specs.declared.faults.StoreFault.{StoreFault}
use Rattle.vc_push_rules.specs.Quarantine.{quarantined}
use Rattle.vc_quarantine.specs.Blames.{BlamesMigration}
use Rattle.vc_quarantine.proofs.DamageLemmas.{carried_blames, damaged_before, put_blames}
use Rattle.vc_quarantine.proofs.MigratingLemmas.{migrated_one, quarantined-named, quarantined-valid}
use Rattle.vc_quarantine.proofs.migrating.migrate_one.Goals as goal

pub returns-clause-stored : goal.returns-clause-stored
returns-clause-stored g c = λ honest q.
    let content = g.F.Files.content in
    let id = c.args.id.now in
    let kind = c.in-Some.carried.kind in
    let body = c.in-Some.carried.body.items in
    let object = stored_object kind body in
    let found : quarantined (content c.args.files.now) c.args.slot id ≡ Some object = search (rules, c.in_ok-carried.ensures.found honest, c.in-Some.is) in
    let made : objects (content c.put_named.new.files) ≡ with_object (objects (content c.args.files.now)) id object = search (rules, c.in_ok-put_named.ensures.objects honest, c.object.ensures.kind, c.object.ensures.body, c.in_ok-carried.ensures.same) in
    ap (λ (m : ObjectMap). m q) made ∙ migrated_one (content c.args.files.now) c.args.slot id object found q

pub returns-clause-outside : goal.returns-clause-outside
returns-clause-outside g c = λ honest. outside_from c.in_ok-carried.ensures.same (c.in_ok-put_named.ensures.outside honest)

pub returns-clause-wear : goal.returns-clause-wear
returns-clause-wear g c = wears_then c.in_ok-carried.ensures.wear (λ _. c.in_ok-carried.ensures.same) (search rules) (writes_told c.in_ok-put_named.ensures.wear (search rules) (search rules))

pub returns-in_err-put_named-clause-outside : goal.returns-in_err-put_named-clause-outside
returns-in_err-put_named-clause-outside g c = λ honest. outside_from c.in_ok-carried.ensures.same (c.in_err-put_named.ensures.outside honest)

pub returns-in_err-put_named-clause-wear : goal.returns-in_err-put_named-clause-wear
returns-in_err-put_named-clause-wear g c = wears_then c.in_ok-carried.ensures.wear (λ _. c.in_ok-carried.ensures.same) (search rules) (writes_told c.in_err-put_named.ensures.wear (search rules) (search rules))

pub returns-in_err-carried-clause-wear : goal.returns-in_err-carried-clause-wear
returns-in_err-carried-clause-wear g c = writes_told (wears_writes c.in_err-carried.ensures.wear (λ _. c.in_err-carried.ensures.same)) (search rules) (search rules)

pub returns-in_default-clause-wear : goal.returns-in_default-clause-wear
returns-in_default-clause-wear g c = writes_told (wears_writes c.in_ok-carried.ensures.wear (λ _. c.in_ok-carried.ensures.same)) (search rules) (search rules)

pub returns-in_err-carried-clause-refused : goal.returns-in_err-carried-clause-refused
returns-in_err-carried-clause-refused g c = λ honest.
    let content = g.F.Files.content in
    let e : StoreFault = c.in_err-carried.field-0.0 in
    let told : BlamesMigration (content c.args.files.now) c.args.slot (c.args.id.now ∷ []) e = carried_blames (content c.args.files.now) c.args.slot c.args.id.now e honest c.in_err-carried.ensures.refused in
    search (rules, told)

pub returns-in_err-put_named-clause-refused : goal.returns-in_err-put_named-clause-refused
returns-in_err-put_named-clause-refused g c = λ honest.
    let content = g.F.Files.content in
    let id = c.args.id.now in
    let e : StoreFault = c.in_err-put_named.field-0.0 in
    let same : content c.find_in_quarantine.new.files ≡ content c.args.files.now = c.in_ok-carried.ensures.same in
    let blames : BlamesMigration (content c.find_in_quarantine.new.files) c.args.slot (id ∷ []) e = put_blames (content c.find_in_quarantine.new.files) c.args.slot id e c.in_err-put_named.ensures.refused (c.in_err-put_named.ensures.damaged honest) in
    let told : BlamesMigration (content c.args.files.now) c.args.slot (id ∷ []) e = subst (λ (m : FileMap). BlamesMigration m c.args.slot (id ∷ []) e) same blames in
    search (rules, told)

pub returns-clause-undamaged : goal.returns-clause-undamaged
returns-clause-undamaged g c = λ honest.
    let content = g.F.Files.content in
    let id = c.args.id.now in
    let object = stored_object c.in-Some.carried.kind c.in-Some.carried.body.items in
    let found : quarantined (content c.args.files.now) c.args.slot id ≡ Some object = search (rules, c.in_ok-carried.ensures.found honest, c.in-Some.is) in
    let named : object_name object.kind object.body ≡ id = quarantined-named (content c.args.files.now) c.args.slot id object found in
    let valid : is_id id ≡ true = quarantined-valid (content c.args.files.now) c.args.slot id object found in
    let file : content c.put_named.new.files ≡ with_file (content c.args.files.now) object = search (rules, c.in_ok-put_named.ensures.files honest, c.object.ensures.kind, c.object.ensures.body, c.in_ok-carried.ensures.same) in
    let made : objects (content c.put_named.new.files) ≡ with_object (objects (content c.args.files.now)) id object = search (rules, c.in_ok-put_named.ensures.objects honest, c.object.ensures.kind, c.object.ensures.body, c.in_ok-carried.ensures.same) in
    damaged_before (content c.args.files.now) (content c.put_named.new.files) id object valid named file made
