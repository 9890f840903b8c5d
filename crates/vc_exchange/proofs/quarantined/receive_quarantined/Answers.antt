use Rattle.std.proofs.Common.{rules, ◌≡◌, Err, refl, sym, ap, ◌∙◌, subst}
use Rattle.vc_history.proofs.StoredLemmas.{keeps_same, keeps_then}
use Rattle.vc_files.specs.FileMap.{FileMap}
use Rattle.vc_files.proofs.WearLemmas.{wears_then, wears_writes, writes_both, writes_told}
use Rattle.vc_object_map.specs.Graph.{IsClosedUnder}
use Rattle.vc_object_map.specs.Overlay.{with_carried}
use Rattle.vc_history.specs.Stored.{AgreesIn}
use Rattle.vc_model.specs.Repository.{IsSound, with_objects}
use Rattle.vc_object.specs.ObjectMap.{links_in}
use Rattle.vc_object.specs.declared.id.ObjectId.{ObjectId}
use Rattle.vc_refs.specs.Refs.{refs}
use Rattle.vc_rules.proofs.JoinLemmas.{joined}
use Rattle.vc_rules.specs.Git.{git}
use Rattle.vc_rules.specs.OpenPushes.{HoldsContent}
use Rattle.vc_quarantine.proofs.CleanLemmas.{bad_same, bad_then}
use Rattle.vc_push_rules.proofs.FrameLemmas.{refs-of_objects, refs-of_slot}
use Rattle.vc_push_rules.specs.Carrying.{objects_in}
use Rattle.vc_quarantine.specs.Clean.{MakesNoneBad}
use Rattle.vc_quarantine.specs.Known.{AreWhole}
use Rattle.vc_quarantine.specs.Migrating.{IsFrontMigrated, migrated}
use Rattle.vc_quarantine.specs.declared.known.Known.{Known}
use Rattle.vc_object_map.specs.Store.{objects}
use Rattle.vc_tracking.specs.Faults.{BlamesFiles, from_store}
use Rattle.vc_tracking.specs.Moving.{IsRight, told_in}
use Rattle.vc_exchange.specs.Quarantined.{BlamesSeen}
use Rattle.vc_exchange.specs.Receiving.{BlamesPack}
use Rattle.vc_tracking.specs.declared.fault.ExchangeFault.TheVariants as exchange
use Rattle.vc_exchange.proofs.JudgingLemmas.{faulted, learnt_alone, learnt_moved, whole_refs}
use Rattle.vc_tracking.proofs.MovingLoops.{blames_before, told_err}
use Rattle.vc_exchange.proofs.PackDeeds.{blames_of_pack, fault_other, never_incomplete, pack_moving, pack_stored, pack_storing, pack_taken, store_other}
use Rattle.vc_exchange.proofs.PackLemmas.{histories_met, stored_content, stored_met, stored_outside, whole_after}
use Rattle.vc_exchange.proofs.KeptLemmas.{agrees_migrated, keeps_beside_refs}
use Rattle.vc_exchange.proofs.QuarantinedLemmas.{all_stored, cut_beside, front_keeps, keeps_beside_slot, migrated_keeps, migration_blames, others_objects, others_refs, others_same, others_slot, others_then, pack_blames, received_beside, received_cut, seen_at, seen_blames, some_stored}
use Rattle.vc_exchange.proofs.quarantined.receive_quarantined.Goals as goal
use Rattle.vc_lemmas.proofs.Lists.{on_err}

-- ---- the device
pub returns-in_err-known-clause-wear : goal.returns-in_err-known-clause-wear
returns-in_err-known-clause-wear g c = writes_told (wears_writes c.in_err-known.ensures.wear (λ _. c.in_err-known.ensures.same)) (search rules) (search rules)

pub returns-in_err-objects-clause-wear : goal.returns-in_err-objects-clause-wear
returns-in_err-objects-clause-wear g c =
    wears_then c.in_ok-known.ensures.wear (λ _. c.in_ok-known.ensures.same) (search rules)
    (writes_told (wears_writes c.in_err-objects.ensures.wear (λ _. c.in_err-objects.ensures.same)) (search rules) (search rules))

pub returns-in_err-migrate-clause-wear : goal.returns-in_err-migrate-clause-wear
returns-in_err-migrate-clause-wear g c =
    wears_then c.in_ok-known.ensures.wear (λ _. c.in_ok-known.ensures.same) (search rules)
    (wears_then c.in_ok-objects.ensures.wear (λ _. c.in_ok-objects.ensures.same) (search rules)
    (writes_told c.in_err-migrate.ensures.wear (search rules) (search rules)))

pub returns-in_err-open-clause-wear : goal.returns-in_err-open-clause-wear
returns-in_err-open-clause-wear g c =
    wears_then c.in_ok-known.ensures.wear (λ _. c.in_ok-known.ensures.same) (search rules)
    (wears_then c.in_ok-objects.ensures.wear (λ _. c.in_ok-objects.ensures.same) (search rules)
    (writes_both c.in_ok-migrate.ensures.wear (search rules) (writes_told (wears_writes c.in_err-open.ensures.wear (λ _. c.in_err-open.ensures.same)) (search rules) (search rules))))

pub returns-in_err-moved-clause-wear : goal.returns-in_err-moved-clause-wear
returns-in_err-moved-clause-wear g c =
    wears_then c.in_ok-known.ensures.wear (λ _. c.in_ok-known.ensures.same) (search rules)
    (wears_then c.in_ok-objects.ensures.wear (λ _. c.in_ok-objects.ensures.same) (search rules)
    (writes_both c.in_ok-migrate.ensures.wear (search rules)
    (wears_then c.in_ok-open.ensures.wear (λ _. c.in_ok-open.ensures.same) (search rules) (writes_told c.in_err-moved.ensures.wear (search rules) (search rules)))))

pub returns-in_err-drop_quarantine-clause-wear : goal.returns-in_err-drop_quarantine-clause-wear
returns-in_err-drop_quarantine-clause-wear g c =
    wears_then c.in_ok-known.ensures.wear (λ _. c.in_ok-known.ensures.same) (search rules)
    (wears_then c.in_ok-objects.ensures.wear (λ _. c.in_ok-objects.ensures.same) (search rules)
    (writes_both c.in_ok-migrate.ensures.wear (search rules)
    (wears_then c.in_ok-open.ensures.wear (λ _. c.in_ok-open.ensures.same) (search rules)
    (writes_both c.in_ok-moved.ensures.wear (search rules) (writes_told c.in_err-drop_quarantine.ensures.wear (search rules) (search rules))))))

pub returns-clause-wear : goal.returns-clause-wear
returns-clause-wear g c =
    wears_then c.in_ok-known.ensures.wear (λ _. c.in_ok-known.ensures.same) (search rules)
    (wears_then c.in_ok-objects.ensures.wear (λ _. c.in_ok-objects.ensures.same) (search rules)
    (writes_both c.in_ok-migrate.ensures.wear (search rules)
    (wears_then c.in_ok-open.ensures.wear (λ _. c.in_ok-open.ensures.same) (search rules)
    (writes_both c.in_ok-moved.ensures.wear (search rules) (writes_told c.in_ok-drop_quarantine.ensures.wear (search rules) (search rules))))))

-- ---- refusals
pub returns-in_err-objects-clause-refused : goal.returns-in_err-objects-clause-refused
returns-in_err-objects-clause-refused g c = λ honest agrees pack holds m is.
    let content = g.F.Files.content in
    let old = content c.args.files.now in
    let wants = c.args.wants.now in
    let e = c.in_err-objects.field-0.0 in
    let why : BlamesSeen old wants e = rw c.in_ok-known.ensures.same at (c.in_err-objects.ensures.refused honest) in
    told_err c.from_residual-in_err-objects.result e (BlamesPack old wants m) (search rules) (seen_blames old c.args.names.now pack holds wants m is e why)

pub returns-in_err-migrate-clause-refused : goal.returns-in_err-migrate-clause-refused
returns-in_err-migrate-clause-refused g c = λ honest agrees pack holds m is.
    let content = g.F.Files.content in
    let old = content c.args.files.now in
    let wants = c.args.wants.now in
    let e = c.in_err-migrate.field-0.0 in
    let why = rw (c.in_ok-objects.ensures.same, c.in_ok-known.ensures.same) at (c.in_err-migrate.ensures.refused honest) in
    told_err c.from_residual-in_err-migrate.result (from_store e) (BlamesPack old wants m) (search rules) (pack_blames old c.args.names.now pack holds wants m e (migration_blames old c.args.names.now pack holds e why))

pub returns-in_err-migrate-clause-unchanged : goal.returns-in_err-migrate-clause-unchanged
returns-in_err-migrate-clause-unchanged g c = λ honest agrees.
    let content = g.F.Files.content in
    let e = c.in_err-migrate.field-0.0 in
    told_err c.from_residual-in_err-migrate.result (from_store e) (λ x. (id : ObjectId) → x ≡ exchange.Incomplete id → content c.migrate.new.files ≡ content c.args.files.now) (search rules) (λ id is. absurd (store_other e id is))

pub returns-in_err-open-clause-unchanged : goal.returns-in_err-open-clause-unchanged
returns-in_err-open-clause-unchanged g c = λ honest agrees.
    let content = g.F.Files.content in
    let mid = content c.migrate.new.files in
    let e = c.in_err-open.field-0.0 in
    let why : BlamesFiles mid e = search (rules, c.in_err-open.ensures.refused honest) in
    told_err c.from_residual-in_err-open.result e (λ x. (id : ObjectId) → x ≡ exchange.Incomplete id → content c.open_ids.new.files ≡ content c.args.files.now) (search rules) (λ id is. absurd (never_incomplete mid e id why is))

pub returns-in_err-drop_quarantine-clause-unchanged : goal.returns-in_err-drop_quarantine-clause-unchanged
returns-in_err-drop_quarantine-clause-unchanged g c = λ honest agrees.
    let content = g.F.Files.content in
    let e = c.in_err-drop_quarantine.field-0.0 in
    told_err c.from_residual-in_err-drop_quarantine.result (exchange.Fault e) (λ x. (id : ObjectId) → x ≡ exchange.Incomplete id → content c.drop_quarantine.new.files ≡ content c.args.files.now) (search rules) (λ id is. absurd (fault_other e id is))

pub returns-in_err-moved-clause-refused : goal.returns-in_err-moved-clause-refused
returns-in_err-moved-clause-refused g c = λ honest agrees pack holds m is.
    let content = g.F.Files.content in
    let old = content c.args.files.now in
    let first = content c.judge_quarantined.new.files in
    let mid = content c.migrate.new.files in
    let seen = content c.open_ids.new.files in
    let at : first ≡ old = c.in_ok-objects.ensures.same ∙ c.in_ok-known.ensures.same in
    let e = c.in_err-moved.field-0.0 in
    let there : AgreesIn seen c.learn_known.new.generations = agrees_migrated old first mid seen c.args.names.now c.learn_known.new.generations at (c.in_ok-migrate.ensures.stored honest) c.in_ok-open.ensures.same (c.in_ok-known.ensures.agrees honest agrees) in
    let none : MakesNoneBad old mid = rw (c.in_ok-objects.ensures.same, c.in_ok-known.ensures.same) at (c.in_ok-migrate.ensures.bad honest) in
    let why : BlamesFiles seen e = search (rules, c.in_err-moved.ensures.refused honest there) in
    let before : BlamesFiles old e = blames_before old seen (bad_then none (bad_same mid seen c.in_ok-open.ensures.same)) e why in
    told_err c.from_residual-in_err-moved.result e (BlamesPack old c.args.wants.now m) (search rules) (blames_of_pack old c.args.wants.now m e before)

pub returns-in_err-moved-clause-unchanged : goal.returns-in_err-moved-clause-unchanged
returns-in_err-moved-clause-unchanged g c = λ honest agrees.
    let content = g.F.Files.content in
    let old = content c.args.files.now in
    let first = content c.judge_quarantined.new.files in
    let mid = content c.migrate.new.files in
    let seen = content c.open_ids.new.files in
    let at : first ≡ old = c.in_ok-objects.ensures.same ∙ c.in_ok-known.ensures.same in
    let e = c.in_err-moved.field-0.0 in
    let there : AgreesIn seen c.learn_known.new.generations = agrees_migrated old first mid seen c.args.names.now c.learn_known.new.generations at (c.in_ok-migrate.ensures.stored honest) c.in_ok-open.ensures.same (c.in_ok-known.ensures.agrees honest agrees) in
    let why : BlamesFiles seen e = search (rules, c.in_err-moved.ensures.refused honest there) in
    told_err c.from_residual-in_err-moved.result e (λ x. (id : ObjectId) → x ≡ exchange.Incomplete id → content c.move_refs.new.files ≡ old) (search rules) (λ id is. absurd (never_incomplete seen e id why is))

-- ---- what is done, or some of it
pub returns-in_err-migrate-clause-cut : goal.returns-in_err-migrate-clause-cut
returns-in_err-migrate-clause-cut g c = λ honest agrees pack holds r p m is refs same.
    let content = g.F.Files.content in
    let old = content c.args.files.now in
    let read = content c.learn_known.new.files in
    let first = content c.judge_quarantined.new.files in
    let mid = content c.migrate.new.files in
    let brought = pack.objects in
    let names = c.args.names.now in
    let wants = c.args.wants.now in
    let known = c.in_ok-known.known in
    let read_at : read ≡ old = c.in_ok-known.ensures.same in
    let at : first ≡ old = c.in_ok-objects.ensures.same ∙ read_at in
    let by_refs : IsSound git r → AreWhole (objects read) known = whole_refs old read known r read_at (c.in_ok-known.ensures.whole honest) p in
    let closed : IsSound git r → IsClosedUnder (links_in (with_carried (objects old) (objects_in brought))) wants = λ so. seen_at old names pack holds read read_at wants (c.in_ok-objects.ensures.complete honest (by_refs so).closed) in
    let outside = stored_outside old first mid at (c.in_err-migrate.ensures.outside honest) in
    let front : IsFrontMigrated first 0 names mid = search (rules, c.in_err-migrate.ensures.left honest) in
    let some = some_stored old names pack holds mid (subst (λ (f : FileMap). IsFrontMigrated f 0 names mid) at front) in
    on_err c.from_residual-in_err-migrate.result _ (pack_storing old r p brought is.objects is.brought m _ is.is wants refs (told_in c.args.told.now) same closed mid outside some)

pub returns-in_err-open-clause-cut : goal.returns-in_err-open-clause-cut
returns-in_err-open-clause-cut g c = λ honest agrees pack holds r p m is refs same.
    let content = g.F.Files.content in
    let old = content c.args.files.now in
    let read = content c.learn_known.new.files in
    let first = content c.judge_quarantined.new.files in
    let mid = content c.migrate.new.files in
    let brought = pack.objects in
    let names = c.args.names.now in
    let wants = c.args.wants.now in
    let known = c.in_ok-known.known in
    let read_at : read ≡ old = c.in_ok-known.ensures.same in
    let at : first ≡ old = c.in_ok-objects.ensures.same ∙ read_at in
    let by_refs : IsSound git r → AreWhole (objects read) known = whole_refs old read known r read_at (c.in_ok-known.ensures.whole honest) p in
    let closed : IsSound git r → IsClosedUnder (links_in (with_carried (objects old) (objects_in brought))) wants = λ so. seen_at old names pack holds read read_at wants (c.in_ok-objects.ensures.complete honest (by_refs so).closed) in
    let outside = stored_outside old first mid at (c.in_ok-migrate.ensures.outside honest) in
    let st = all_stored old names pack holds mid (subst (λ (f : FileMap). (q : ObjectId) → objects mid q ≡ migrated f 0 names q) at (c.in_ok-migrate.ensures.stored honest)) in
    let held = stored_content old r p brought is.objects is.brought mid outside st in
    let all = with_objects r (joined r.objects is.objects) in
    let now : HoldsContent (content c.open_ids.new.files) all = subst (λ (f : FileMap). HoldsContent f all) (sym c.in_err-open.ensures.same) held in
    on_err c.from_residual-in_err-open.result _ (pack_stored old r p brought is.objects is.brought m _ is.is wants refs (told_in c.args.told.now) same closed (content c.open_ids.new.files) now)

pub returns-in_err-moved-clause-cut : goal.returns-in_err-moved-clause-cut
returns-in_err-moved-clause-cut g c = λ honest agrees pack holds r p m is refs same.
    let content = g.F.Files.content in
    let old = content c.args.files.now in
    let read = content c.learn_known.new.files in
    let first = content c.judge_quarantined.new.files in
    let mid = content c.migrate.new.files in
    let brought = pack.objects in
    let names = c.args.names.now in
    let wants = c.args.wants.now in
    let known = c.in_ok-known.known in
    let read_at : read ≡ old = c.in_ok-known.ensures.same in
    let at : first ≡ old = c.in_ok-objects.ensures.same ∙ read_at in
    let by_refs : IsSound git r → AreWhole (objects read) known = whole_refs old read known r read_at (c.in_ok-known.ensures.whole honest) p in
    let closed : IsSound git r → IsClosedUnder (links_in (with_carried (objects old) (objects_in brought))) wants = λ so. seen_at old names pack holds read read_at wants (c.in_ok-objects.ensures.complete honest (by_refs so).closed) in
    let outside = stored_outside old first mid at (c.in_ok-migrate.ensures.outside honest) in
    let st = all_stored old names pack holds mid (subst (λ (f : FileMap). (q : ObjectId) → objects mid q ≡ migrated f 0 names q) at (c.in_ok-migrate.ensures.stored honest)) in
    let held = stored_content old r p brought is.objects is.brought mid outside st in
    let all = with_objects r (joined r.objects is.objects) in
    let seen = content c.open_ids.new.files in
    let now : HoldsContent seen all = subst (λ (f : FileMap). HoldsContent f all) (sym c.in_ok-open.ensures.same) held in
    let keys = c.in_ok-objects.objects.keys in
    let met : IsSound git r → IsClosedUnder (links_in (objects mid)) keys = λ so. stored_met old mid brought st keys (seen_at old names pack holds read read_at keys (c.in_ok-objects.ensures.met honest (by_refs so).closed)) in
    let more : Known = record { objects = c.open_ids.new.known; histories = known.histories } in
    let Right : Type 0 = IsRight seen more c.learn_known.new.generations in
    let there : AgreesIn seen c.learn_known.new.generations = agrees_migrated old first mid seen names c.learn_known.new.generations at (c.in_ok-migrate.ensures.stored honest) c.in_ok-open.ensures.same (c.in_ok-known.ensures.agrees honest agrees) in
    let right : IsSound git r → Right = λ so. record {
      whole = whole_after mid seen c.in_ok-open.ensures.same more (c.in_ok-open.ensures.known honest (met so)) (histories_met old read mid brought read_at st known (by_refs so));
      agrees = there;
    } in
    on_err c.from_residual-in_err-moved.result _ (pack_moving old r p brought is.objects is.brought m _ is.is wants refs (told_in c.args.told.now) same closed Right right (content c.move_refs.new.files) (search (rules, c.in_err-moved.ensures.left honest all now)))

pub returns-in_err-drop_quarantine-clause-cut : goal.returns-in_err-drop_quarantine-clause-cut
returns-in_err-drop_quarantine-clause-cut g c = λ honest agrees pack holds r p m is refs same.
    let content = g.F.Files.content in
    let old = content c.args.files.now in
    let read = content c.learn_known.new.files in
    let first = content c.judge_quarantined.new.files in
    let mid = content c.migrate.new.files in
    let brought = pack.objects in
    let names = c.args.names.now in
    let wants = c.args.wants.now in
    let known = c.in_ok-known.known in
    let read_at : read ≡ old = c.in_ok-known.ensures.same in
    let at : first ≡ old = c.in_ok-objects.ensures.same ∙ read_at in
    let by_refs : IsSound git r → AreWhole (objects read) known = whole_refs old read known r read_at (c.in_ok-known.ensures.whole honest) p in
    let closed : IsSound git r → IsClosedUnder (links_in (with_carried (objects old) (objects_in brought))) wants = λ so. seen_at old names pack holds read read_at wants (c.in_ok-objects.ensures.complete honest (by_refs so).closed) in
    let outside = stored_outside old first mid at (c.in_ok-migrate.ensures.outside honest) in
    let st = all_stored old names pack holds mid (subst (λ (f : FileMap). (q : ObjectId) → objects mid q ≡ migrated f 0 names q) at (c.in_ok-migrate.ensures.stored honest)) in
    let held = stored_content old r p brought is.objects is.brought mid outside st in
    let all = with_objects r (joined r.objects is.objects) in
    let seen = content c.open_ids.new.files in
    let now : HoldsContent seen all = subst (λ (f : FileMap). HoldsContent f all) (sym c.in_ok-open.ensures.same) held in
    let keys = c.in_ok-objects.objects.keys in
    let met : IsSound git r → IsClosedUnder (links_in (objects mid)) keys = λ so. stored_met old mid brought st keys (seen_at old names pack holds read read_at keys (c.in_ok-objects.ensures.met honest (by_refs so).closed)) in
    let more : Known = record { objects = c.open_ids.new.known; histories = known.histories } in
    let Right : Type 0 = IsRight seen more c.learn_known.new.generations in
    let there : AgreesIn seen c.learn_known.new.generations = agrees_migrated old first mid seen names c.learn_known.new.generations at (c.in_ok-migrate.ensures.stored honest) c.in_ok-open.ensures.same (c.in_ok-known.ensures.agrees honest agrees) in
    let right : IsSound git r → Right = λ so. record {
      whole = whole_after mid seen c.in_ok-open.ensures.same more (c.in_ok-open.ensures.known honest (met so)) (histories_met old read mid brought read_at st known (by_refs so));
      agrees = there;
    } in
    let done = pack_taken old r p brought is.objects is.brought m _ is.is wants refs (told_in c.args.told.now) same closed Right right (content c.move_refs.new.files) c.in_ok-moved.moved c.in_ok-open.open.items
    (c.in_ok-moved.ensures.moved honest all now) (λ so. c.in_ok-open.ensures.wanted honest (met so) all held) in
    on_err c.from_residual-in_err-drop_quarantine.result _ (cut_beside (content c.move_refs.new.files) (content c.drop_quarantine.new.files) (c.in_err-drop_quarantine.ensures.outside honest) r _ m (received_cut r _ m (content c.move_refs.new.files) _ _ _ done))

pub returns-clause-taken : goal.returns-clause-taken
returns-clause-taken g c = λ honest agrees pack holds r p m is refs same.
    let content = g.F.Files.content in
    let old = content c.args.files.now in
    let read = content c.learn_known.new.files in
    let first = content c.judge_quarantined.new.files in
    let mid = content c.migrate.new.files in
    let brought = pack.objects in
    let names = c.args.names.now in
    let wants = c.args.wants.now in
    let known = c.in_ok-known.known in
    let read_at : read ≡ old = c.in_ok-known.ensures.same in
    let at : first ≡ old = c.in_ok-objects.ensures.same ∙ read_at in
    let by_refs : IsSound git r → AreWhole (objects read) known = whole_refs old read known r read_at (c.in_ok-known.ensures.whole honest) p in
    let closed : IsSound git r → IsClosedUnder (links_in (with_carried (objects old) (objects_in brought))) wants = λ so. seen_at old names pack holds read read_at wants (c.in_ok-objects.ensures.complete honest (by_refs so).closed) in
    let outside = stored_outside old first mid at (c.in_ok-migrate.ensures.outside honest) in
    let st = all_stored old names pack holds mid (subst (λ (f : FileMap). (q : ObjectId) → objects mid q ≡ migrated f 0 names q) at (c.in_ok-migrate.ensures.stored honest)) in
    let held = stored_content old r p brought is.objects is.brought mid outside st in
    let all = with_objects r (joined r.objects is.objects) in
    let seen = content c.open_ids.new.files in
    let now : HoldsContent seen all = subst (λ (f : FileMap). HoldsContent f all) (sym c.in_ok-open.ensures.same) held in
    let keys = c.in_ok-objects.objects.keys in
    let met : IsSound git r → IsClosedUnder (links_in (objects mid)) keys = λ so. stored_met old mid brought st keys (seen_at old names pack holds read read_at keys (c.in_ok-objects.ensures.met honest (by_refs so).closed)) in
    let more : Known = record { objects = c.open_ids.new.known; histories = known.histories } in
    let Right : Type 0 = IsRight seen more c.learn_known.new.generations in
    let there : AgreesIn seen c.learn_known.new.generations = agrees_migrated old first mid seen names c.learn_known.new.generations at (c.in_ok-migrate.ensures.stored honest) c.in_ok-open.ensures.same (c.in_ok-known.ensures.agrees honest agrees) in
    let right : IsSound git r → Right = λ so. record {
      whole = whole_after mid seen c.in_ok-open.ensures.same more (c.in_ok-open.ensures.known honest (met so)) (histories_met old read mid brought read_at st known (by_refs so));
      agrees = there;
    } in
    let done = pack_taken old r p brought is.objects is.brought m _ is.is wants refs (told_in c.args.told.now) same closed Right right (content c.move_refs.new.files) c.in_ok-moved.moved c.in_ok-open.open.items
    (c.in_ok-moved.ensures.moved honest all now) (λ so. c.in_ok-open.ensures.wanted honest (met so) all held) in
    let after = received_beside (content c.move_refs.new.files) (content c.drop_quarantine.new.files) (c.in_ok-drop_quarantine.ensures.outside honest) r _ m _ _ _ done in
    search (rules, after, c.len.ensures)

-- ---- the objects stay, no file becomes bad, and all else stays
pub returns-in_err-known-clause-kept : goal.returns-in_err-known-clause-kept
returns-in_err-known-clause-kept g c = λ honest.
    record {
      good = record { objects = keeps_same _ _ c.in_err-known.ensures.same; bad = bad_same _ _ c.in_err-known.ensures.same };
      others = others_same _ _ c.in_err-known.ensures.same;
    }

pub returns-in_err-objects-clause-kept : goal.returns-in_err-objects-clause-kept
returns-in_err-objects-clause-kept g c = λ honest.
    record {
      good = record { objects = keeps_same _ _ (c.in_err-objects.ensures.same ∙ c.in_ok-known.ensures.same); bad = bad_same _ _ (c.in_err-objects.ensures.same ∙ c.in_ok-known.ensures.same) };
      others = others_same _ _ (c.in_err-objects.ensures.same ∙ c.in_ok-known.ensures.same);
    }

pub returns-in_err-migrate-clause-kept : goal.returns-in_err-migrate-clause-kept
returns-in_err-migrate-clause-kept g c = λ honest.
    let content = g.F.Files.content in
    let front : IsFrontMigrated (content c.judge_quarantined.new.files) 0 c.args.names.now (content c.migrate.new.files) = search (rules, c.in_err-migrate.ensures.left honest) in
    record {
      good = record { objects = keeps_then _ _ _ (keeps_same _ _ (c.in_ok-objects.ensures.same ∙ c.in_ok-known.ensures.same)) (front_keeps _ 0 _ c.args.names.now front); bad = rw (c.in_ok-objects.ensures.same, c.in_ok-known.ensures.same) at (c.in_err-migrate.ensures.bad honest) };
      others = others_then _ _ _ (others_same _ _ (c.in_ok-objects.ensures.same ∙ c.in_ok-known.ensures.same)) (others_objects _ _ (c.in_err-migrate.ensures.outside honest));
    }

pub returns-in_err-open-clause-kept : goal.returns-in_err-open-clause-kept
returns-in_err-open-clause-kept g c = λ honest.
    let content = g.F.Files.content in
    let stored : MakesNoneBad (content c.args.files.now) (content c.migrate.new.files) = rw (c.in_ok-objects.ensures.same, c.in_ok-known.ensures.same) at (c.in_ok-migrate.ensures.bad honest) in
    record {
      good = record { objects = keeps_then _ _ _ (keeps_same _ _ (c.in_ok-objects.ensures.same ∙ c.in_ok-known.ensures.same)) (keeps_then _ _ _ (migrated_keeps (g.F.Files.content c.judge_quarantined.new.files) 0 (g.F.Files.content c.migrate.new.files) c.args.names.now (c.in_ok-migrate.ensures.stored honest)) (keeps_same _ _ c.in_err-open.ensures.same)); bad = bad_then stored (bad_same _ _ c.in_err-open.ensures.same) };
      others = others_then _ _ _ (others_same _ _ (c.in_ok-objects.ensures.same ∙ c.in_ok-known.ensures.same)) (others_then _ _ _ (others_objects _ _ (c.in_ok-migrate.ensures.outside honest)) (others_same _ _ c.in_err-open.ensures.same));
    }

pub returns-in_err-moved-clause-kept : goal.returns-in_err-moved-clause-kept
returns-in_err-moved-clause-kept g c = λ honest.
    let content = g.F.Files.content in
    let stored : MakesNoneBad (content c.args.files.now) (content c.migrate.new.files) = rw (c.in_ok-objects.ensures.same, c.in_ok-known.ensures.same) at (c.in_ok-migrate.ensures.bad honest) in
    let moved : MakesNoneBad (content c.migrate.new.files) (content c.move_refs.new.files) = rw c.in_ok-open.ensures.same at (c.in_err-moved.ensures.bad honest) in
    record {
      good = record { objects = keeps_then _ _ _ (keeps_same _ _ (c.in_ok-objects.ensures.same ∙ c.in_ok-known.ensures.same)) (keeps_then _ _ _ (migrated_keeps (g.F.Files.content c.judge_quarantined.new.files) 0 (g.F.Files.content c.migrate.new.files) c.args.names.now (c.in_ok-migrate.ensures.stored honest)) (keeps_then _ _ _ (keeps_same _ _ c.in_ok-open.ensures.same) (keeps_beside_refs _ _ (c.in_err-moved.ensures.outside honest)))); bad = bad_then stored moved };
      others = others_then _ _ _ (others_same _ _ (c.in_ok-objects.ensures.same ∙ c.in_ok-known.ensures.same)) (others_then _ _ _ (others_objects _ _ (c.in_ok-migrate.ensures.outside honest)) (others_then _ _ _ (others_same _ _ c.in_ok-open.ensures.same) (others_refs _ _ (c.in_err-moved.ensures.outside honest))));
    }

pub returns-in_err-drop_quarantine-clause-kept : goal.returns-in_err-drop_quarantine-clause-kept
returns-in_err-drop_quarantine-clause-kept g c = λ honest.
    let content = g.F.Files.content in
    let stored : MakesNoneBad (content c.args.files.now) (content c.migrate.new.files) = rw (c.in_ok-objects.ensures.same, c.in_ok-known.ensures.same) at (c.in_ok-migrate.ensures.bad honest) in
    let moved : MakesNoneBad (content c.migrate.new.files) (content c.move_refs.new.files) = rw c.in_ok-open.ensures.same at (c.in_ok-moved.ensures.bad honest) in
    record {
      good = record { objects = keeps_then _ _ _ (keeps_same _ _ (c.in_ok-objects.ensures.same ∙ c.in_ok-known.ensures.same)) (keeps_then _ _ _ (migrated_keeps (g.F.Files.content c.judge_quarantined.new.files) 0 (g.F.Files.content c.migrate.new.files) c.args.names.now (c.in_ok-migrate.ensures.stored honest)) (keeps_then _ _ _ (keeps_same _ _ c.in_ok-open.ensures.same) (keeps_then _ _ _ (keeps_beside_refs _ _ (c.in_ok-moved.ensures.outside honest)) (keeps_beside_slot _ _ (c.in_err-drop_quarantine.ensures.outside honest))))); bad = bad_then stored (bad_then moved (c.in_err-drop_quarantine.ensures.bad honest)) };
      others = others_then _ _ _ (others_same _ _ (c.in_ok-objects.ensures.same ∙ c.in_ok-known.ensures.same)) (others_then _ _ _ (others_objects _ _ (c.in_ok-migrate.ensures.outside honest)) (others_then _ _ _ (others_same _ _ c.in_ok-open.ensures.same) (others_then _ _ _ (others_refs _ _ (c.in_ok-moved.ensures.outside honest)) (others_slot _ _ (c.in_err-drop_quarantine.ensures.outside honest)))));
    }

pub returns-clause-kept : goal.returns-clause-kept
returns-clause-kept g c = λ honest.
    let content = g.F.Files.content in
    let stored : MakesNoneBad (content c.args.files.now) (content c.migrate.new.files) = rw (c.in_ok-objects.ensures.same, c.in_ok-known.ensures.same) at (c.in_ok-migrate.ensures.bad honest) in
    let moved : MakesNoneBad (content c.migrate.new.files) (content c.move_refs.new.files) = rw c.in_ok-open.ensures.same at (c.in_ok-moved.ensures.bad honest) in
    record {
      good = record { objects = keeps_then _ _ _ (keeps_same _ _ (c.in_ok-objects.ensures.same ∙ c.in_ok-known.ensures.same)) (keeps_then _ _ _ (migrated_keeps (g.F.Files.content c.judge_quarantined.new.files) 0 (g.F.Files.content c.migrate.new.files) c.args.names.now (c.in_ok-migrate.ensures.stored honest)) (keeps_then _ _ _ (keeps_same _ _ c.in_ok-open.ensures.same) (keeps_then _ _ _ (keeps_beside_refs _ _ (c.in_ok-moved.ensures.outside honest)) (keeps_beside_slot _ _ (c.in_ok-drop_quarantine.ensures.outside honest))))); bad = bad_then stored (bad_then moved (c.in_ok-drop_quarantine.ensures.bad honest)) };
      others = others_then _ _ _ (others_same _ _ (c.in_ok-objects.ensures.same ∙ c.in_ok-known.ensures.same)) (others_then _ _ _ (others_objects _ _ (c.in_ok-migrate.ensures.outside honest)) (others_then _ _ _ (others_same _ _ c.in_ok-open.ensures.same) (others_then _ _ _ (others_refs _ _ (c.in_ok-moved.ensures.outside honest)) (others_slot _ _ (c.in_ok-drop_quarantine.ensures.outside honest)))));
    }

-- ---- what is learnt
pub returns-in_err-known-clause-learns : goal.returns-in_err-known-clause-learns
returns-in_err-known-clause-learns g c = λ honest agrees.
    let is : c.from_residual.result ≡ Err (exchange.Fault c.in_err-known.field-0.0) = search rules in
    faulted _ _ _ _ c.from_residual.result c.in_err-known.field-0.0 is (c.in_err-known.ensures.agrees honest agrees)

pub returns-in_err-objects-clause-learns : goal.returns-in_err-objects-clause-learns
returns-in_err-objects-clause-learns g c = λ honest agrees.
    learnt_alone (c.in_ok-known.ensures.learnt honest agrees) (c.in_ok-known.ensures.agrees honest agrees) (ap refs (c.in_err-objects.ensures.same ∙ c.in_ok-known.ensures.same))

pub returns-in_err-migrate-clause-learns : goal.returns-in_err-migrate-clause-learns
returns-in_err-migrate-clause-learns g c = λ honest agrees.
    learnt_alone (c.in_ok-known.ensures.learnt honest agrees) (c.in_ok-known.ensures.agrees honest agrees) (refs-of_objects _ _ (c.in_err-migrate.ensures.outside honest) ∙ ap refs (c.in_ok-objects.ensures.same ∙ c.in_ok-known.ensures.same))

pub returns-in_err-open-clause-learns : goal.returns-in_err-open-clause-learns
returns-in_err-open-clause-learns g c = λ honest agrees.
    learnt_alone (c.in_ok-known.ensures.learnt honest agrees) (c.in_ok-known.ensures.agrees honest agrees) (ap refs c.in_err-open.ensures.same ∙ refs-of_objects _ _ (c.in_ok-migrate.ensures.outside honest) ∙ ap refs (c.in_ok-objects.ensures.same ∙ c.in_ok-known.ensures.same))

pub returns-in_err-moved-clause-learns : goal.returns-in_err-moved-clause-learns
returns-in_err-moved-clause-learns g c = λ honest agrees.
    let content = g.F.Files.content in
    learnt_moved (c.in_ok-known.ensures.learnt honest agrees) (c.in_ok-known.ensures.agrees honest agrees) (content c.open_ids.new.files) (content c.move_refs.new.files) (ap refs c.in_ok-open.ensures.same ∙ refs-of_objects _ _ (c.in_ok-migrate.ensures.outside honest) ∙ ap refs (c.in_ok-objects.ensures.same ∙ c.in_ok-known.ensures.same)) refl (c.in_err-moved.ensures.noted honest).noted

pub returns-in_err-drop_quarantine-clause-learns : goal.returns-in_err-drop_quarantine-clause-learns
returns-in_err-drop_quarantine-clause-learns g c = λ honest agrees.
    let content = g.F.Files.content in
    learnt_moved (c.in_ok-known.ensures.learnt honest agrees) (c.in_ok-known.ensures.agrees honest agrees) (content c.open_ids.new.files) (content c.move_refs.new.files) (ap refs c.in_ok-open.ensures.same ∙ refs-of_objects _ _ (c.in_ok-migrate.ensures.outside honest) ∙ ap refs (c.in_ok-objects.ensures.same ∙ c.in_ok-known.ensures.same)) (refs-of_slot 0 (content c.move_refs.new.files) (content c.drop_quarantine.new.files) (c.in_err-drop_quarantine.ensures.outside honest)) (c.in_ok-moved.ensures.noted honest).noted

pub returns-clause-learns : goal.returns-clause-learns
returns-clause-learns g c = λ honest agrees.
    let content = g.F.Files.content in
    learnt_moved (c.in_ok-known.ensures.learnt honest agrees) (c.in_ok-known.ensures.agrees honest agrees) (content c.open_ids.new.files) (content c.move_refs.new.files) (ap refs c.in_ok-open.ensures.same ∙ refs-of_objects _ _ (c.in_ok-migrate.ensures.outside honest) ∙ ap refs (c.in_ok-objects.ensures.same ∙ c.in_ok-known.ensures.same)) (refs-of_slot 0 (content c.move_refs.new.files) (content c.drop_quarantine.new.files) (c.in_ok-drop_quarantine.ensures.outside honest)) (c.in_ok-moved.ensures.noted honest).noted
