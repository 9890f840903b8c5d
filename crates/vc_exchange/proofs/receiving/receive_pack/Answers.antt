use Rattle.std.proofs.Common.{rules, ◌≡◌, Result, Err, refl, sym, ap, ◌∙◌, subst}
use Rattle.vc_history.proofs.StoredLemmas.{keeps_same, keeps_then}
use Rattle.vc_pack.specs.AnswerFault.{IsRefusedPack}
use Rattle.vc_pack.specs.declared.fault.AnswerFault.{AnswerFault}
use Rattle.vc_pack.specs.declared.fault.AnswerFault.TheVariants as answer
use Rattle.vc_fetch.specs.PackObjects as fetch
use Rattle.vc_files.specs.FileMap.{FileMap}
use Rattle.vc_files.proofs.WearLemmas.{wears_then, wears_writes, writes_both, writes_told}
use Rattle.vc_object_map.specs.Graph.{IsClosedUnder}
use Rattle.vc_object_map.specs.Overlay.{with_carried}
use Rattle.vc_graph.specs.declared.fault.GraphFault.TheVariants as of_graph
use Rattle.vc_history.specs.Stored.{AgreesIn}
use Rattle.vc_model.specs.Repository.{IsSound, with_objects}
use Rattle.vc_object.specs.ObjectMap.{ObjectMap, links_in}
use Rattle.vc_object.specs.declared.id.ObjectId.{ObjectId}
use Rattle.vc_pkt.specs.ObjectStreamView.{carried}
use Rattle.vc_refs.specs.Refs.{refs}
use Rattle.vc_rules.proofs.JoinLemmas.{joined}
use Rattle.vc_rules.specs.Git.{git}
use Rattle.vc_rules.specs.OpenPushes.{HoldsContent}
use Rattle.vc_quarantine.proofs.CleanLemmas.{bad_same, bad_then}
use Rattle.vc_push_rules.proofs.FrameLemmas.{refs-of_objects}
use Rattle.vc_push_rules.specs.Carrying.{objects_in}
use Rattle.vc_quarantine.specs.Clean.{MakesNoneBad}
use Rattle.vc_quarantine.specs.Known.{AreWhole}
use Rattle.vc_quarantine.specs.declared.known.Known.{Known}
use Rattle.vc_object_map.specs.Store.{objects}
use Rattle.vc_tracking.specs.Faults.{BlamesFiles, from_answer, from_store}
use Rattle.vc_tracking.specs.Moving.{IsRight, told_in}
use Rattle.vc_exchange.specs.Receiving.{BlamesPack}
use Rattle.vc_tracking.specs.Storing.{AreSomeStored}
use Rattle.vc_tracking.specs.declared.fault.ExchangeFault.TheVariants as exchange
use Rattle.vc_files.specs.declared.faults.Fault.TheVariants.{Device}
use Rattle.vc_exchange.proofs.JudgingLemmas.{faulted, learnt_alone, learnt_moved, whole_refs}
use Rattle.vc_tracking.proofs.MovingLoops.{blames_before, told_err}
use Rattle.vc_exchange.proofs.PackDeeds.{blames_of_pack, judge_blames, never_incomplete, pack_moving, pack_stored, pack_storing, pack_taken, store_other}
use Rattle.vc_exchange.proofs.PackLemmas.{brought_closed, brought_same, histories_met, stored_content, stored_met, stored_outside, stored_since, some_since, whole_after}
use Rattle.vc_exchange.proofs.KeptLemmas.{agrees_stored, keeps_beside_refs, keeps_some, keeps_stored}
use Rattle.vc_exchange.proofs.receiving.receive_pack.Goals as goal
use Rattle.vc_lemmas.proofs.Lists.{on_err}

err_same : {A E : Type 0} {e f : E} → ◌≡◌ {A = Result A E} (Err e) (Err f) → e ≡ f
err_same h = cc

pub returns-in_err-known-clause-wear : goal.returns-in_err-known-clause-wear
returns-in_err-known-clause-wear g c = writes_told (wears_writes c.in_err-known.ensures.wear (λ _. c.in_err-known.ensures.same)) (search rules) (search rules)

pub returns-in_err-objects-clause-refused : goal.returns-in_err-objects-clause-refused
returns-in_err-objects-clause-refused g c = λ honest agrees m p.
    let content = g.F.Files.content in
    let old = content c.args.files.now in
    let read = content c.learn_known.new.files in
    let brought = carried c.args.pack.now.objects in
    let wants = c.args.wants.now in
    let e = c.in_err-objects.field-0.0 in
    let why : IsRefusedPack read (fetch.objects_in brought) wants e = search (rules, c.in_err-objects.ensures.refused honest) in
    let at : IsRefusedPack old (objects_in brought) wants e = subst (λ (f : FileMap). IsRefusedPack f (objects_in brought) wants e) c.in_ok-known.ensures.same (subst (λ (o : ObjectMap). IsRefusedPack read o wants e) (brought_same brought) why) in
    let blamed : BlamesPack old wants m (from_answer e) = judge_blames old brought wants m p.objects _ e p.brought p.is at in
    told_err c.from_residual-in_err-objects.result (from_answer e) (BlamesPack old wants m) (search rules) blamed

-- no other refusal becomes a fault of the device
plain : (e : AnswerFault) → from_answer e ≡ exchange.Fault Device → e ≡ answer.Fault Device
plain (answer.NotOurs id) h = cc h
plain (answer.Incomplete id) h = cc h
plain (answer.Refs fault) h = cc h
plain (answer.Graph (of_graph.Missing id)) h = cc h
plain (answer.Graph (of_graph.Store fault)) h = cc h
plain (answer.Fault fault) h = cc h

pub returns-in_err-objects-clause-wear : goal.returns-in_err-objects-clause-wear
returns-in_err-objects-clause-wear g c =
    let e = c.in_err-objects.field-0.0 in
    let is : c.from_residual-in_err-objects.result ≡ Err (from_answer e) = search rules in
    wears_then c.in_ok-known.ensures.wear (λ _. c.in_ok-known.ensures.same) (search rules)
    (writes_told (wears_writes c.in_err-objects.ensures.wear (λ _. c.in_err-objects.ensures.same))
    (λ told. let same : e ≡ answer.Fault Device = cc in is ∙ ap (λ (x : AnswerFault). Err (from_answer x)) same)
    (λ told. let same : from_answer e ≡ exchange.Fault Device = err_same (sym is ∙ told) in ap Err (plain e same)))

pub returns-in_err-store_all-clause-cut : goal.returns-in_err-store_all-clause-cut
returns-in_err-store_all-clause-cut g c = λ honest agrees r p m pack refs same.
    let content = g.F.Files.content in
    let old = content c.args.files.now in
    let read = content c.learn_known.new.files in
    let first = content c.judge_pack.new.files in
    let mid = content c.store_all.new.files in
    let brought = carried c.args.pack.now.objects in
    let wants = c.args.wants.now in
    let seen_at : read ≡ old = c.in_ok-known.ensures.same in
    let at : first ≡ old = c.in_ok-objects.ensures.same ∙ seen_at in
    let by_refs : IsSound git r → AreWhole (objects read) c.in_ok-known.known = whole_refs old read c.in_ok-known.known r seen_at (c.in_ok-known.ensures.whole honest) p in
    let closed : IsSound git r → IsClosedUnder (links_in (with_carried (objects old) (objects_in brought))) wants = λ is. brought_closed old read brought wants seen_at (c.in_ok-objects.ensures.complete honest (by_refs is).closed) in
    let outside = stored_outside old first mid at (c.in_err-store_all.ensures.outside honest) in
    let some : AreSomeStored first mid brought = search (rules, c.in_err-store_all.ensures.left honest) in
    on_err c.from_residual-in_err-store_all.result _ (pack_storing old r p brought pack.objects pack.brought m _ pack.is wants refs (told_in c.args.told.now) same closed mid outside (some_since old first mid brought at some))

pub returns-in_err-store_all-clause-wear : goal.returns-in_err-store_all-clause-wear
returns-in_err-store_all-clause-wear g c =
    wears_then c.in_ok-known.ensures.wear (λ _. c.in_ok-known.ensures.same) (search rules)
    (wears_then c.in_ok-objects.ensures.wear (λ _. c.in_ok-objects.ensures.same) (search rules) (writes_told c.in_err-store_all.ensures.wear (search rules) (search rules)))

pub returns-in_err-store_all-clause-unchanged : goal.returns-in_err-store_all-clause-unchanged
returns-in_err-store_all-clause-unchanged g c = λ honest agrees.
    let content = g.F.Files.content in
    let e = c.in_err-store_all.field-0.0 in
    told_err c.from_residual-in_err-store_all.result (from_store e) (λ x. (id : ObjectId) → x ≡ exchange.Incomplete id → content c.store_all.new.files ≡ content c.args.files.now) (search rules) (λ id is. absurd (store_other e id is))

pub returns-in_err-open-clause-cut : goal.returns-in_err-open-clause-cut
returns-in_err-open-clause-cut g c = λ honest agrees r p m pack refs same.
    let content = g.F.Files.content in
    let old = content c.args.files.now in
    let read = content c.learn_known.new.files in
    let first = content c.judge_pack.new.files in
    let mid = content c.store_all.new.files in
    let brought = carried c.args.pack.now.objects in
    let wants = c.args.wants.now in
    let seen_at : read ≡ old = c.in_ok-known.ensures.same in
    let at : first ≡ old = c.in_ok-objects.ensures.same ∙ seen_at in
    let by_refs : IsSound git r → AreWhole (objects read) c.in_ok-known.known = whole_refs old read c.in_ok-known.known r seen_at (c.in_ok-known.ensures.whole honest) p in
    let closed : IsSound git r → IsClosedUnder (links_in (with_carried (objects old) (objects_in brought))) wants = λ is. brought_closed old read brought wants seen_at (c.in_ok-objects.ensures.complete honest (by_refs is).closed) in
    let outside = stored_outside old first mid at (c.in_ok-store_all.ensures.outside honest) in
    let st = stored_since old first mid brought at (c.in_ok-store_all.ensures.stored honest) in
    let held = stored_content old r p brought pack.objects pack.brought mid outside st in
    let now : HoldsContent (content c.open_ids.new.files) (with_objects r (joined r.objects pack.objects)) = subst (λ (f : FileMap). HoldsContent f (with_objects r (joined r.objects pack.objects))) (sym c.in_err-open.ensures.same) held in
    on_err c.from_residual-in_err-open.result _ (pack_stored old r p brought pack.objects pack.brought m _ pack.is wants refs (told_in c.args.told.now) same closed (content c.open_ids.new.files) now)

pub returns-in_err-open-clause-wear : goal.returns-in_err-open-clause-wear
returns-in_err-open-clause-wear g c =
    wears_then c.in_ok-known.ensures.wear (λ _. c.in_ok-known.ensures.same) (search rules)
    (wears_then c.in_ok-objects.ensures.wear (λ _. c.in_ok-objects.ensures.same) (search rules)
    (writes_both c.in_ok-store_all.ensures.wear (search rules) (writes_told (wears_writes c.in_err-open.ensures.wear (λ _. c.in_err-open.ensures.same)) (search rules) (search rules))))

pub returns-in_err-moved-clause-cut : goal.returns-in_err-moved-clause-cut
returns-in_err-moved-clause-cut g c = λ honest agrees r p m pack refs same.
    let content = g.F.Files.content in
    let old = content c.args.files.now in
    let read = content c.learn_known.new.files in
    let first = content c.judge_pack.new.files in
    let mid = content c.store_all.new.files in
    let seen = content c.open_ids.new.files in
    let brought = carried c.args.pack.now.objects in
    let wants = c.args.wants.now in
    let known = c.in_ok-known.known in
    let keys = c.in_ok-objects.objects.keys in
    let seen_at : read ≡ old = c.in_ok-known.ensures.same in
    let at : first ≡ old = c.in_ok-objects.ensures.same ∙ seen_at in
    let by_refs : IsSound git r → AreWhole (objects read) known = whole_refs old read known r seen_at (c.in_ok-known.ensures.whole honest) p in
    let closed : IsSound git r → IsClosedUnder (links_in (with_carried (objects old) (objects_in brought))) wants = λ is. brought_closed old read brought wants seen_at (c.in_ok-objects.ensures.complete honest (by_refs is).closed) in
    let outside = stored_outside old first mid at (c.in_ok-store_all.ensures.outside honest) in
    let st = stored_since old first mid brought at (c.in_ok-store_all.ensures.stored honest) in
    let held = stored_content old r p brought pack.objects pack.brought mid outside st in
    let all = with_objects r (joined r.objects pack.objects) in
    let now : HoldsContent seen all = subst (λ (f : FileMap). HoldsContent f all) (sym c.in_ok-open.ensures.same) held in
    let met : IsSound git r → IsClosedUnder (links_in (objects mid)) keys = λ is. stored_met old mid brought st keys (brought_closed old read brought keys seen_at (c.in_ok-objects.ensures.met honest (by_refs is).closed)) in
    let more : Known = record { objects = c.open_ids.new.known; histories = known.histories } in
    let Right : Type 0 = IsRight seen more c.learn_known.new.generations in
    let there : AgreesIn seen c.learn_known.new.generations = agrees_stored old first mid seen brought c.learn_known.new.generations at (c.in_ok-store_all.ensures.stored honest) c.in_ok-open.ensures.same (c.in_ok-known.ensures.agrees honest agrees) in
    let right : IsSound git r → Right = λ is. record {
      whole = whole_after mid seen c.in_ok-open.ensures.same more (c.in_ok-open.ensures.known honest (met is)) (histories_met old read mid brought seen_at st known (by_refs is));
      agrees = there;
    } in
    on_err c.from_residual-in_err-moved.result _ (pack_moving old r p brought pack.objects pack.brought m _ pack.is wants refs (told_in c.args.told.now) same closed Right right (content c.move_refs.new.files) (search (rules, c.in_err-moved.ensures.left honest all now)))

pub returns-in_err-open-clause-unchanged : goal.returns-in_err-open-clause-unchanged
returns-in_err-open-clause-unchanged g c = λ honest agrees.
    let content = g.F.Files.content in
    let mid = content c.store_all.new.files in
    let e = c.in_err-open.field-0.0 in
    let why : BlamesFiles mid e = search (rules, c.in_err-open.ensures.refused honest) in
    told_err c.from_residual-in_err-open.result e (λ x. (id : ObjectId) → x ≡ exchange.Incomplete id → content c.open_ids.new.files ≡ content c.args.files.now) (search rules) (λ id is. absurd (never_incomplete mid e id why is))

pub returns-in_err-moved-clause-refused : goal.returns-in_err-moved-clause-refused
returns-in_err-moved-clause-refused g c = λ honest agrees m p.
    let content = g.F.Files.content in
    let old = content c.args.files.now in
    let first = content c.judge_pack.new.files in
    let mid = content c.store_all.new.files in
    let seen = content c.open_ids.new.files in
    let at : first ≡ old = c.in_ok-objects.ensures.same ∙ c.in_ok-known.ensures.same in
    let e = c.in_err-moved.field-0.0 in
    let there : AgreesIn seen c.learn_known.new.generations = agrees_stored old first mid seen (carried c.args.pack.now.objects) c.learn_known.new.generations at (c.in_ok-store_all.ensures.stored honest) c.in_ok-open.ensures.same (c.in_ok-known.ensures.agrees honest agrees) in
    let none : MakesNoneBad old mid = rw (c.in_ok-objects.ensures.same, c.in_ok-known.ensures.same) at (c.in_ok-store_all.ensures.bad honest) in
    let why : BlamesFiles seen e = search (rules, c.in_err-moved.ensures.refused honest there) in
    let before : BlamesFiles old e = blames_before old seen (bad_then none (bad_same mid seen c.in_ok-open.ensures.same)) e why in
    told_err c.from_residual-in_err-moved.result e (BlamesPack old c.args.wants.now m) (search rules) (blames_of_pack old c.args.wants.now m e before)

pub returns-in_err-moved-clause-unchanged : goal.returns-in_err-moved-clause-unchanged
returns-in_err-moved-clause-unchanged g c = λ honest agrees.
    let content = g.F.Files.content in
    let old = content c.args.files.now in
    let first = content c.judge_pack.new.files in
    let mid = content c.store_all.new.files in
    let seen = content c.open_ids.new.files in
    let at : first ≡ old = c.in_ok-objects.ensures.same ∙ c.in_ok-known.ensures.same in
    let e = c.in_err-moved.field-0.0 in
    let there : AgreesIn seen c.learn_known.new.generations = agrees_stored old first mid seen (carried c.args.pack.now.objects) c.learn_known.new.generations at (c.in_ok-store_all.ensures.stored honest) c.in_ok-open.ensures.same (c.in_ok-known.ensures.agrees honest agrees) in
    let why : BlamesFiles seen e = search (rules, c.in_err-moved.ensures.refused honest there) in
    told_err c.from_residual-in_err-moved.result e (λ x. (id : ObjectId) → x ≡ exchange.Incomplete id → content c.move_refs.new.files ≡ old) (search rules) (λ id is. absurd (never_incomplete seen e id why is))

pub returns-in_err-moved-clause-wear : goal.returns-in_err-moved-clause-wear
returns-in_err-moved-clause-wear g c =
    wears_then c.in_ok-known.ensures.wear (λ _. c.in_ok-known.ensures.same) (search rules)
    (wears_then c.in_ok-objects.ensures.wear (λ _. c.in_ok-objects.ensures.same) (search rules)
    (writes_both c.in_ok-store_all.ensures.wear (search rules)
    (wears_then c.in_ok-open.ensures.wear (λ _. c.in_ok-open.ensures.same) (search rules) (writes_told c.in_err-moved.ensures.wear (search rules) (search rules)))))

pub returns-clause-taken : goal.returns-clause-taken
returns-clause-taken g c = λ honest agrees r p m pack refs same.
    let content = g.F.Files.content in
    let old = content c.args.files.now in
    let read = content c.learn_known.new.files in
    let first = content c.judge_pack.new.files in
    let mid = content c.store_all.new.files in
    let seen = content c.open_ids.new.files in
    let brought = carried c.args.pack.now.objects in
    let wants = c.args.wants.now in
    let known = c.in_ok-known.known in
    let keys = c.in_ok-objects.objects.keys in
    let seen_at : read ≡ old = c.in_ok-known.ensures.same in
    let at : first ≡ old = c.in_ok-objects.ensures.same ∙ seen_at in
    let by_refs : IsSound git r → AreWhole (objects read) known = whole_refs old read known r seen_at (c.in_ok-known.ensures.whole honest) p in
    let closed : IsSound git r → IsClosedUnder (links_in (with_carried (objects old) (objects_in brought))) wants = λ is. brought_closed old read brought wants seen_at (c.in_ok-objects.ensures.complete honest (by_refs is).closed) in
    let outside = stored_outside old first mid at (c.in_ok-store_all.ensures.outside honest) in
    let st = stored_since old first mid brought at (c.in_ok-store_all.ensures.stored honest) in
    let held = stored_content old r p brought pack.objects pack.brought mid outside st in
    let all = with_objects r (joined r.objects pack.objects) in
    let now : HoldsContent seen all = subst (λ (f : FileMap). HoldsContent f all) (sym c.in_ok-open.ensures.same) held in
    let met : IsSound git r → IsClosedUnder (links_in (objects mid)) keys = λ is. stored_met old mid brought st keys (brought_closed old read brought keys seen_at (c.in_ok-objects.ensures.met honest (by_refs is).closed)) in
    let more : Known = record { objects = c.open_ids.new.known; histories = known.histories } in
    let Right : Type 0 = IsRight seen more c.learn_known.new.generations in
    let there : AgreesIn seen c.learn_known.new.generations = agrees_stored old first mid seen brought c.learn_known.new.generations at (c.in_ok-store_all.ensures.stored honest) c.in_ok-open.ensures.same (c.in_ok-known.ensures.agrees honest agrees) in
    let right : IsSound git r → Right = λ is. record {
      whole = whole_after mid seen c.in_ok-open.ensures.same more (c.in_ok-open.ensures.known honest (met is)) (histories_met old read mid brought seen_at st known (by_refs is));
      agrees = there;
    } in
    let done = pack_taken old r p brought pack.objects pack.brought m _ pack.is wants refs (told_in c.args.told.now) same closed Right right (content c.move_refs.new.files) c.in_ok-moved.moved c.in_ok-open.open.items
    (c.in_ok-moved.ensures.moved honest all now) (λ is. c.in_ok-open.ensures.wanted honest (met is) all held) in
    search (rules, done, c.len.ensures)

pub returns-clause-wear : goal.returns-clause-wear
returns-clause-wear g c =
    wears_then c.in_ok-known.ensures.wear (λ _. c.in_ok-known.ensures.same) (search rules)
    (wears_then c.in_ok-objects.ensures.wear (λ _. c.in_ok-objects.ensures.same) (search rules)
    (writes_both c.in_ok-store_all.ensures.wear (search rules)
    (wears_then c.in_ok-open.ensures.wear (λ _. c.in_ok-open.ensures.same) (search rules) (writes_told c.in_ok-moved.ensures.wear (search rules) (search rules)))))

pub returns-in_err-known-clause-good : goal.returns-in_err-known-clause-good
returns-in_err-known-clause-good g c = λ honest. record { objects = keeps_same _ _ c.in_err-known.ensures.same; bad = bad_same _ _ c.in_err-known.ensures.same }

pub returns-in_err-objects-clause-good : goal.returns-in_err-objects-clause-good
returns-in_err-objects-clause-good g c = λ honest.
    record {
      objects = keeps_same _ _ (c.in_err-objects.ensures.same ∙ c.in_ok-known.ensures.same);
      bad = bad_same _ _ (c.in_err-objects.ensures.same ∙ c.in_ok-known.ensures.same);
    }

pub returns-in_err-store_all-clause-good : goal.returns-in_err-store_all-clause-good
returns-in_err-store_all-clause-good g c = λ honest.
    let content = g.F.Files.content in
    let first = content c.judge_pack.new.files in
    let mid = content c.store_all.new.files in
    let brought = carried c.args.pack.now.objects in
    let some : AreSomeStored first mid brought = search (rules, c.in_err-store_all.ensures.left honest) in
    record {
      objects = keeps_then _ _ _ (keeps_same _ _ (c.in_ok-objects.ensures.same ∙ c.in_ok-known.ensures.same)) (keeps_some first mid brought some);
      bad = rw (c.in_ok-objects.ensures.same, c.in_ok-known.ensures.same) at (c.in_err-store_all.ensures.bad honest);
    }

pub returns-in_err-open-clause-good : goal.returns-in_err-open-clause-good
returns-in_err-open-clause-good g c = λ honest.
    let content = g.F.Files.content in
    let stored = keeps_stored (content c.judge_pack.new.files) (content c.store_all.new.files) (carried c.args.pack.now.objects) (c.in_ok-store_all.ensures.stored honest) in
    let none : MakesNoneBad (content c.args.files.now) (content c.store_all.new.files) = rw (c.in_ok-objects.ensures.same, c.in_ok-known.ensures.same) at (c.in_ok-store_all.ensures.bad honest) in
    record {
      objects = keeps_then _ _ _ (keeps_same _ _ (c.in_ok-objects.ensures.same ∙ c.in_ok-known.ensures.same)) (keeps_then _ _ _ stored (keeps_same _ _ c.in_err-open.ensures.same));
      bad = bad_then none (bad_same _ _ c.in_err-open.ensures.same);
    }

pub returns-in_err-moved-clause-good : goal.returns-in_err-moved-clause-good
returns-in_err-moved-clause-good g c = λ honest.
    let content = g.F.Files.content in
    let stored = keeps_stored (content c.judge_pack.new.files) (content c.store_all.new.files) (carried c.args.pack.now.objects) (c.in_ok-store_all.ensures.stored honest) in
    let none : MakesNoneBad (content c.args.files.now) (content c.store_all.new.files) = rw (c.in_ok-objects.ensures.same, c.in_ok-known.ensures.same) at (c.in_ok-store_all.ensures.bad honest) in
    let moved : MakesNoneBad (content c.store_all.new.files) (content c.move_refs.new.files) = rw c.in_ok-open.ensures.same at (c.in_err-moved.ensures.bad honest) in
    record {
      objects = keeps_then _ _ _ (keeps_same _ _ (c.in_ok-objects.ensures.same ∙ c.in_ok-known.ensures.same)) (keeps_then _ _ _ stored (keeps_then _ _ _ (keeps_same _ _ c.in_ok-open.ensures.same) (keeps_beside_refs _ _ (c.in_err-moved.ensures.outside honest))));
      bad = bad_then none moved;
    }

pub returns-clause-good : goal.returns-clause-good
returns-clause-good g c = λ honest.
    let content = g.F.Files.content in
    let stored = keeps_stored (content c.judge_pack.new.files) (content c.store_all.new.files) (carried c.args.pack.now.objects) (c.in_ok-store_all.ensures.stored honest) in
    let none : MakesNoneBad (content c.args.files.now) (content c.store_all.new.files) = rw (c.in_ok-objects.ensures.same, c.in_ok-known.ensures.same) at (c.in_ok-store_all.ensures.bad honest) in
    let moved : MakesNoneBad (content c.store_all.new.files) (content c.move_refs.new.files) = rw c.in_ok-open.ensures.same at (c.in_ok-moved.ensures.bad honest) in
    record {
      objects = keeps_then _ _ _ (keeps_same _ _ (c.in_ok-objects.ensures.same ∙ c.in_ok-known.ensures.same)) (keeps_then _ _ _ stored (keeps_then _ _ _ (keeps_same _ _ c.in_ok-open.ensures.same) (keeps_beside_refs _ _ (c.in_ok-moved.ensures.outside honest))));
      bad = bad_then none moved;
    }

-- ---- what is learnt
pub returns-in_err-known-clause-learns : goal.returns-in_err-known-clause-learns
returns-in_err-known-clause-learns g c = λ honest agrees.
    let is : c.from_residual.result ≡ Err (exchange.Fault c.in_err-known.field-0.0) = search rules in
    faulted _ _ _ _ c.from_residual.result c.in_err-known.field-0.0 is (c.in_err-known.ensures.agrees honest agrees)

pub returns-in_err-objects-clause-learns : goal.returns-in_err-objects-clause-learns
returns-in_err-objects-clause-learns g c = λ honest agrees.
    learnt_alone (c.in_ok-known.ensures.learnt honest agrees) (c.in_ok-known.ensures.agrees honest agrees) (ap refs (c.in_err-objects.ensures.same ∙ c.in_ok-known.ensures.same))

pub returns-in_err-store_all-clause-learns : goal.returns-in_err-store_all-clause-learns
returns-in_err-store_all-clause-learns g c = λ honest agrees.
    learnt_alone (c.in_ok-known.ensures.learnt honest agrees) (c.in_ok-known.ensures.agrees honest agrees) (refs-of_objects _ _ (c.in_err-store_all.ensures.outside honest) ∙ ap refs (c.in_ok-objects.ensures.same ∙ c.in_ok-known.ensures.same))

pub returns-in_err-open-clause-learns : goal.returns-in_err-open-clause-learns
returns-in_err-open-clause-learns g c = λ honest agrees.
    learnt_alone (c.in_ok-known.ensures.learnt honest agrees) (c.in_ok-known.ensures.agrees honest agrees) (ap refs c.in_err-open.ensures.same ∙ refs-of_objects _ _ (c.in_ok-store_all.ensures.outside honest) ∙ ap refs (c.in_ok-objects.ensures.same ∙ c.in_ok-known.ensures.same))

pub returns-in_err-moved-clause-learns : goal.returns-in_err-moved-clause-learns
returns-in_err-moved-clause-learns g c = λ honest agrees.
    let content = g.F.Files.content in
    learnt_moved (c.in_ok-known.ensures.learnt honest agrees) (c.in_ok-known.ensures.agrees honest agrees) (content c.open_ids.new.files) (content c.move_refs.new.files) (ap refs c.in_ok-open.ensures.same ∙ refs-of_objects _ _ (c.in_ok-store_all.ensures.outside honest) ∙ ap refs (c.in_ok-objects.ensures.same ∙ c.in_ok-known.ensures.same)) refl (c.in_err-moved.ensures.noted honest).noted

pub returns-clause-learns : goal.returns-clause-learns
returns-clause-learns g c = λ honest agrees.
    let content = g.F.Files.content in
    learnt_moved (c.in_ok-known.ensures.learnt honest agrees) (c.in_ok-known.ensures.agrees honest agrees) (content c.open_ids.new.files) (content c.move_refs.new.files) (ap refs c.in_ok-open.ensures.same ∙ refs-of_objects _ _ (c.in_ok-store_all.ensures.outside honest) ∙ ap refs (c.in_ok-objects.ensures.same ∙ c.in_ok-known.ensures.same)) refl (c.in_ok-moved.ensures.noted honest).noted
