use Rattle.std.proofs.Common.{rules, ◌≡◌, inl, inr, Err, List, map, refl, sym, ap, ◌∙◌, subst}
use Rattle.vc_files.specs.FileMap.{FileMap}
use Rattle.vc_files.proofs.WearLemmas.{wears_then, wears_writes, writes_told}
use Rattle.vc_files.specs.declared.faults.Fault.TheVariants.{Memory}
use Rattle.vc_model.specs.Repository.{IsSound}
use Rattle.vc_refs.specs.Refs.{refs}
use Rattle.vc_rules.specs.Git.{git}
use Rattle.vc_rules.specs.OpenPushes.{HoldsContent}
use Rattle.vc_tracking.specs.Faults.{BlamesFiles}
use Rattle.vc_tracking.specs.Moving.{IsRight, told_in}
use Rattle.vc_exchange.specs.Receiving.{accepted}
use Rattle.vc_message.specs.Machine.{machine_told}
use Rattle.vc_model.specs.Clone.{refused_reasons}
use Rattle.vc_push.specs.ReportView.{report_text, told_of}
use Rattle.vc_push.specs.declared.report.Told.{Told}
use Rattle.vc_history.proofs.StoredLemmas.{numbers_same}
use Rattle.vc_quarantine.proofs.WearLemmas.{wears_both}
use Rattle.vc_tracking.specs.declared.fault.ExchangeFault.TheVariants as exchange
use Rattle.vc_exchange.proofs.JudgingLemmas.{faulted, learnt_moved, right_refs}
use Rattle.vc_tracking.proofs.MovingLoops.{told_err}
use Rattle.vc_exchange.proofs.ReceivingLemmas.{report_changes, report_cut, report_received}
use Rattle.vc_exchange.proofs.receiving.receive_report.Goals as goal
use Rattle.vc_lemmas.proofs.Lists.{on_err}

pub returns-in_err-known-clause-wear : goal.returns-in_err-known-clause-wear
returns-in_err-known-clause-wear g c = writes_told (wears_writes c.in_err-known.ensures.wear (λ _. c.in_err-known.ensures.same)) (search rules) (search rules)

pub returns-in_err-moved-clause-cut : goal.returns-in_err-moved-clause-cut
returns-in_err-moved-clause-cut g c = λ honest agrees r p m report awaits.
    let content = g.F.Files.content in
    let t = report_text c.args.report.now in
    let seen = content c.learn_known.new.files in
    let same : seen ≡ content c.args.files.now = c.in_ok-known.ensures.same in
    let held = subst (λ (f : FileMap). HoldsContent f r) (sym same) p in
    let Right : Type 0 = IsRight seen c.in_ok-known.known c.learn_known.new.generations in
    let sound : IsSound git r → Right = right_refs (content c.args.files.now) seen c.in_ok-known.known c.learn_known.new.generations r same (c.in_ok-known.ensures.whole honest) (c.in_ok-known.ensures.agrees honest agrees) p in
    let is : told_in c.deref-3.result.now ≡ accepted t.told = ap told_in c.deref-3.ensures.value ∙ c.in_ok-refs.ensures ∙ ap (λ (l : List Told). accepted (map told_of l)) c.deref-2.ensures.value in
    let are : c.in_ok-refused.refused.items ≡ refused_reasons (map machine_told t.told) = c.in_ok-refused.ensures ∙ ap (λ (l : List Told). refused_reasons (map machine_told (map told_of l))) c.deref.ensures.value in
    on_err c.from_residual-in_err-moved.result _ (report_cut r Right sound awaits m t report (told_in c.deref-3.result.now) is c.in_ok-refused.refused.items are (content c.move_refs.new.files) (search (rules, c.in_err-moved.ensures.left honest r held)))

pub returns-in_err-moved-clause-refused : goal.returns-in_err-moved-clause-refused
returns-in_err-moved-clause-refused g c = λ honest agrees.
    let old = g.F.Files.content c.args.files.now in
    let seen = g.F.Files.content c.learn_known.new.files in
    let same : seen ≡ old = c.in_ok-known.ensures.same in
    let e = c.in_err-moved.field-0.0 in
    let why : BlamesFiles seen e = search (rules, c.in_err-moved.ensures.refused honest (numbers_same old seen same c.learn_known.new.generations (c.in_ok-known.ensures.agrees honest agrees))) in
    told_err c.from_residual-in_err-moved.result e (BlamesFiles old) (search rules) (subst (λ (f : FileMap). BlamesFiles f e) same why)

pub returns-in_err-moved-clause-looks : goal.returns-in_err-moved-clause-looks
returns-in_err-moved-clause-looks g c = λ honest agrees r p m report awaits.
    let content = g.F.Files.content in
    let t = report_text c.args.report.now in
    let seen = content c.learn_known.new.files in
    let same : seen ≡ content c.args.files.now = c.in_ok-known.ensures.same in
    let held = subst (λ (f : FileMap). HoldsContent f r) (sym same) p in
    let Right : Type 0 = IsRight seen c.in_ok-known.known c.learn_known.new.generations in
    let sound : IsSound git r → Right = right_refs (content c.args.files.now) seen c.in_ok-known.known c.learn_known.new.generations r same (c.in_ok-known.ensures.whole honest) (c.in_ok-known.ensures.agrees honest agrees) p in
    let is : told_in c.deref-3.result.now ≡ accepted t.told = ap told_in c.deref-3.ensures.value ∙ c.in_ok-refs.ensures ∙ ap (λ (l : List Told). accepted (map told_of l)) c.deref-2.ensures.value in
    let are : c.in_ok-refused.refused.items ≡ refused_reasons (map machine_told t.told) = c.in_ok-refused.ensures ∙ ap (λ (l : List Told). refused_reasons (map machine_told (map told_of l))) c.deref.ensures.value in
    elim (c.in_err-moved.ensures.looks honest r held) [ inl some ↦ inl (report_changes r Right sound awaits m t report (told_in c.deref-3.result.now) is c.in_ok-refused.refused.items are some) | inr wears ↦ inr (wears_both c.in_ok-known.ensures.wear wears (search rules)) ]

pub returns-clause-taken : goal.returns-clause-taken
returns-clause-taken g c = λ honest agrees r p m report awaits.
    let content = g.F.Files.content in
    let t = report_text c.args.report.now in
    let seen = content c.learn_known.new.files in
    let same : seen ≡ content c.args.files.now = c.in_ok-known.ensures.same in
    let held = subst (λ (f : FileMap). HoldsContent f r) (sym same) p in
    let Right : Type 0 = IsRight seen c.in_ok-known.known c.learn_known.new.generations in
    let sound : IsSound git r → Right = right_refs (content c.args.files.now) seen c.in_ok-known.known c.learn_known.new.generations r same (c.in_ok-known.ensures.whole honest) (c.in_ok-known.ensures.agrees honest agrees) p in
    let is : told_in c.deref-3.result.now ≡ accepted t.told = ap told_in c.deref-3.ensures.value ∙ c.in_ok-refs.ensures ∙ ap (λ (l : List Told). accepted (map told_of l)) c.deref-2.ensures.value in
    let are : c.in_ok-refused.refused.items ≡ refused_reasons (map machine_told t.told) = c.in_ok-refused.ensures ∙ ap (λ (l : List Told). refused_reasons (map machine_told (map told_of l))) c.deref.ensures.value in
    report_received r Right sound awaits m t report (told_in c.deref-3.result.now) is c.in_ok-refused.refused.items are (content c.move_refs.new.files) c.in_ok-moved.moved (c.in_ok-moved.ensures.moved honest r held)

pub returns-clause-looks : goal.returns-clause-looks
returns-clause-looks g c = λ honest agrees r p m report awaits.
    let content = g.F.Files.content in
    let t = report_text c.args.report.now in
    let seen = content c.learn_known.new.files in
    let same : seen ≡ content c.args.files.now = c.in_ok-known.ensures.same in
    let held = subst (λ (f : FileMap). HoldsContent f r) (sym same) p in
    let Right : Type 0 = IsRight seen c.in_ok-known.known c.learn_known.new.generations in
    let sound : IsSound git r → Right = right_refs (content c.args.files.now) seen c.in_ok-known.known c.learn_known.new.generations r same (c.in_ok-known.ensures.whole honest) (c.in_ok-known.ensures.agrees honest agrees) p in
    let is : told_in c.deref-3.result.now ≡ accepted t.told = ap told_in c.deref-3.ensures.value ∙ c.in_ok-refs.ensures ∙ ap (λ (l : List Told). accepted (map told_of l)) c.deref-2.ensures.value in
    let are : c.in_ok-refused.refused.items ≡ refused_reasons (map machine_told t.told) = c.in_ok-refused.ensures ∙ ap (λ (l : List Told). refused_reasons (map machine_told (map told_of l))) c.deref.ensures.value in
    elim (c.in_ok-moved.ensures.looks honest r held) [ inl some ↦ inl (report_changes r Right sound awaits m t report (told_in c.deref-3.result.now) is c.in_ok-refused.refused.items are some) | inr wears ↦ inr (wears_both c.in_ok-known.ensures.wear wears (search rules)) ]

pub returns-in_err-moved-clause-wear : goal.returns-in_err-moved-clause-wear
returns-in_err-moved-clause-wear g c = wears_then c.in_ok-known.ensures.wear (λ _. c.in_ok-known.ensures.same) (search rules) (writes_told c.in_err-moved.ensures.wear (search rules) (search rules))

pub returns-clause-wear : goal.returns-clause-wear
returns-clause-wear g c = wears_then c.in_ok-known.ensures.wear (λ _. c.in_ok-known.ensures.same) (search rules) (writes_told c.in_ok-moved.ensures.wear (search rules) (search rules))

-- ---- what is learnt
pub returns-in_err-refused-clause-learns : goal.returns-in_err-refused-clause-learns
returns-in_err-refused-clause-learns g c = λ honest agrees.
    let is : c.from_residual.result ≡ Err (exchange.Fault Memory) = search rules in
    faulted _ _ _ _ c.from_residual.result Memory is agrees

pub returns-in_err-refs-clause-learns : goal.returns-in_err-refs-clause-learns
returns-in_err-refs-clause-learns g c = λ honest agrees.
    let is : c.from_residual-in_err-refs.result ≡ Err (exchange.Fault Memory) = search rules in
    faulted _ _ _ _ c.from_residual-in_err-refs.result Memory is agrees

pub returns-in_err-known-clause-learns : goal.returns-in_err-known-clause-learns
returns-in_err-known-clause-learns g c = λ honest agrees.
    let is : c.from_residual-in_err-known.result ≡ Err (exchange.Fault c.in_err-known.field-0.0) = search rules in
    faulted _ _ _ _ c.from_residual-in_err-known.result c.in_err-known.field-0.0 is (c.in_err-known.ensures.agrees honest agrees)

pub returns-in_err-moved-clause-learns : goal.returns-in_err-moved-clause-learns
returns-in_err-moved-clause-learns g c = λ honest agrees.
    let content = g.F.Files.content in
    learnt_moved (c.in_ok-known.ensures.learnt honest agrees) (c.in_ok-known.ensures.agrees honest agrees) (content c.learn_known.new.files) (content c.move_refs.new.files) (ap refs c.in_ok-known.ensures.same) refl (c.in_err-moved.ensures.noted honest).noted

pub returns-clause-learns : goal.returns-clause-learns
returns-clause-learns g c = λ honest agrees.
    let content = g.F.Files.content in
    learnt_moved (c.in_ok-known.ensures.learnt honest agrees) (c.in_ok-known.ensures.agrees honest agrees) (content c.learn_known.new.files) (content c.move_refs.new.files) (ap refs c.in_ok-known.ensures.same) refl (c.in_ok-moved.ensures.noted honest).noted
