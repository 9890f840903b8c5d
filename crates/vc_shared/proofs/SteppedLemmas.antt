-- A step of the push in a slot that was done is the machine's.
use Rattle.std.proofs.Common.{◌≡◌, ◌≢◌, ◌<◌, arith, ℕ, true, cond, List, Option, Some, None, Ok, refl, sym, ap, ◌∙◌, subst, inl, inr}
use Rattle.std.specs.Prelude.{option_map, slice_set}
use Rattle.std.specs.Cmp.{nat_cmp_total, eq_by_cmp_equiv}
use Rattle.std.specs.FinMap.{get, get-remove, insert, remove, nat_cmp-IsAntisymmetric}
use Rattle.std.specs.List.{flat_map}
use Rattle.std.proofs.lemmas.List.{length-set}
use Rattle.vc_files.specs.FileMap.{FileMap}
use Rattle.vc_message.proofs.AnyLaws.{written_so}
use Rattle.vc_message.proofs.MachineTexts.{report_of}
use Rattle.vc_message.specs.AnyMessage.{a_report}
use Rattle.vc_message.specs.Machine.{IsReport as IsMachineReport, IsWritten}
use Rattle.vc_rules.specs.Told.{Quietly}
use Rattle.vc_message.specs.Told.{SendsBytes}
use Rattle.vc_model.proofs.Maps.{insert_same, insert_other, remove_other, same_key, none_added}
use Rattle.vc_model.specs.Message.{Message, Told}
use Rattle.vc_model.specs.Message.Message.{Report}
use Rattle.vc_model.specs.Node.{Deed, Reply}
use Rattle.vc_model.specs.Node.Answer.{Did}
use Rattle.vc_model.specs.Node.Reply.{MigratedAll, Passed, RefusedAll, Sends, Updated as UpdatedOne, UpdatedAll}
use Rattle.vc_model.specs.Push.{OpenPush, Slots}
use Rattle.vc_model.specs.Repository.{Repository, no_effect}
use Rattle.vc_model.specs.Shared.{SharedNode}
use Rattle.vc_model.specs.SharedCall.{SharedAnswers}
use Rattle.vc_model.specs.SharedCall.SharedCall.{StepOf}
use Rattle.vc_object.specs.declared.fault.ObjectFault.{ObjectFault}
use Rattle.vc_pkt.specs.Line.{spelling}
use Rattle.vc_push.specs.Report.{IsWrittenReport, ReportText, report_lines, unpack_error}
use Rattle.vc_push.specs.ReportView.{report_text}
use Rattle.vc_rules.proofs.OpenPushLaws.{steps_agree}
use Rattle.vc_rules.specs.OpenPushes.{AreToldAs, HoldsContent, HoldsPush, IsPushStep, IsPushEnd, StepsAs}
use Rattle.vc_rules.specs.Verdicts.{machine_reason}
use Rattle.vc_quarantine.specs.Clean.{IsQuarantineClean, MakesNoneBad}
use Rattle.vc_push_rules.specs.Quarantine.{IsDropped}
use Rattle.vc_push_rules.specs.Session.{IsSession, SessionText}
use Rattle.vc_push_rules.specs.Steps.{IsReport, Steps, fault_number}
use Rattle.vc_push_rules.specs.declared.stage.Stepped.{Stepped as SessionStep}
use Rattle.vc_push_rules.specs.declared.stage.Stepped.TheVariants as session
use Rattle.vc_shared.proofs.CallLemmas.{Leads}
use Rattle.vc_shared.proofs.HoldingLemmas.{slot_set, slot_other, slot_stays, steps_beside}
use Rattle.vc_local.proofs.BesideLemmas.{clean_on, held_content, spells_on}
use Rattle.vc_shared.specs.Calls.{SteppedAs}
use Rattle.vc_shared.specs.Holding.{HoldsShared, HoldsSlot, HoldsSlots}
use Rattle.vc_shared.specs.Slots.{slot_of}
use Rattle.vc_shared.specs.Stepping.{Tells, left_by}
use Rattle.vc_shared.specs.declared.stepping.Stepped.{Stepped}
use Rattle.vc_shared.specs.declared.stepping.Stepped.TheVariants.{Checked, Migrated, Updated, Atomic, AtomicRefused, Finished}

-- ---- what is sent at the end
report_written : (report : ReportText) (told : List Told) (fault : Option ObjectFault) (number : Option ℕ) (bytes : List ℕ) → number ≡ option_map fault_number fault → report.unpack ≡ option_map unpack_error number
    → AreToldAs report.told told → IsWrittenReport report → bytes ≡ flat_map spelling (report_lines report) → IsWritten (Report number told) bytes
report_written report told fault number bytes is unpack same written spelled =
    written_so (Report number told) (a_report report) bytes
    (subst (λ (r : Option ℕ). IsMachineReport (Report r told) report) (sym is) (report_of report fault told (unpack ∙ ap (option_map unpack_error) is) same)) written spelled

remove_same : (pushes : Slots) (k : ℕ) → get (remove pushes k) k ≡ None
remove_same pushes k = get-remove nat_cmp_total pushes k k ∙ ap (λ b. cond b None (get pushes k)) ((eq_by_cmp_equiv nat_cmp_total).refl k)

-- ---- the push in slot k of a node that is up
module _ (old new : FileMap) (slots : List (Option SessionText)) (n : SharedNode) (pushes : Slots) (k : ℕ) (s t : SessionText) (p : OpenPush) (did : SessionStep)
    (held : HoldsShared old slots true n) (live : n.live ≡ Some pushes) (holds : HoldsSlots old slots pushes) (small : k < 8) (is : get pushes k ≡ Some p)
    (at : s.slot ≡ k) (push : HoldsPush old s p) (clean : IsQuarantineClean old k) (h : Steps old new s t did) (bad : MakesNoneBad old new) where
  -- slots after it
  slots_after : (v : Option SessionText) (pushes_then : Slots) → HoldsSlot new k v (get pushes_then k) → ((j : ℕ) → j ≢ k → get pushes_then j ≡ get pushes j) → HoldsSlots new (slice_set slots k v) pushes_then
  slots_after v pushes_then here others = record {
    eight = length-set slots k v ∙ holds.eight;
    each = λ j fits. elim (same_key nat_cmp_total nat_cmp-IsAntisymmetric j k) [
      | inl e ↦ subst (λ i. HoldsSlot new i (slot_of (slice_set slots k v) i) (get pushes_then i)) (sym e)
          (subst (λ w. HoldsSlot new k w (get pushes_then k)) (sym (slot_set slots k v (omega (arith, small, holds.eight)))) here)
      | inr apart ↦ subst (λ w. HoldsSlot new j w (get pushes_then j)) (sym (slot_other slots k j v apart))
          (subst (λ q. HoldsSlot new j (slot_of slots j) q) (sym (others j apart))
          (slot_stays old new s t did j (omega (arith, small, at)) fits (λ same. apart (same ∙ at)) h bad (slot_of slots j) (get pushes j) (holds.each j fits)))
    ];
    others = λ j past. others j (λ same. omega (arith, small, past, same)) ∙ holds.others j past;
  }

  held_after : (v : Option SessionText) (pushes_then : Slots) (after : Repository) → HoldsSlot new k v (get pushes_then k) → ((j : ℕ) → j ≢ k → get pushes_then j ≡ get pushes j)
      → HoldsContent new after → after.head ≡ n.repository.head → after.index ≡ n.repository.index
      → HoldsShared new (slice_set slots k v) true (record { repository = after; live = Some pushes_then })
  held_after v pushes_then after here others content head index = record {
    spells = spells_on old new n.repository after held.spells content (steps_beside old new s t did h) head index;
    clean = clean_on old new bad held.clean;
    live = slots_after v pushes_then here others;
  }

  -- a step before the end
  going : (reply : Reply) (is_session : IsSession t) (same : t.slot ≡ k) → IsPushStep new t reply n.repository p
      → Leads n (StepOf k) new (slice_set slots k (Some t)) true (Quietly (Did reply))
  going reply is_session same step =
      let pushes_then : Slots = insert pushes k step.left in
      let m : SharedNode = record { repository = step.after; live = Some pushes_then } in
      let d : Deed Slots = record { effect = step.effect; left = pushes_then; sends = None; reply = reply } in
      let found : get pushes_then k ≡ Some step.left = insert_same nat_cmp_total nat_cmp-IsAntisymmetric pushes k step.left in (
        m,
        Did reply,
        None,
        held_after (Some t) pushes_then step.after
            (subst (λ q. HoldsSlot new k (Some t) q) (sym found) (same, step.held, λ id damaged. clean id (bad.quarantines k (omega (arith, small)) id damaged)))
            (λ j apart. insert_other nat_cmp_total nat_cmp-IsAntisymmetric pushes k step.left j apart)
            step.content step.head step.index,
        record { answer = refl; sent = refl },
        λ sound bare. SharedAnswers.obeyed pushes d live (p, is, inl (step.left, step.step sound, refl, refl)) (step.done, refl, refl) refl,
      )

  -- the end
  ended : (report : ReportText) (bytes : List ℕ) → IsDropped k new → IsPushEnd new report n.repository p → IsWrittenReport report → bytes ≡ flat_map spelling (report_lines report)
      → Leads n (StepOf k) new (slice_set slots k None) true (SendsBytes bytes)
  ended report bytes dropped step written spelled =
      let pushes_then : Slots = remove pushes k in
      let m : SharedNode = record { repository = n.repository; live = Some pushes_then } in
      let message : Message = Report p.fault step.told in
      let d : Deed Slots = record { effect = no_effect; left = pushes_then; sends = Some message; reply = Sends } in (
        m,
        Did Sends,
        Some message,
        held_after None pushes_then n.repository (subst (λ q. HoldsSlot new k None q) (sym (remove_same pushes k)) dropped)
            (λ j apart. remove_other nat_cmp_total nat_cmp-IsAntisymmetric pushes k j apart) step.content refl refl,
        record { message = message; written = report_written report step.told s.fault p.fault bytes push.fault step.unpack step.told_as written spelled; answer = refl; sent = refl },
        λ sound bare. SharedAnswers.obeyed pushes d live (p, is, inr (step.told, step.finished, step.tells, refl))
            ((n.repository.objects, none_added n.repository.objects, refl), refl, refl) refl,
      )

-- ---- a step that was done
module _ (old new : FileMap) (slots after : List (Option SessionText)) (n : SharedNode) (pushes : Slots) (k : ℕ) (s t : SessionText) (p : OpenPush)
    (held : HoldsShared old slots true n) (live : n.live ≡ Some pushes) (holds : HoldsSlots old slots pushes) (small : k < 8) (is : get pushes k ≡ Some p)
    (at : s.slot ≡ k) (push : HoldsPush old s p) (clean : IsQuarantineClean old k) (bad : MakesNoneBad old new) (is_session : IsSession t)
    (written : (report : ReportText) → IsReport s report → IsWrittenReport report) where
  step : (did : SessionStep) → Steps old new s t did → StepsAs did new t n.repository p
  step did h = steps_agree old new s t did n.repository p (held_content old n.repository held.spells) push h is_session

  goes : (did : SessionStep) → Steps old new s t did → (reply : Reply) → t.slot ≡ s.slot → IsPushStep new t reply n.repository p → after ≡ slice_set slots k (Some t) → Leads n (StepOf k) new after true (Quietly (Did reply))
  goes did h reply same step left =
      subst (λ (xs : List (Option SessionText)). Leads n (StepOf k) new xs true (Quietly (Did reply))) (sym left)
      (going old new slots n pushes k s t p did held live holds small is at push clean h bad reply is_session (same ∙ at) step)

  pub stepped : (did : SessionStep) (told : Stepped) → Steps old new s t did → Tells did told → after ≡ slice_set slots k (left_by told t) → Leads n (StepOf k) new after true (SteppedAs (Ok told))
  stepped (session.Checked c) (Checked passed) h tells left =
      subst (λ (x : ℕ). Leads n (StepOf k) new after true (Quietly (Did (Passed x)))) (sym tells)
      (goes (session.Checked c) h (Passed c) (ap (λ (u : SessionText). u.slot) h.session) (step (session.Checked c) h) left)
  stepped session.Migrated Migrated h tells left = goes session.Migrated h MigratedAll (ap (λ (u : SessionText). u.slot) h.session) (step session.Migrated h) left
  stepped (session.Updated name found) (Updated named reason) h tells left =
      subst (λ (x : List ℕ). Leads n (StepOf k) new after true (Quietly (Did (UpdatedOne x (option_map machine_reason reason))))) (sym (ap (λ v. v.items) tells.0))
      (subst (λ x. Leads n (StepOf k) new after true (Quietly (Did (UpdatedOne name.items (option_map machine_reason x))))) (sym tells.1)
      (goes (session.Updated name found) h (UpdatedOne name.items (option_map machine_reason found)) (ap (λ (u : SessionText). u.slot) h.session) (step (session.Updated name found) h) left))
  stepped (session.Atomic c) (Atomic set) h tells left =
      subst (λ (x : ℕ). Leads n (StepOf k) new after true (Quietly (Did (UpdatedAll x)))) (sym tells)
      (goes (session.Atomic c) h (UpdatedAll c) (ap (λ (u : SessionText). u.slot) h.session) (step (session.Atomic c) h) left)
  stepped (session.AtomicRefused name reason) (AtomicRefused named cause) h tells left =
      subst (λ (x : List ℕ). Leads n (StepOf k) new after true (Quietly (Did (RefusedAll x (machine_reason cause))))) (sym (ap (λ v. v.items) tells.0))
      (subst (λ x. Leads n (StepOf k) new after true (Quietly (Did (RefusedAll name.items (machine_reason x))))) (sym tells.1)
      (goes (session.AtomicRefused name reason) h (RefusedAll name.items (machine_reason reason)) (ap (λ (u : SessionText). u.slot) h.session) (step (session.AtomicRefused name reason) h) left))
  stepped (session.Finished report) (Finished bytes) h tells left =
      subst (λ (xs : List (Option SessionText)). Leads n (StepOf k) new xs true (SendsBytes bytes.items)) (sym left)
      (ended old new slots n pushes k s t p (session.Finished report) held live holds small is at push clean h bad (report_text report) bytes.items
      (subst (λ (j : ℕ). IsDropped j new) at h.dropped) (step (session.Finished report) h) (written (report_text report) h.report_is) tells)
  stepped (session.Checked c) Migrated h tells left = absurd tells
  stepped (session.Checked c) (Updated named reason) h tells left = absurd tells
  stepped (session.Checked c) (Atomic set) h tells left = absurd tells
  stepped (session.Checked c) (AtomicRefused named because) h tells left = absurd tells
  stepped (session.Checked c) (Finished bytes) h tells left = absurd tells
  stepped session.Migrated (Checked passed) h tells left = absurd tells
  stepped session.Migrated (Updated named reason) h tells left = absurd tells
  stepped session.Migrated (Atomic set) h tells left = absurd tells
  stepped session.Migrated (AtomicRefused named because) h tells left = absurd tells
  stepped session.Migrated (Finished bytes) h tells left = absurd tells
  stepped (session.Updated name found) (Checked passed) h tells left = absurd tells
  stepped (session.Updated name found) Migrated h tells left = absurd tells
  stepped (session.Updated name found) (Atomic set) h tells left = absurd tells
  stepped (session.Updated name found) (AtomicRefused named because) h tells left = absurd tells
  stepped (session.Updated name found) (Finished bytes) h tells left = absurd tells
  stepped (session.Atomic c) (Checked passed) h tells left = absurd tells
  stepped (session.Atomic c) Migrated h tells left = absurd tells
  stepped (session.Atomic c) (Updated named reason) h tells left = absurd tells
  stepped (session.Atomic c) (AtomicRefused named because) h tells left = absurd tells
  stepped (session.Atomic c) (Finished bytes) h tells left = absurd tells
  stepped (session.AtomicRefused name cause) (Checked passed) h tells left = absurd tells
  stepped (session.AtomicRefused name cause) Migrated h tells left = absurd tells
  stepped (session.AtomicRefused name cause) (Updated named reason) h tells left = absurd tells
  stepped (session.AtomicRefused name cause) (Atomic set) h tells left = absurd tells
  stepped (session.AtomicRefused name cause) (Finished bytes) h tells left = absurd tells
  stepped (session.Finished report) (Checked passed) h tells left = absurd tells
  stepped (session.Finished report) Migrated h tells left = absurd tells
  stepped (session.Finished report) (Updated named reason) h tells left = absurd tells
  stepped (session.Finished report) (Atomic set) h tells left = absurd tells
  stepped (session.Finished report) (AtomicRefused named because) h tells left = absurd tells
