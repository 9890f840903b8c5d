-- A step of the push in a slot is the machine's: one that was done, one that a fault ended, and one of a slot where none is.
use Rattle.std.proofs.Common.{◌≡◌, ◌≢◌, ◌<◌, arith, ℕ, Bool, true, false, List, [], Option, Some, None, Result, Ok, Err, IsSome, refl, sym, ap, ◌∙◌, subst, inl, inr, true≢false}
use Rattle.std.specs.Prelude.{IfErr, IfOk, OnErr, is_some, not, unwrap_or}
use Rattle.std.specs.FinMap.{get, insert}
use Rattle.std.proofs.lemmas.Option.{slice_get_past}
use Rattle.vc_files.specs.FileMap.{FileMap}
use Rattle.vc_files.specs.declared.faults.Fault.{Fault as FilesFault}
use Rattle.vc_files.specs.declared.faults.Fault.TheVariants.{Memory}
use Rattle.vc_message.proofs.Totals.{less_or}
use Rattle.vc_rules.specs.Told.{Quietly}
use Rattle.vc_model.specs.Message.{Message}
use Rattle.vc_model.specs.Node.{Answer, Deed, Failure}
use Rattle.vc_model.specs.Node.Answer.{Declined, Fault}
use Rattle.vc_model.specs.Node.Reply.{MigratedAll}
use Rattle.vc_model.specs.Push.{OpenPush, Slots, Stage as MachineStage}
use Rattle.vc_model.specs.Push.Stage.{Checked as MachineChecked, Migrated as MachineMigrated}
use Rattle.vc_model.specs.Repository.{Effect}
use Rattle.vc_model.specs.Shared.{SharedNode, StepsPush as StepsMachine}
use Rattle.vc_model.specs.SharedCall.{SharedAnswers, SharedCall}
use Rattle.vc_model.specs.SharedCall.SharedCall.{Open, StepOf}
use Rattle.vc_local.specs.Clean.{IsClean}
use Rattle.vc_local.specs.Machine.{failure_of}
use Rattle.vc_local.specs.declared.fault.NodeFault.TheVariants.{Down}
use Rattle.vc_object.specs.declared.id.ObjectId.{ObjectId}
use Rattle.vc_push.specs.Report.{IsWrittenReport, ReportText}
use Rattle.vc_refs.specs.declared.faults.RefFault.TheVariants as ref
use Rattle.vc_rules.proofs.OpenPushLaws.{early_agree}
use Rattle.vc_rules.specs.Git.{git}
use Rattle.vc_rules.specs.OpenPushes.{EndsEarlyAs, HoldsContent, HoldsPush, IsStop, machine_stage}
use Rattle.vc_push_rules.specs.Carrying.{HoldsNames}
use Rattle.vc_quarantine.specs.Clean.{IsQuarantineClean, MakesNoneBad}
use Rattle.vc_quarantine.specs.PushState.{IsDamagedSeen}
use Rattle.vc_push_rules.specs.Quarantine.{quarantined}
use Rattle.vc_push_rules.specs.Session.{SessionText}
use Rattle.vc_session.specs.SessionFault.{IsRefusedStep}
use Rattle.vc_push_rules.specs.Steps.{EndsEarly, IsReport, names_of}
use Rattle.vc_session.specs.declared.fault.SessionFault.{SessionFault}
use Rattle.vc_session.specs.declared.fault.SessionFault.TheVariants as refusal
use Rattle.vc_push_rules.specs.declared.stage.Stage.{Stage}
use Rattle.vc_push_rules.specs.declared.stage.Stage.TheVariants as stages
use Rattle.vc_object_map.specs.declared.faults.StoreFault.TheVariants as store
use Rattle.vc_shared.proofs.CallLemmas.{Leads, fault_leads, refused_leads}
use Rattle.vc_shared.proofs.HoldingLemmas.{beside_objects, beside_same, beside_slot, beside_update}
use Rattle.vc_local.proofs.BesideLemmas.{SameBeside, clean_on, held_content, spells_on}
use Rattle.vc_shared.proofs.SlotLemmas.{told_at}
use Rattle.vc_shared.proofs.SteppedLemmas.{stepped}
use Rattle.vc_shared.specs.Calls.{AnswersShared, SteppedAs}
use Rattle.vc_shared.specs.Faults.{is_fault, of_device, of_session, takes_down, up_after}
use Rattle.vc_shared.specs.Holding.{HoldsShared, HoldsSlot, HoldsSlots, IsLive}
use Rattle.vc_shared.specs.Slots.{AreTellable, AreToldInOne, slot_of}
use Rattle.vc_shared.specs.Stepping.{EndsSlotEarly, IsHeldThere, IsRefusedIn, StepsSlot}
use Rattle.vc_shared.specs.declared.fault.SharedFault.{SharedFault}
use Rattle.vc_shared.specs.declared.fault.SharedFault.TheVariants.{Node}
use Rattle.vc_shared.specs.declared.stepping.Stepped.{Stepped}

-- ---- a step that a fault ended
module _ (old new : FileMap) (slots after : List (Option SessionText)) (n : SharedNode) (pushes : Slots) (k : ℕ) (s : SessionText) (p : OpenPush)
    (held : HoldsShared old slots true n) (live : n.live ≡ Some pushes) (is : get pushes k ≡ Some p) (push : HoldsPush old s p) (bad : MakesNoneBad old new) (f : Failure) where
  -- nothing was done
  idle : SameBeside old new → HoldsContent new n.repository → Leads n (StepOf k) new after false (Quietly (Fault f))
  idle beside content =
      fault_leads (StepOf k) n pushes live new after (λ never. cc never) (spells_on old new n.repository n.repository held.spells content beside refl refl) (clean_on old new bad held.clean) f

  -- some of what is carried was stored
  cut : p.stage ≡ MachineChecked → SameBeside old new → IsStop new n.repository (record { objects = p.carried; changes = [] }) → Leads n (StepOf k) new after false (Quietly (Fault f))
  cut checked beside stop =
      let effect : Effect = record { objects = p.carried; changes = [] } in
      let q : OpenPush = record p { stage = MachineMigrated } in
      let d : Deed Slots = record { effect = effect; left = insert pushes k q; sends = None; reply = MigratedAll } in (
        record { repository = stop.after; live = None },
        Fault f,
        None,
        record { spells = spells_on old new n.repository stop.after held.spells stop.content beside stop.head stop.index; clean = clean_on old new bad held.clean; live = tt },
        record { answer = refl; sent = refl },
        λ sound bare. SharedAnswers.obeyed pushes d live
            (p, is, inl (q, subst (λ (stage : MachineStage). StepsMachine git n.repository p stage effect q MigratedAll) (sym checked) (refl, refl, refl), refl, refl))
            (stop.stops, refl) refl,
      )

  agrees : (stage : Stage) → EndsEarly old new s stage → EndsEarlyAs stage new n.repository p
  agrees stage early = early_agree old new s stage n.repository p (held_content old n.repository held.spells) push early

  stopped : (stage : Stage) → s.stage ≡ stage → EndsEarly old new s stage → Leads n (StepOf k) new after false (Quietly (Fault f))
  stopped stages.Unpacked at early = idle (beside_same old new early) (agrees stages.Unpacked early)
  stopped stages.Checked at early = cut (push.stage ∙ ap machine_stage at) (beside_objects old new early.1) (agrees stages.Checked early)
  stopped stages.Migrated at early = idle (beside_update old new s.atomic (names_of s.commands) early) (agrees stages.Migrated early)
  stopped stages.Done at early = idle (beside_slot s.slot old new early) (agrees stages.Done early)

-- ---- over clean files a step is refused for a fault alone
module _ (content : FileMap) (s : SessionText) (good : IsClean content) (clean : IsQuarantineClean content s.slot) (names : HoldsNames content s.slot s.names) where
  undamaged : (e : SharedFault) (id : ObjectId) → IsDamagedSeen content s.slot id → (fault : FilesFault) × (e ≡ of_device fault)
  undamaged e id (inl damaged) = absurd (good.objects id damaged)
  undamaged e id (inr damaged) = absurd (clean id damaged)

  only_faults : (stage : Stage) (f : SessionFault) → IsRefusedStep content s stage f → (fault : FilesFault) × (of_session f ≡ of_device fault)
  only_faults stage (refusal.Fault fault) why = (fault, refl)
  only_faults stages.Unpacked (refusal.Store (store.BadObject e)) why = absurd why
  only_faults stages.Unpacked (refusal.Store (store.Absent id)) why = absurd why
  only_faults stages.Unpacked (refusal.Store (store.Damaged id)) why = undamaged (of_session (refusal.Store (store.Damaged id))) id why
  only_faults stages.Unpacked (refusal.Store (store.Fault fault)) why = absurd why
  only_faults stages.Unpacked (refusal.Refs (ref.Stale current)) why = absurd why
  only_faults stages.Unpacked (refusal.Refs (ref.Conflict name)) why = absurd why
  only_faults stages.Unpacked (refusal.Refs (ref.BadRefFile path)) why = absurd (good.refs _ why)
  only_faults stages.Unpacked (refusal.Refs ref.HeadLoop) why = absurd why
  only_faults stages.Unpacked (refusal.Refs (ref.Fault fault)) why = absurd why
  only_faults stages.Checked (refusal.Store (store.BadObject e)) why = absurd why
  only_faults stages.Checked (refusal.Store (store.Absent id)) why =
      let there : IsSome (quarantined content s.slot id) = names.each id why.0 in
      absurd (true≢false (sym there ∙ ap is_some why.1))
  only_faults stages.Checked (refusal.Store (store.Damaged id)) why = undamaged (of_session (refusal.Store (store.Damaged id))) id why.1
  only_faults stages.Checked (refusal.Store (store.Fault fault)) why = (Memory, refl)
  only_faults stages.Checked (refusal.Refs fault) why = absurd why
  only_faults stages.Migrated (refusal.Store fault) why = absurd why
  only_faults stages.Migrated (refusal.Refs (ref.Stale current)) why = absurd why
  only_faults stages.Migrated (refusal.Refs (ref.Conflict name)) why = absurd why
  only_faults stages.Migrated (refusal.Refs (ref.BadRefFile path)) why = absurd (good.refs _ why)
  only_faults stages.Migrated (refusal.Refs ref.HeadLoop) why = absurd why
  only_faults stages.Migrated (refusal.Refs (ref.Fault fault)) why = absurd why
  only_faults stages.Done (refusal.Store fault) why = absurd why
  only_faults stages.Done (refusal.Refs fault) why = absurd why

-- ---- whatever stands in the slot
-- nothing stands there, or a push of the machine
abbrev pub IsStanding : FileMap → Slots → ℕ → Option SessionText → Type 0
IsStanding content pushes k None = get pushes k ≡ None
IsStanding content pushes k (Some s) = (p : OpenPush) × (k < 8) × (get pushes k ≡ Some p) × (s.slot ≡ k) × HoldsPush content s p × IsQuarantineClean content k

standing_in : (content : FileMap) (pushes : Slots) (k : ℕ) (v : Option SessionText) (q : Option OpenPush) → HoldsSlot content k v q → get pushes k ≡ q → k < 8 → IsStanding content pushes k v
standing_in content pushes k None None h is small = is
standing_in content pushes k (Some s) (Some p) (at, push, clean) is small = (p, small, is, at, push, clean)
standing_in content pushes k None (Some p) never is small = absurd never
standing_in content pushes k (Some s) None never is small = absurd never

pub standing : (content : FileMap) (slots : List (Option SessionText)) (pushes : Slots) (k : ℕ) → HoldsSlots content slots pushes → IsStanding content pushes k (slot_of slots k)
standing content slots pushes k holds = elim (less_or k 8) [
  | inl small ↦ standing_in content pushes k (slot_of slots k) (get pushes k) (holds.each k small) refl small
  | inr past ↦ subst (λ (v : Option SessionText). IsStanding content pushes k v) (sym (ap (λ (o : Option (Option SessionText)). unwrap_or o None) (slice_get_past slots k (omega (arith, past, holds.eight))))) (holds.others k past)
]

pub held_there : (content : FileMap) (pushes : Slots) (k : ℕ) (v : Option SessionText) → IsStanding content pushes k v → IsHeldThere content v
held_there content pushes k None none = tt
held_there content pushes k (Some s) (p, small, is, at, push, clean) = push.names

-- the pushes of a node that is up
pub pushes_of : (content : FileMap) (slots : List (Option SessionText)) (live : Option Slots) → IsLive content slots true live → (pushes : Slots) × (live ≡ Some pushes) × HoldsSlots content slots pushes
pushes_of content slots None never = absurd never
pushes_of content slots (Some pushes) holds = (pushes, refl, holds)

-- what is held stays so where nothing changes
pub held_still : (old new : FileMap) (slots after : List (Option SessionText)) (was_up is_up : Bool) (n : SharedNode) → new ≡ old → after ≡ slots → is_up ≡ was_up → HoldsShared old slots was_up n → HoldsShared new after is_up n
held_still old new slots after was_up is_up n files same up held =
    subst (λ (m : FileMap). HoldsShared m after is_up n) (sym files)
    (subst (λ (xs : List (Option SessionText)). HoldsShared old xs is_up n) (sym same)
    (subst (λ (b : Bool). HoldsShared old slots b n) (sym up) held))

-- what a report of a push that can be told of has: it is written, and read as it was
abbrev pub TellsReports : Type 0
TellsReports = (s : SessionText) (report : ReportText) → IsReport s report → AreToldInOne s → IsWrittenReport report

module _ (old new : FileMap) (slots after : List (Option SessionText)) (n : SharedNode) (pushes : Slots) (k : ℕ) (is_up : Bool)
    (held : HoldsShared old slots true n) (live : n.live ≡ Some pushes) (holds : HoldsSlots old slots pushes) (bad : MakesNoneBad old new) where
  by_ok : (told : Stepped) → AreTellable slots → TellsReports → is_up ≡ true → StepsSlot old new slots after k told → Leads n (StepOf k) new after is_up (SteppedAs (Ok told))
  by_ok told tellable written up done =
      let there = subst (λ (v : Option SessionText). IsStanding old pushes k v) done.found (standing old slots pushes k holds) in
      let tells = told_at slots k done.session done.found tellable in
      subst (λ (b : Bool). Leads n (StepOf k) new after b (SteppedAs (Ok told))) (sym up)
      (stepped old new slots after n pushes k done.session done.later there.0 held live holds there.1 there.2 there.3 there.4 there.5 bad done.step.is_session
      (λ report is. written done.session report is tells) done.step.did told done.step.steps done.step.tells done.left)

  by_err : (e : SharedFault) (v : Option SessionText) → IsStanding old pushes k v → is_up ≡ not (takes_down e) → (is_fault e ≡ false → after ≡ slots) → EndsSlotEarly old new v → IsRefusedIn old v e
      → Leads n (StepOf k) new after is_up (SteppedAs (Err e))
  by_err e None none up unchanged early why =
      let calm : is_fault e ≡ false = ap is_fault why in
      subst (λ (x : SharedFault). Leads n (StepOf k) new after is_up (SteppedAs (Err x))) (sym why)
      (refused_leads (StepOf k) n pushes live new after is_up (held_still old new slots after true is_up n early (unchanged calm) (up ∙ ap (λ (x : SharedFault). not (takes_down x)) why) held) 111 (λ sound bare. (refl, none)))
  by_err e (Some s) (p, small, is, at, push, clean) up unchanged early (f, told, why) =
      let only = only_faults old s held.clean (subst (λ (j : ℕ). IsQuarantineClean old j) (sym at) clean) push.names s.stage f why in
      let fault : e ≡ of_device only.0 = told ∙ only.1 in
      subst (λ (b : Bool). Leads n (StepOf k) new after b (SteppedAs (Err e))) (sym (up ∙ ap (λ (x : SharedFault). not (takes_down x)) fault))
      (subst (λ (x : SharedFault). Leads n (StepOf k) new after false (SteppedAs (Err x))) (sym fault)
      (stopped old new slots after n pushes k s p held live is push bad (failure_of only.0) s.stage refl early))

  by_result : (result : Result Stepped SharedFault) → AreTellable slots → TellsReports → is_up ≡ up_after result
      → (IsHeldThere old (slot_of slots k) → IfOk result (StepsSlot old new slots after k))
      → IfErr result (λ e. is_fault e ≡ false → after ≡ slots)
      → (IsHeldThere old (slot_of slots k) → OnErr result (EndsSlotEarly old new (slot_of slots k)))
      → IfErr result (IsRefusedIn old (slot_of slots k))
      → Leads n (StepOf k) new after is_up (SteppedAs result)
  by_result (Ok told) tellable written up steps unchanged early refused =
      by_ok told tellable written up (steps (held_there old pushes k (slot_of slots k) (standing old slots pushes k holds)))
  by_result (Err e) tellable written up steps unchanged early refused =
      let there = standing old slots pushes k holds in
      by_err e (slot_of slots k) there up unchanged (early (held_there old pushes k (slot_of slots k) there)) refused

-- A step of the push in a slot is the machine's, by what `step` says of it.
pub stepped_answers : (old new : FileMap) (slots after : List (Option SessionText)) (k : ℕ) (was_up is_up : Bool) (result : Result Stepped SharedFault)
    → (IsHeldThere old (slot_of slots k) → IfOk result (StepsSlot old new slots after k))
    → IfErr result (λ e. is_fault e ≡ false → after ≡ slots)
    → (IsHeldThere old (slot_of slots k) → OnErr result (EndsSlotEarly old new (slot_of slots k)))
    → IfErr result (IsRefusedIn old (slot_of slots k))
    → MakesNoneBad old new → AreTellable slots → TellsReports
    → was_up ≡ true → is_up ≡ up_after result → AnswersShared (StepOf k) (SteppedAs result) old new slots after was_up is_up
stepped_answers old new slots after k was_up is_up result steps unchanged early refused bad tellable written was up = record { each = λ n held. by n (subst (λ (b : Bool). HoldsShared old slots b n) was held) }
  where
    by : (n : SharedNode) → HoldsShared old slots true n → Leads n (StepOf k) new after is_up (SteppedAs result)
    by n held =
        let open_now = pushes_of old slots n.live held.live in
        by_result old new slots after n open_now.0 k is_up held open_now.1 open_now.2 bad result tellable written up steps unchanged early refused

-- A node that is down answers so, and stays as it is.
module _ (call : SharedCall) (Shows : Answer → Option Message → Type 0) (never : call ≢ Open) (told : Shows (Declined 112) None) where
  pub down_answers : (old new : FileMap) (slots after : List (Option SessionText)) (was_up is_up : Bool) → new ≡ old → after ≡ slots → is_up ≡ was_up → was_up ≡ false → AnswersShared call Shows old new slots after was_up is_up
  down_answers old new slots after was_up is_up files same up was = record { each = λ n held. by n held }
    where
      none_open : (live : Option Slots) → IsLive old slots false live → live ≡ None
      none_open None h = refl
      none_open (Some pushes) h = absurd h

      by : (n : SharedNode) → HoldsShared old slots was_up n → Leads n call new after is_up Shows
      by n held =
          let down : HoldsShared old slots false n = subst (λ (b : Bool). HoldsShared old slots b n) was held in
          (n, Declined 112, None, held_still old new slots after was_up is_up n files same up held, told, λ sound bare. SharedAnswers.down (none_open n.live down.live) never refl refl refl)

pub stepped_down : (old new : FileMap) (slots after : List (Option SessionText)) (k : ℕ) (was_up is_up : Bool) (result : Result Stepped SharedFault)
    → new ≡ old → after ≡ slots → is_up ≡ was_up → was_up ≡ false → result ≡ Err (Node Down) → AnswersShared (StepOf k) (SteppedAs result) old new slots after was_up is_up
stepped_down old new slots after k was_up is_up result files same up was is =
    down_answers (StepOf k) (SteppedAs result) (λ never. cc never) (subst (λ (r : Result Stepped SharedFault). SteppedAs r (Declined 112) None) (sym is) (record { answer = refl; sent = refl }))
    old new slots after was_up is_up files same up was
