-- A push that comes is opened, or refused, as the machine does with its message.
use Rattle.std.proofs.Common.{◌≡◌, ◌≢◌, ◌<◌, ◌≤◌, ◌⊎◌, arith, ℕ, Bool, true, false, nat_eq, List, map, Option, Some, None, Result, Ok, Err, refl, sym, ap, ◌∙◌, subst, inl, inr}
use Rattle.std.specs.Prelude.{IfErr, IfOk, OnErr, not, option_map, slice_set}
use Rattle.std.specs.Cmp.{nat_cmp_total}
use Rattle.std.specs.FinMap.{get, insert, nat_cmp-IsAntisymmetric}
use Rattle.std.specs.List.{starts_with}
use Rattle.std.proofs.lemmas.List.{length-set}
use Rattle.vc_files.specs.FileMap.{FileMap, SameOutside}
use Rattle.vc_lemmas.proofs.Texts.{split_from_starts}
use Rattle.vc_message.proofs.Totals.{less_or}
use Rattle.vc_message.specs.Machine.{IsPush, IsRefusalOf}
use Rattle.vc_rules.specs.Told.{Quietly}
use Rattle.vc_model.proofs.Maps.{insert_other, insert_same, same_key, none_added}
use Rattle.vc_model.specs.Message.{Message}
use Rattle.vc_model.specs.Node.{Deed, Failure}
use Rattle.vc_model.specs.Node.Answer.{Declined, Did, Fault}
use Rattle.vc_model.specs.Node.Reply.{Opened}
use Rattle.vc_model.specs.Push.{OpenPush, Slots}
use Rattle.vc_model.specs.Repository.{no_effect}
use Rattle.vc_model.specs.Shared.{IsLowestFree, Serves, ServesNot, SharedNode, opened}
use Rattle.vc_model.specs.SharedCall.{SharedAnswers}
use Rattle.vc_model.specs.SharedCall.SharedCall.{Accept}
use Rattle.vc_local.specs.Machine.{failure_of}
use Rattle.vc_object.proofs.OneFault.{no_body_fault, two_bodies}
use Rattle.vc_object.specs.declared.fault.ObjectFault.{ObjectFault}
use Rattle.vc_push.specs.Push.{Carried, FaultOf, PushText}
use Rattle.vc_rules.proofs.OpenPushLaws.{content_beside, opens_agree, push_kept}
use Rattle.vc_rules.specs.Git.{git}
use Rattle.vc_rules.specs.OpenPushes.{HoldsPush}
use Rattle.vc_rules.specs.Verdicts.{machine_command}
use Rattle.vc_push_rules.proofs.FrameLemmas.{other_slot, quarantined-of_slot}
use Rattle.vc_quarantine.specs.Clean.{MakesNoneBad}
use Rattle.vc_push_rules.specs.Quarantine.{IsDropped, quarantine_folder}
use Rattle.vc_push_rules.specs.Session.{SessionText}
use Rattle.vc_push_rules.specs.Steps.{fault_number}
use Rattle.vc_shared.proofs.HoldingLemmas.{beside_slot, slot_other, slot_set}
use Rattle.vc_local.proofs.BesideLemmas.{clean_on, held_content, spells_on}
use Rattle.vc_shared.proofs.CallLemmas.{Leads, fault_leads, refused_leads}
use Rattle.vc_shared.proofs.SteppingLaws.{pushes_of}
use Rattle.vc_shared.specs.Calls.{AcceptedAs}
use Rattle.vc_shared.specs.Faults.{of_device, takes_down, up_after}
use Rattle.vc_shared.specs.Holding.{HoldsShared, HoldsSlot, HoldsSlots}
use Rattle.vc_shared.specs.Pushing.{AreTaken, ChangesFree, IsLowest, IsRefusedPush, OpensSlot, PushAnswers, slot_reply}
use Rattle.vc_shared.specs.Slots.{slot_of}
use Rattle.vc_shared.specs.declared.fault.SharedFault.{SharedFault}
use Rattle.vc_shared.specs.declared.fault.SharedFault.TheVariants.{Busy}

-- ---- slots
-- one slot at most is the lowest that is free
pub one_lowest : (slots : List (Option SessionText)) (j k : ℕ) → IsLowest slots j → IsLowest slots k → j ≡ k
one_lowest slots j k a b = by (less_or j k) (less_or k j)
  where
    by : (j < k) ⊎ (k ≤ j) → (k < j) ⊎ (j ≤ k) → j ≡ k
    by (inl less) other = absurd (b.taken j less a.free)
    by (inr least) (inl less) = absurd (a.taken k less b.free)
    by (inr least) (inr most) = omega (arith, least, most)

pub changes_free : (old new : FileMap) (slots : List (Option SessionText)) (k : ℕ) → IsLowest slots k → SameOutside (quarantine_folder k) old new → ChangesFree old new slots
changes_free old new slots k l same = record {
  none = λ taken. absurd (taken k l.within l.free);
  outside = λ j other. subst (λ (i : ℕ). SameOutside (quarantine_folder i) old new) (one_lowest slots k j l other) same;
}

pub free_there : (content : FileMap) (k : ℕ) (q : Option OpenPush) → HoldsSlot content k None q → q ≡ None
free_there content k None h = refl
free_there content k (Some p) never = absurd never

taken_there : (content : FileMap) (k : ℕ) (v : Option SessionText) → v ≢ None → HoldsSlot content k v None → ⊥
taken_there content k None taken h = taken refl
taken_there content k (Some s) taken never = never

module _ (content : FileMap) (slots : List (Option SessionText)) (pushes : Slots) (holds : HoldsSlots content slots pushes) where
  machine_free : (k : ℕ) → k < 8 → slot_of slots k ≡ None → get pushes k ≡ None
  machine_free k within free = free_there content k (get pushes k) (subst (λ (v : Option SessionText). HoldsSlot content k v (get pushes k)) free (holds.each k within))

  machine_taken : (k : ℕ) → k < 8 → slot_of slots k ≢ None → get pushes k ≢ None
  machine_taken k within taken none = taken_there content k (slot_of slots k) taken (subst (λ (q : Option OpenPush). HoldsSlot content k (slot_of slots k) q) none (holds.each k within))

  machine_lowest : (k : ℕ) → IsLowest slots k → IsLowestFree pushes k
  machine_lowest k l = record {
    below = l.within;
    free = machine_free k l.within l.free;
    lowest = λ j less. let within = l.within in machine_taken j (omega (arith, less, within)) (l.taken j less);
  }

-- ---- what stands in the other slots, as files change in the quarantine of slot k
module _ (k : ℕ) (small : k < 8) (old new : FileMap) (same : SameOutside (quarantine_folder k) old new) (bad : MakesNoneBad old new) where
  dropped_beside : (j : ℕ) → j < 8 → j ≢ k → IsDropped j old → IsDropped j new
  dropped_beside j fits apart dropped path h =
      same.at path (ap (λ p. starts_with nat_eq p (quarantine_folder k)) (split_from_starts path (quarantine_folder j) h) ∙ other_slot k j _ (omega (arith, small)) (omega (arith, fits)) apart) ∙ dropped path h

  pub slot_beside : (j : ℕ) → j < 8 → j ≢ k → (v : Option SessionText) (q : Option OpenPush) → HoldsSlot old j v q → HoldsSlot new j v q
  slot_beside j fits apart None None dropped = dropped_beside j fits apart dropped
  slot_beside j fits apart (Some u) (Some q) (at, push, clean) = (
    at,
    push_kept old new u q (λ id. quarantined-of_slot k old new same u.slot id (omega (arith, small)) (omega (arith, fits, at)) (λ e. apart (sym at ∙ e))) push,
    λ id damaged. clean id (bad.quarantines j (omega (arith, fits)) id damaged),
  )
  slot_beside j fits apart None (Some q) never = never
  slot_beside j fits apart (Some u) None never = never

-- the number of what the session is refused by is the machine's
refusal_is : (carried : Carried) (fault : Option ObjectFault) (refusal : Option ℕ) → FaultOf carried fault → IsRefusalOf carried refusal → refusal ≡ option_map fault_number fault
refusal_is (Ok objects) fault refusal none is = is ∙ sym (ap (option_map fault_number) none)
refusal_is (Err body) None refusal object (f, faulty, is) = absurd (no_body_fault body.kind body.body f object faulty)
refusal_is (Err body) (Some fault) refusal other (f, faulty, is) = is ∙ ap (λ (e : ObjectFault). Some (fault_number e)) (two_bodies body.kind body.body f fault faulty other)

-- ---- what the message leads to
module _ (old new : FileMap) (slots after : List (Option SessionText)) (push : PushText) (m : Message) (n : SharedNode) (pushes : Slots)
    (held : HoldsShared old slots true n) (live : n.live ≡ Some pushes) (holds : HoldsSlots old slots pushes) (is : IsPush m push) (bad : MakesNoneBad old new) where
  -- the push as the machine opens it
  abbrev machine_push : OpenPush
  machine_push = opened push.atomic is.refusal (map machine_command push.commands) is.objects

  module _ (k : ℕ) (same : SameOutside (quarantine_folder k) old new) where
    -- it is open
    module _ (o : OpensSlot new slots after push k) where
      small : k < 8
      small = o.lowest.within

      abbrev pushes_then : Slots
      pushes_then = insert pushes k machine_push

      push_held : HoldsPush new o.session machine_push
      push_held =
          subst (λ r. HoldsPush new o.session (opened push.atomic r (map machine_command push.commands) is.objects)) (sym (refusal_is push.carried o.fault is.refusal o.fault_is is.refused))
          (opens_agree new o.session k o.fault push.atomic push.commands push.carried is.objects o.opened o.is_session o.fault_is o.carries is.brought)

      slots_then : HoldsSlots new (slice_set slots k (Some o.session)) pushes_then
      slots_then = record {
        eight = length-set slots k (Some o.session) ∙ holds.eight;
        each = λ j fits. elim (same_key nat_cmp_total nat_cmp-IsAntisymmetric j k) [
          | inl e ↦ subst (λ i. HoldsSlot new i (slot_of (slice_set slots k (Some o.session)) i) (get pushes_then i)) (sym e)
              (subst (λ w. HoldsSlot new k w (get pushes_then k)) (sym (slot_set slots k (Some o.session) (omega (arith, small, holds.eight))))
              (subst (λ q. HoldsSlot new k (Some o.session) q) (sym (insert_same nat_cmp_total nat_cmp-IsAntisymmetric pushes k machine_push)) (o.opened.slot_is, push_held, o.clean)))
          | inr apart ↦ subst (λ w. HoldsSlot new j w (get pushes_then j)) (sym (slot_other slots k j (Some o.session) apart))
              (subst (λ q. HoldsSlot new j (slot_of slots j) q) (sym (insert_other nat_cmp_total nat_cmp-IsAntisymmetric pushes k machine_push j apart))
              (slot_beside k small old new same bad j fits apart (slot_of slots j) (get pushes j) (holds.each j fits)))
        ];
        others = λ j past. insert_other nat_cmp_total nat_cmp-IsAntisymmetric pushes k machine_push j (λ e. omega (arith, small, past, e)) ∙ holds.others j past;
      }

      open_there : Leads n (Accept m) new after true (λ a sends. (k < 8) × Quietly (Did (Opened k)) a sends)
      open_there =
          let d : Deed Slots = record { effect = no_effect; left = pushes_then; sends = None; reply = Opened k } in (
            record { repository = n.repository; live = Some pushes_then },
            Did (Opened k),
            None,
            record {
              spells = spells_on old new n.repository n.repository held.spells (content_beside k old new n.repository same (held_content old n.repository held.spells)) (beside_slot k old new same) refl refl;
              clean = clean_on old new bad held.clean;
              live = subst (λ (xs : List (Option SessionText)). HoldsSlots new xs pushes_then) (sym o.left) slots_then;
            },
            (small, record { answer = refl; sent = refl }),
            λ sound bare. SharedAnswers.obeyed pushes d live
                (subst (λ (x : Message). Serves git n.repository pushes x d) (sym is.is) (k, machine_lowest old slots pushes holds k o.lowest, refl))
                ((n.repository.objects, none_added n.repository.objects, refl), refl, refl) refl,
          )

    -- a fault came: nothing was done, and what stands in the quarantine is no part of the repository
    stopped : (f : Failure) → Leads n (Accept m) new after false (Quietly (Fault f))
    stopped f =
        fault_leads (Accept m) n pushes live new after (λ never. cc never)
        (spells_on old new n.repository n.repository held.spells (content_beside k old new n.repository same (held_content old n.repository held.spells)) (beside_slot k old new same) refl refl)
        (clean_on old new bad held.clean) f

  -- all slots are taken
  busy : new ≡ old → after ≡ slots → AreTaken slots → Leads n (Accept m) new after true (Quietly (Declined 110))
  busy files left taken =
      refused_leads (Accept m) n pushes live new after true
      (subst (λ (c : FileMap). HoldsShared c after true n) (sym files) (subst (λ (xs : List (Option SessionText)). HoldsShared old xs true n) (sym left) held)) 110
      (λ sound bare. subst (λ (x : Message). ServesNot git n.repository pushes x 110) (sym is.is) (refl, λ k within. machine_taken old slots pushes holds k within (taken k within)))

  by_err : (e : SharedFault) (is_up : Bool) → after ≡ slots → IsRefusedPush slots e → ChangesFree old new slots → is_up ≡ not (takes_down e) → Leads n (Accept m) new after is_up (AcceptedAs (Err e))
  by_err e is_up left (inl (taken, why)) changes up =
      subst (λ (x : SharedFault). Leads n (Accept m) new after is_up (AcceptedAs (Err x))) (sym why)
      (subst (λ (b : Bool). Leads n (Accept m) new after b (AcceptedAs (Err Busy))) (sym (up ∙ ap (λ (x : SharedFault). not (takes_down x)) why)) (busy (changes.none taken) left taken))
  by_err e is_up left (inr (k, fault, lowest, why)) changes up =
      subst (λ (x : SharedFault). Leads n (Accept m) new after is_up (AcceptedAs (Err x))) (sym why)
      (subst (λ (b : Bool). Leads n (Accept m) new after b (AcceptedAs (Err (of_device fault)))) (sym (up ∙ ap (λ (x : SharedFault). not (takes_down x)) why))
      (stopped k (changes.outside k lowest) (failure_of fault)))

  by_result : (result : Result ℕ SharedFault) (is_up : Bool) → IfOk result (OpensSlot new slots after push) → OnErr result (after ≡ slots) → IfErr result (IsRefusedPush slots)
      → ChangesFree old new slots → is_up ≡ up_after result → Leads n (Accept m) new after is_up (AcceptedAs (slot_reply result))
  by_result (Ok k) is_up o left refused changes up =
      subst (λ (b : Bool). Leads n (Accept m) new after b (AcceptedAs (slot_reply (Ok k)))) (sym up) (open_there k (changes.outside k o.lowest) o)
  by_result (Err e) is_up o left refused changes up = by_err e is_up left refused changes up

pub push_answers : PushAnswers
push_answers old new slots after push m was_up is_up result is opens left refused changes bad was up =
    record { each = λ n held. by n (subst (λ (b : Bool). HoldsShared old slots b n) was held) }
  where
    by : (n : SharedNode) → HoldsShared old slots true n → Leads n (Accept m) new after is_up (AcceptedAs (slot_reply result))
    by n held =
        let open_now = pushes_of old slots n.live held.live in
        by_result old new slots after push m n open_now.0 held open_now.1 open_now.2 is bad result is_up opens left refused changes up
