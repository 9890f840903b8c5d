-- What stands in the slots, before a step of the push in one of them and after it.
use Rattle.std.proofs.Common.{◌≡◌, ℕ, ◌<◌, ◌≤◌, Bool, true, false, List, length, Option, Some, None, Result, Ok, Err, refl, sym, ap, ◌∙◌, subst, inl, inr, ◌⊎◌}
use Rattle.std.specs.Prelude.{IfOk, IfErr, slice_set, unwrap_or}
use Rattle.std.proofs.lemmas.List.{set-get_or, set-set}
use Rattle.std.proofs.lemmas.List.Elements.{All-get_or, All-set}
use Rattle.std.proofs.lemmas.Option.{slice_get_past, unwrap_or-slice_get}
use Rattle.vc_files.specs.FileMap.{FileMap}
use Rattle.vc_message.proofs.Totals.{less_or}
use Rattle.vc_push_rules.specs.Session.{SessionText}
use Rattle.vc_push_rules.specs.Steps.{EndsEarly, EndsUpdate, Steps, names_of}
use Rattle.vc_push_rules.specs.declared.stage.Stage.{Stage}
use Rattle.vc_push_rules.specs.declared.stage.Stage.TheVariants as stages
use Rattle.vc_push_rules.specs.declared.stage.Stepped.{Stepped as SessionStep}
use Rattle.vc_push_rules.specs.declared.stage.Stepped.TheVariants as session
use Rattle.vc_shared.specs.Faults.{is_fault}
use Rattle.vc_shared.specs.Slots.{AreTellable, AreToldInOne, IsSlotTellable, slot_of}
use Rattle.vc_shared.specs.Stepping.{IsEnd, IsHeldThere, LeavesPackedIn, StepsPush, StepsSlot, left_in}
use Rattle.vc_shared.specs.declared.fault.SharedFault.{SharedFault}
use Rattle.vc_shared.specs.declared.stepping.Stepped.{Stepped}
use Rattle.vc_shared.specs.declared.stepping.Stepped.TheVariants.{Checked, Migrated, Updated, Atomic, AtomicRefused, Finished}

-- nothing is packed where no file changes
pub packed_none : (content : FileMap) (v : Option SessionText) → LeavesPackedIn content content v
packed_none content None = refl
packed_none content (Some s) = inl refl

-- what comes from a step of the push whose slot was emptied for it
pub put_back : (slots mid after : List (Option SessionText)) (k : ℕ) (left v : Option SessionText) → mid ≡ slice_set slots k None → after ≡ slice_set mid k left → left ≡ v → after ≡ slice_set slots k v
put_back slots mid after k left v taken put is =
    put ∙ ap (λ (m : List (Option SessionText)). slice_set m k left) taken ∙ set-set slots k None left ∙ ap (λ (w : Option SessionText). slice_set slots k w) is

module _ (slots : List (Option SessionText)) (k : ℕ) where
  pub same_slot : (v : Option SessionText) → slot_of slots k ≡ v → slice_set slots k v ≡ slots
  same_slot v is = ap (λ (w : Option SessionText). slice_set slots k w) (sym is ∙ unwrap_or-slice_get slots k None) ∙ set-get_or slots k None

  pub open_within : (s : SessionText) → slot_of slots k ≡ Some s → k < length slots
  open_within s is = by (less_or k (length slots))
    where
      by : (k < length slots) ⊎ (length slots ≤ k) → k < length slots
      by (inl low) = low
      by (inr past) = absurd (let none : slot_of slots k ≡ None = ap (λ found. unwrap_or found None) (slice_get_past slots k past) in let both : ◌≡◌ {A = Option SessionText} None (Some s) = sym none ∙ is in cc both)

  pub told_at : (s : SessionText) → slot_of slots k ≡ Some s → AreTellable slots → AreToldInOne s
  told_at s is h = subst IsSlotTellable (sym (unwrap_or-slice_get slots k None) ∙ is) (All-get_or IsSlotTellable slots k None (open_within s is) h)

  module _ (after : List (Option SessionText)) (s t : SessionText) (r : Result Stepped SharedFault) (is : slot_of slots k ≡ Some s) (put : after ≡ slice_set slots k (left_in r t)) where
    pub told_after : AreToldInOne t → AreTellable slots → AreTellable after
    told_after told h = subst AreTellable (sym put) (All-set IsSlotTellable slots k (left_in r t) (by r) h)
      where
        by : (q : Result Stepped SharedFault) → IsSlotTellable (left_in q t)
        by (Ok (Checked n)) = told
        by (Ok Migrated) = told
        by (Ok (Updated name found)) = told
        by (Ok (Atomic n)) = told
        by (Ok (AtomicRefused name reason)) = told
        by (Ok (Finished bytes)) = tt
        by (Err e) = told

  pub slot_steps : (after : List (Option SessionText)) (s t : SessionText) (r : Result Stepped SharedFault) → slot_of slots k ≡ Some s → after ≡ slice_set slots k (left_in r t) → (old new : FileMap)
      → (IsHeldThere old (Some s) → IfOk r (StepsPush old new s t)) → IsHeldThere old (slot_of slots k) → IfOk r (StepsSlot old new slots after k)
  slot_steps after s t (Err e) is put old new steps held = tt
  slot_steps after s t (Ok did) is put old new steps held =
      record { session = s; later = t; found = is; step = steps (subst (IsHeldThere old) is held); left = put }

  pub slot_unchanged : (after : List (Option SessionText)) (s t : SessionText) (r : Result Stepped SharedFault) → slot_of slots k ≡ Some s → after ≡ slice_set slots k (left_in r t)
      → IfErr r (λ e. is_fault e ≡ false → t ≡ s) → IfErr r (λ e. is_fault e ≡ false → after ≡ slots)
  slot_unchanged after s t (Ok did) is put same = tt
  slot_unchanged after s t (Err e) is put same = λ refusal. put ∙ ap (λ (u : SessionText). slice_set slots k (Some u)) (same refusal) ∙ same_slot (Some s) is

-- ---- a step that ends before anything is done
none_updated : (content : FileMap) (atomic : Bool) (names : List (List ℕ)) → EndsUpdate atomic names content content
none_updated content false names = refl
none_updated content true names = (refl, record { only = λ path other beside. refl; outside = record { at = λ path outside other. refl; head = refl; good = λ path bad. bad } })

pub none_done : (content : FileMap) (s : SessionText) (stage : Stage) → EndsEarly content content s stage
none_done content s stages.Unpacked = refl
none_done content s stages.Checked = (λ id. inl refl, record { at = λ path outside. refl })
none_done content s stages.Migrated = none_updated content s.atomic (names_of s.commands)
none_done content s stages.Done = record { at = λ path outside. refl }

-- ---- the end
-- a report is told at the last stage, where any fault may leave some of the quarantine
pub end_early : (old new : FileMap) (s t : SessionText) (did : SessionStep) → IsEnd did → Steps old new s t did → EndsEarly old new s s.stage
end_early old new s t (session.Finished report) end h = subst (EndsEarly old new s) (sym h.stage) h.outside
end_early old new s t (session.Checked n) end h = absurd end
end_early old new s t session.Migrated end h = absurd end
end_early old new s t (session.Updated name found) end h = absurd end
end_early old new s t (session.Atomic n) end h = absurd end
end_early old new s t (session.AtomicRefused name reason) end h = absurd end
