-- The verdict on a command at its update is the machine's.
use Rattle.std.proofs.Common.{◌≡◌, ◌↔◌, inl, inr, Bool, true, false, cond, List, [], ◌∷◌, Option, Some, None, refl, ap, sym, ◌∙◌, true≢false}
use Rattle.std.specs.Prelude.{option_map, is_some}
use Rattle.std.specs.FinMap.{get}
use Rattle.std.proofs.lemmas.Bool.{false_from_ne_true}
use Rattle.vc_format.specs.Git.{id_of_bytes}
use Rattle.vc_model.specs.Push as machine
use Rattle.vc_model.specs.Refs.{RefName, Refs, IsCurrent, IsFree}
use Rattle.vc_model.specs.Repository.{Change}
use Rattle.vc_model.specs.Repository.Change.{SetRefs}
use Rattle.vc_object.specs.ObjectId.{id_eq}
use Rattle.vc_push.specs.Push.{CommandText, zero_id}
use Rattle.vc_push.specs.declared.reason.Reason.{Reason}
use Rattle.vc_push.specs.declared.reason.Reason.TheVariants.{BadName, OutsideRefs, DeletionProhibited, MissingObjects, NotACommit, NonFastForward, AlreadyExists, NameConflict, Stale, UnpackerError, AtomicFailure}
use Rattle.vc_refs.specs.RefMap.{RefMap, conflicts}
use Rattle.vc_push_rules.specs.Session.{verdict_of}
use Rattle.vc_push_rules.specs.Verdict.{IsVerdictAtUpdate, UpdateNeeds, update_reasons}
use Rattle.vc_rules.specs.OpenPushes.{machine_standing}
use Rattle.vc_rules.specs.Verdicts.{machine_command, machine_reason}
use Rattle.vc_rules.proofs.RefLemmas.{conflicts_from, conflicts_to, id_some, no_id, some_id, that_id}
use Rattle.vc_rules.proofs.VerdictLaws.{all_met, first_unmet, not_zero, tag, zero}

-- ---- what an update asks of the refs
module _ (map : RefMap) (rs : Refs) (rel : (n : RefName) → map n ≡ option_map id_of_bytes (get rs n)) where
  module _ (c : CommandText) where
    free_from : UpdateNeeds map c NameConflict → IsFree rs c.name
    free_from need m x found conflict = true≢false (sym (conflicts_to m c.name conflict) ∙ need m (ap is_some (rel m) ∙ some_id (get rs m) x found))

    free_to : IsFree rs c.name → UpdateNeeds map c NameConflict
    free_to free other there = false_from_ne_true (conflicts other c.name) (λ conflict.
        let x = id_some (get rs other) (sym (ap is_some (rel other)) ∙ there) in
        free other x.0 x.1 (conflicts_from other c.name conflict))

    current_from : (b : Bool) → id_eq c.old zero_id ≡ b → map c.name ≡ cond b None (Some c.old) → IsCurrent rs c.name c.old.0
    current_from true e h = inl ((zero c.old).0 e, no_id (get rs c.name) (sym (rel c.name) ∙ h))
    current_from false e h = inr ((not_zero c.old).0 e, that_id (get rs c.name) c.old.0 (sym (rel c.name) ∙ h))

    current_to : (b : Bool) → id_eq c.old zero_id ≡ b → IsCurrent rs c.name c.old.0 → map c.name ≡ cond b None (Some c.old)
    current_to true e (inl h) = rel c.name ∙ ap (option_map id_of_bytes) h.1
    current_to true e (inr h) = absurd (h.0 ((zero c.old).0 e))
    current_to false e (inl h) = absurd ((not_zero c.old).0 e h.0)
    current_to false e (inr h) = rel c.name ∙ ap (option_map id_of_bytes) h.1

    pub needs : (r : Reason) → UpdateNeeds map c r ↔ machine.UpdateNeeds rs (machine_command c) (machine_reason r)
    needs BadName = (λ h. h, λ h. h)
    needs OutsideRefs = (λ h. h, λ h. h)
    needs DeletionProhibited = (λ h. h, λ h. h)
    needs MissingObjects = (λ h. h, λ h. h)
    needs NotACommit = (λ h. h, λ h. h)
    needs NonFastForward = (λ h. h, λ h. h)
    needs AlreadyExists = (
      λ need is. no_id (get rs c.name) (sym (rel c.name) ∙ need ((tag c.name).1 is)),
      λ need is. rel c.name ∙ ap (option_map id_of_bytes) (need ((tag c.name).0 is)),
    )
    needs NameConflict = (free_from, free_to)
    needs Stale = (current_from (id_eq c.old zero_id) refl, current_to (id_eq c.old zero_id) refl)
    needs UnpackerError = (λ h. h, λ h. h)
    needs AtomicFailure = (λ h. h, λ h. h)

    -- what is changed, by what was found against it
    abbrev pub changes_of : Option Reason → List Change
    changes_of None = SetRefs ((c.name, c.new.0) ∷ []) ∷ []
    changes_of (Some r) = []

    pub updates_agree : (found : Option Reason) → IsVerdictAtUpdate map c found → machine.Updates rs (machine_command c) (machine_standing (verdict_of found)) (changes_of found)
    updates_agree None h = (all_met (UpdateNeeds map c) (machine.UpdateNeeds rs (machine_command c)) needs update_reasons h, refl)
    updates_agree (Some r) h = (first_unmet (UpdateNeeds map c) (machine.UpdateNeeds rs (machine_command c)) needs update_reasons r h, refl)
