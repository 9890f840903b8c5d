-- What a call of the shared node leads to; and one that ended in a fault, as its method tells it: the fault went through the call that
-- takes the node down.
use Rattle.std.proofs.Common.{◌≡◌, ◌≢◌, ℕ, Bool, false, List, Option, Some, None, Result, Err, refl, sym, subst, ◌⊎◌, inl, inr}
use Rattle.vc_files.specs.Failures.{Wears}
use Rattle.vc_files.specs.FileMap.{FileMap}
use Rattle.vc_rules.specs.Told.{Quietly}
use Rattle.vc_model.specs.Message.{Message}
use Rattle.vc_model.specs.Node.{Answer, Failure}
use Rattle.vc_model.specs.Node.Answer.{Declined, Fault}
use Rattle.vc_model.specs.Push.{Slots}
use Rattle.vc_model.specs.Question.{Question, Tells}
use Rattle.vc_model.specs.Repository.{IsBare, IsSound}
use Rattle.vc_model.specs.Shared.{SharedNode}
use Rattle.vc_model.specs.SharedCall.{SharedAnswers, SharedCall, SharedRefuses}
use Rattle.vc_model.specs.SharedCall.SharedCall.{Asks, Open}
use Rattle.vc_local.specs.Clean.{IsClean}
use Rattle.vc_local.specs.Machine.{Spells}
use Rattle.vc_local.specs.Shown.{shown}
use Rattle.vc_values.proofs.GitLaws.{git_rules}
use Rattle.vc_rules.specs.Git.{git}
use Rattle.vc_push_rules.specs.Session.{SessionText}
use Rattle.vc_shared.specs.Calls.{AnswersShared}
use Rattle.vc_shared.specs.Faults.{IsOfDevice}
use Rattle.vc_shared.specs.Holding.{HoldsShared}
use Rattle.vc_shared.specs.declared.fault.SharedFault.{SharedFault}

-- some node is held then, and where the node before was sound and bare, it is the machine's
abbrev pub Leads : SharedNode → SharedCall → FileMap → List (Option SessionText) → Bool → (Answer → Option Message → Type 0) → Type 0
Leads n call new after is_up shows =
    (m : SharedNode) × (a : Answer) × (sends : Option Message) × HoldsShared new after is_up m × shows a sends
    × (IsSound git n.repository → IsBare git n.repository → SharedAnswers git git_rules n call a m sends)

-- ---- what changes nothing of a node that is up
module _ (call : SharedCall) (n : SharedNode) (pushes : Slots) (live : n.live ≡ Some pushes) (new : FileMap) (after : List (Option SessionText)) where
  -- a fault ended the call, and the node is down
  pub fault_leads : call ≢ Open → Spells (shown new) n.repository → IsClean new → (f : Failure) → Leads n call new after false (Quietly (Fault f))
  fault_leads other spells clean f = (
    record { repository = n.repository; live = None },
    Fault f,
    None,
    record { spells = spells; clean = clean; live = tt },
    record { answer = refl; sent = refl },
    λ sound bare. SharedAnswers.faulted pushes f live other refl refl refl,
  )

  module _ (is_up : Bool) (held : HoldsShared new after is_up n) where
    -- a refusal
    pub refused_leads : (k : ℕ) → (IsSound git n.repository → IsBare git n.repository → SharedRefuses git n.repository pushes call k) → Leads n call new after is_up (Quietly (Declined k))
    refused_leads k why = (n, Declined k, None, held, record { answer = refl; sent = refl }, λ sound bare. SharedAnswers.refused pushes k live (why sound bare) refl refl refl)

    -- a question
    pub asked_leads : (q : Question) → call ≡ Asks q → (a : Answer) → Tells git git_rules n.repository q a → Leads n call new after is_up (Quietly a)
    asked_leads q is a tells = (n, a, None, held, record { answer = refl; sent = refl }, λ sound bare. SharedAnswers.asked pushes q live is tells refl refl)

-- ---- a fault that went through
module _ {T : Type 0} (call : SharedCall) (Shows : Result T SharedFault → Answer → Option Message → Type 0) (old mid new : FileMap) (slots mids after : List (Option SessionText)) (was_up is_up : Bool) where
  pub answers_through : (e told : SharedFault) → told ≡ e → new ≡ mid → after ≡ mids → AnswersShared call (Shows (Err e)) old mid slots mids was_up is_up → AnswersShared call (Shows (Err told)) old new slots after was_up is_up
  answers_through e told is files same answers =
      subst (λ (f : SharedFault). AnswersShared call (Shows (Err f)) old new slots after was_up is_up) (sym is)
      (subst (λ (m : FileMap). AnswersShared call (Shows (Err e)) old m slots after was_up is_up) (sym files)
      (subst (λ (xs : List (Option SessionText)). AnswersShared call (Shows (Err e)) old mid slots xs was_up is_up) (sym same) answers))

pub told_as : (P : SharedFault → Type 0) (e told : SharedFault) → told ≡ e → P e → P told
told_as P e told is holds = subst P (sym is) holds

pub kept_through : (Keeps : FileMap → FileMap → Type 0) (old mid new : FileMap) → new ≡ mid → Keeps old mid → Keeps old new
kept_through Keeps old mid new files keeps = subst (Keeps old) (sym files) keeps

module _ {D : Type 0} {failed : D → ℕ} {can_fail : D → Type 0} {left : D → Option ℕ} {old mid new : D} {May : Type 0} (e told : SharedFault) (is : told ≡ e) (files : new ≡ mid) where
  pub looks_through : May ⊎ Wears failed can_fail left old mid (IsOfDevice e) → May ⊎ Wears failed can_fail left old new (IsOfDevice told)
  looks_through (inl may) = inl may
  looks_through (inr looks) =
      inr (subst (λ (f : SharedFault). Wears failed can_fail left old new (IsOfDevice f)) (sym is) (subst (λ (d : D). Wears failed can_fail left old d (IsOfDevice e)) (sym files) looks))
