-- An exact answer of the shared node is a step of the machine.
use Rattle.std.proofs.Common.{◌≡◌, ◌≢◌, ℕ, Option, None, refl, sym, ap, subst}
use Rattle.vc_model.specs.Object.{Format}
use Rattle.vc_model.specs.Repository.{Repository}
use Rattle.vc_model.specs.Push.{Slots}
use Rattle.vc_model.specs.Message.{Message}
use Rattle.vc_model.specs.Node.{Answer, Deed, IsNoFault}
use Rattle.vc_model.specs.Node.Answer.{Declined}
use Rattle.vc_model.specs.Shared.{SharedNode, SharedDoes, SharedDeclines, SharedStep}
use Rattle.vc_model.specs.Shared.SharedStep.{down as step_down, declines as step_declines, works as step_works, prunes as step_prunes, restarts as step_restarts, quiet as step_quiet, faults as step_faults}
use Rattle.vc_model.specs.Rules.{Rules, rules_by}
use Rattle.vc_model.specs.SharedCall.{SharedCall, SharedObeys, SharedRefuses, SharedAnswers}
use Rattle.vc_model.specs.SharedCall.SharedCall.{Accept, StepOf, Asks, Prune, Open}
use Rattle.vc_model.specs.SharedCall.SharedAnswers.{down, asked, refused, obeyed, pruned, opened, faulted}
use Rattle.vc_model.specs.Exact.{shared_event, SharedAnswerIsStep}
use Rattle.vc_model.proofs.CloneAnswers.{told_quiet}

module _ (fmt : Format) where
  does : (r : Repository) (slots : Slots) (e : SharedCall) (d : Deed Slots) → SharedObeys fmt r slots e d → SharedDoes fmt r slots (shared_event e) d
  does r slots (Accept m) d h = h
  does r slots (StepOf s) d h = h
  does r slots (Asks q) d h = absurd h
  does r slots Prune d h = absurd h
  does r slots Open d h = absurd h

  declined : (r : Repository) (slots : Slots) (e : SharedCall) (n : ℕ) → SharedRefuses fmt r slots e n → SharedDeclines fmt r slots (shared_event e) n
  declined r slots (Accept m) n h = h
  declined r slots (StepOf s) n h = h
  declined r slots (Asks q) n h = absurd h
  declined r slots Prune n h = absurd h
  declined r slots Open n h = absurd h

  pub shared_answer_is_step : (rules : Rules fmt) (old new : SharedNode) (e : SharedCall) (a : Answer) (sends : Option Message)
      → SharedAnswers fmt rules old e a new sends → SharedStep fmt old (shared_event e) a new sends
  shared_answer_is_step rules old new e a sends h = elim h [
    | down off other is same none ↦ go e other off is same none
    | asked w q up is tells same none ↦ step_quiet (ap shared_event is) (told_quiet fmt rules old.repository q a tells) same none
    | refused w n up why is same none ↦ step_declines w n up (declined old.repository w e n why) is same none
    | obeyed w d up deed ends is ↦ step_works w d up (does old.repository w e d deed) ends is
    | pruned w up is ends none ↦ step_prunes w (ap shared_event is) up ends none
    | opened is ends none ↦ step_restarts (ap shared_event is) ends none
    | faulted w f up other is same none ↦ step_faults w f up is same none
  ]
    where
      go : (e : SharedCall) → e ≢ Open → old.live ≡ None → a ≡ Declined 112 → new ≡ old → sends ≡ None → SharedStep fmt old (shared_event e) a new sends
      go (Accept m) other off is same none = step_down off (λ e. absurd (cc)) (λ e. absurd (cc)) is same none
      go (StepOf s) other off is same none = step_down off (λ e. absurd (cc)) (λ e. absurd (cc)) is same none
      go (Asks q) other off is same none = step_quiet refl (subst IsNoFault (sym is) tt) same none
      go Prune other off is same none = step_down off (λ e. absurd (cc)) (λ e. absurd (cc)) is same none
      go Open other off is same none = absurd (other refl)

pub shared_answers_are_steps : SharedAnswerIsStep
shared_answers_are_steps fmt tests old new e a sends h = shared_answer_is_step fmt (rules_by fmt tests) old new e a sends h
