use Rattle.std.proofs.Common.{ap, inl, inr, refl, sym, Ok, rules, ◌∙◌}
use Rattle.std.specs.Prelude.{not}
use Rattle.vc_model.specs.Question.Question.{Resolve}
use Rattle.vc_model.specs.SharedCall.SharedCall.{Asks}
use Rattle.vc_expression.specs.Views.{expr_view}
use Rattle.vc_history.proofs.StoredLemmas.{keeps_same}
use Rattle.vc_shared.proofs.HoldingLemmas.{both_kept}
use Rattle.vc_shared.proofs.FoundLemmas.{no_value_answers, no_value_wears}
use Rattle.vc_shared.proofs.ResolvingLemmas.{down_declines, values_answer}
use Rattle.vc_shared.specs.Faults.{takes_down}
use Rattle.vc_shared.specs.declared.fault.SharedFault.{SharedFault}
use Rattle.vc_shared.proofs.shared.Shared.resolve.Goals as goal

pub returns-then-not-self-clause-answers : goal.returns-then-not-self-clause-answers
returns-then-not-self-clause-answers g c = λ honest text spelled. down_declines _ _ _ _ (Asks (Resolve text)) _ _ (λ never. cc never) refl refl refl (search rules)

pub returns-in-Ok-clause-answers : goal.returns-in-Ok-clause-answers
returns-in-Ok-clause-answers g c = λ honest text spelled.
    let content = g.F.Files.content in
    rw (← c.self.view_is) (values_answer (content c.self.inside.files) (content c.resolve.new.files) c.self.inside.slots c.self.inside.slots text (expr_view c.args.expr.now) c.self.inside.is_up c.self.inside.is_up (Ok c.in-Ok.id)
    spelled (c.in-Ok.ensures.value honest) tt c.resolve.ensures.same refl c.if-not-self.false c.if-not-self.false)

pub returns-in-Err-clause-answers : goal.returns-in-Err-clause-answers
returns-in-Err-clause-answers g c = λ honest text spelled.
    let content = g.F.Files.content in
    rw (← c.self.view_is) (no_value_answers (content c.self.inside.files) (content c.fail.new.self.files) c.self.inside.slots c.fail.new.self.slots text (expr_view c.args.expr.now) c.self.inside.is_up c.fail.new.self.is_up c.in-Err.fault c.fail.result
    spelled (c.in-Err.ensures.refused honest) (ap content c.fail.ensures.files ∙ c.resolve.ensures.same) c.fail.ensures.slots (c.fail.ensures.fault ∙ c.from-fault.ensures) c.if-not-self.false
    (c.fail.ensures.up c.if-not-self.false ∙ ap (λ (x : SharedFault). not (takes_down x)) (sym c.fail.ensures.fault)))

pub returns-in-Err-clause-wear : goal.returns-in-Err-clause-wear
returns-in-Err-clause-wear g c =
    rw (← c.self.view_is) (no_value_wears c.in-Err.fault c.fail.result c.resolve.result (c.fail.ensures.fault ∙ c.from-fault.ensures) c.in-Err.is c.fail.ensures.files c.resolve.ensures.wear)

pub returns-in-Ok-clause-value : goal.returns-in-Ok-clause-value
returns-in-Ok-clause-value g c = λ honest. rw (← c.self.view_is) (c.in-Ok.ensures.value honest)

pub returns-then-not-self-clause-bad_file : goal.returns-then-not-self-clause-bad_file
returns-then-not-self-clause-bad_file g c = λ honest. inl refl

pub returns-in-Err-clause-bad_file : goal.returns-in-Err-clause-bad_file
returns-in-Err-clause-bad_file g c = λ honest.
    rw (← c.self.view_is) (inr (c.in-Err.fault, c.fail.ensures.fault ∙ c.from-fault.ensures, c.in-Err.ensures.refused honest))

pub invariant_of-self : goal.invariant_of-self
invariant_of-self g c = (c.self.invariant.0, λ honest. both_kept _ _ c.self.inside.generations c.self.inside.known (keeps_same _ _ c.resolve.ensures.same) (c.self.invariant.1 honest))

pub invariant_of-self-in-Err : goal.invariant_of-self-in-Err
invariant_of-self-in-Err g c = (c.self.invariant.0, λ honest. both_kept _ _ c.self.inside.generations c.self.inside.known (keeps_same _ _ c.resolve.ensures.same) (c.self.invariant.1 honest))
