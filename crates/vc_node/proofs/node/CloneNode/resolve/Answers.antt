use Rattle.std.proofs.Common.{ap, inr, refl, sym, rules, ◌∙◌}
use Rattle.std.specs.Prelude.{not}
use Rattle.vc_expression.specs.Views.{expr_view}
use Rattle.vc_model.specs.CloneCall.CloneCall.{Asks}
use Rattle.vc_model.specs.Question.Question.{Resolve}
use Rattle.vc_node.proofs.CloneCallLemmas.{down_clone}
use Rattle.vc_node.proofs.CloneValueLemmas.{no_value_answers, no_value_wears, value_answers}
use Rattle.vc_node.specs.Awaited.{awaited_text}
use Rattle.vc_node.specs.CloneFaults.{takes_down}
use Rattle.vc_node.specs.declared.clone_fault.CloneFault.{CloneFault}
use Rattle.vc_node.proofs.node.CloneNode.resolve.Goals as goal

pub returns-then-not-self-clause-answers : goal.returns-then-not-self-clause-answers
returns-then-not-self-clause-answers g c = λ honest text spelled. down_clone (Asks (Resolve text)) (λ never. cc never) _ _ _ _ _ _ refl refl refl (search rules)

pub returns-in-Ok-clause-answers : goal.returns-in-Ok-clause-answers
returns-in-Ok-clause-answers g c = λ honest text spelled.
    let content = g.F.Files.content in
    rw (← c.self.view_is) (value_answers (content c.self.inside.files) (content c.resolve.new.files) (awaited_text c.self.inside.awaited) (awaited_text c.self.inside.awaited) text (expr_view c.args.expr.now)
    c.self.inside.is_up c.self.inside.is_up c.in-Ok.id spelled (c.in-Ok.ensures.value honest) c.resolve.ensures.same refl c.if-not-self.false c.if-not-self.false)

pub returns-in-Ok-clause-value : goal.returns-in-Ok-clause-value
returns-in-Ok-clause-value g c = λ honest. rw (← c.self.view_is) (c.in-Ok.ensures.value honest)

pub returns-in-Err-clause-answers : goal.returns-in-Err-clause-answers
returns-in-Err-clause-answers g c = λ honest text spelled.
    let content = g.F.Files.content in
    rw (← c.self.view_is) (no_value_answers (content c.self.inside.files) (content c.fail_exchange.new.self.files) (awaited_text c.self.inside.awaited) c.fail_exchange.new.self.awaited text (expr_view c.args.expr.now)
    c.self.inside.is_up c.fail_exchange.new.self.is_up c.in-Err.fault c.fail_exchange.result
    spelled (c.in-Err.ensures.refused honest) (ap content c.fail_exchange.ensures.files ∙ c.resolve.ensures.same) c.fail_exchange.ensures.awaits (c.fail_exchange.ensures.fault ∙ c.from-fault.ensures) c.if-not-self.false
    (c.fail_exchange.ensures.up c.if-not-self.false ∙ ap (λ (x : CloneFault). not (takes_down x)) (sym c.fail_exchange.ensures.fault)))

pub returns-in-Err-clause-bad_file : goal.returns-in-Err-clause-bad_file
returns-in-Err-clause-bad_file g c = λ honest.
    rw (← c.self.view_is) (inr (c.in-Err.fault, c.fail_exchange.ensures.fault ∙ c.from-fault.ensures, c.in-Err.ensures.refused honest))

pub returns-in-Err-clause-wear : goal.returns-in-Err-clause-wear
returns-in-Err-clause-wear g c =
    rw (← c.self.view_is) (no_value_wears c.in-Err.fault c.fail_exchange.result c.resolve.result (c.fail_exchange.ensures.fault ∙ c.from-fault.ensures) c.in-Err.is c.fail_exchange.ensures.files c.resolve.ensures.wear)

pub invariant_of-self : goal.invariant_of-self
invariant_of-self g c = λ honest. (rw c.resolve.ensures.same (c.self.invariant honest).0, tt)

pub invariant_of-self-in-Err : goal.invariant_of-self-in-Err
invariant_of-self-in-Err g c = λ honest. (rw c.resolve.ensures.same (c.self.invariant honest).0, tt)
