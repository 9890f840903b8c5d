use Rattle.std.proofs.Common.{ap, refl, rules, sym, ◌∙◌}
use Rattle.std.specs.Prelude.{not}
use Rattle.vc_sending.specs.Sending.{machine_items}
use Rattle.vc_model.specs.Clone.Task.{StartPush}
use Rattle.vc_model.specs.CloneCall.CloneCall.{Command}
use Rattle.vc_node.proofs.CloneCallLemmas.{down_clone}
use Rattle.vc_node.proofs.StartLemmas.{push_declined, push_sent}
use Rattle.vc_node.specs.CloneFaults.{takes_down}
use Rattle.vc_node.specs.declared.clone_fault.CloneFault.{CloneFault}
use Rattle.vc_node.proofs.node.CloneNode.send_push.Goals as goal

pub returns-then-not-self-clause-answers : goal.returns-then-not-self-clause-answers
returns-then-not-self-clause-answers g c = λ honest zero. down_clone (Command (StartPush c.args.atomic (machine_items c.args.items.now))) (λ never. cc never) _ _ _ _ _ _ refl refl refl (search rules)

pub returns-in-Ok-clause-answers : goal.returns-in-Ok-clause-answers
returns-in-Ok-clause-answers g c = λ honest zero.
    let content = g.F.Files.content in
    rw (← c.self.view_is) (push_sent c.args.atomic c.args.items.now (content c.self.inside.files) (content c.push_message.new.files) _ _ c.self.inside.is_up c.self.inside.is_up c.push_message.ensures.same refl c.if-not-self.false
    c.in-Ok.bytes (c.in-Ok.ensures.sent honest (c.self.invariant honest).0.0) c.if-not-self.false zero)

pub returns-in-Err-clause-answers : goal.returns-in-Err-clause-answers
returns-in-Err-clause-answers g c = λ honest zero.
    let content = g.F.Files.content in
    rw (← c.self.view_is) (push_declined c.args.atomic c.args.items.now (content c.self.inside.files) (content c.fail_exchange.new.self.files) _ c.fail_exchange.new.self.awaited c.self.inside.is_up c.fail_exchange.new.self.is_up
    (ap content c.fail_exchange.ensures.files ∙ c.push_message.ensures.same) c.fail_exchange.ensures.awaits c.if-not-self.false
    c.in-Err.fault c.fail_exchange.result (c.in-Err.ensures.refused honest) (c.in-Err.ensures.declined honest) (c.fail_exchange.ensures.fault ∙ c.from-fault.ensures)
    (c.fail_exchange.ensures.up c.if-not-self.false ∙ ap (λ (x : CloneFault). not (takes_down x)) (sym c.fail_exchange.ensures.fault)))

pub invariant_of-self : goal.invariant_of-self
invariant_of-self g c = λ honest. (rw c.push_message.ensures.same (c.push_message.ensures.agrees honest (c.self.invariant honest).0.0, (c.self.invariant honest).0.1), tt)

pub invariant_of-self-in-Err : goal.invariant_of-self-in-Err
invariant_of-self-in-Err g c = λ honest. (rw c.push_message.ensures.same (c.push_message.ensures.agrees honest (c.self.invariant honest).0.0, (c.self.invariant honest).0.1), tt)
