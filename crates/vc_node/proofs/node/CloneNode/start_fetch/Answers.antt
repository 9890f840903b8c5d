use Rattle.std.proofs.Common.{ap, refl, rules, ◌∙◌}
use Rattle.std.specs.Prelude.{not}
use Rattle.vc_model.specs.Clone.Task.{StartFetch}
use Rattle.vc_model.specs.CloneCall.CloneCall.{Command}
use Rattle.vc_node.proofs.CloneCallLemmas.{down_clone}
use Rattle.vc_node.proofs.StartLemmas.{fetch_faulted, fetch_sent}
use Rattle.vc_node.specs.Awaited.{an_advert}
use Rattle.vc_node.specs.CloneFaults.{takes_down}
use Rattle.vc_node.specs.declared.clone_fault.CloneFault.{CloneFault}
use Rattle.vc_node.proofs.node.CloneNode.start_fetch.Goals as goal

pub returns-then-not-self-clause-answers : goal.returns-then-not-self-clause-answers
returns-then-not-self-clause-answers g c = λ honest. down_clone (Command StartFetch) (λ never. cc never) _ _ _ _ _ _ refl refl refl (search rules)

pub returns-in-Ok-clause-answers : goal.returns-in-Ok-clause-answers
returns-in-Ok-clause-answers g c = λ honest.
    let content = g.F.Files.content in
    rw (← c.self.view_is) (fetch_sent (content c.self.inside.files) (content c.self.inside.files) _ an_advert c.self.inside.is_up c.self.inside.is_up c.in-Ok.bytes c.in-Ok.ensures refl refl c.if-not-self.false c.if-not-self.false)

pub returns-in-Err-clause-answers : goal.returns-in-Err-clause-answers
returns-in-Err-clause-answers g c = λ honest.
    let content = g.F.Files.content in
    fetch_faulted (content c.args.self.now.files) (content c.fail_exchange.new.self.files) c.args.self.now.awaited c.fail_exchange.new.self.awaited c.args.self.now.is_up c.fail_exchange.new.self.is_up c.fail_exchange.result
    (c.fail_exchange.ensures.fault ∙ c.from-fault.ensures) (ap content c.fail_exchange.ensures.files) c.fail_exchange.ensures.awaits (search rules)
    (c.fail_exchange.ensures.up (search rules) ∙ ap (λ (x : CloneFault). not (takes_down x)) c.from-fault.ensures)
