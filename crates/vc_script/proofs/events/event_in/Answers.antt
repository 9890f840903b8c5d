use Rattle.vc_script.proofs.events.event_in.Goals as goal

pub returns-then-eq-clause-in_world : goal.returns-then-eq-clause-in_world
returns-then-eq-clause-in_world c = c.deliver_in.ensures.in_world c.args.clones

pub returns-then-eq-2-clause-in_world : goal.returns-then-eq-2-clause-in_world
returns-then-eq-2-clause-in_world c = c.step_in.ensures.in_world c.args.clones
