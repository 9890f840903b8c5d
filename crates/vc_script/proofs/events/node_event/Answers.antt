use Rattle.vc_script.proofs.events.node_event.Goals as goal

pub returns-clause-in_world : goal.returns-clause-in_world
returns-clause-in_world c = c.in_ok-found.ensures.in_world c.args.clones c.in-Some.ensures.in_world
