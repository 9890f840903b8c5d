use Rattle.vc_script.proofs.events.forge_in.Goals as goal

pub returns-clause-in_world : goal.returns-clause-in_world
returns-clause-in_world c = c.in_ok-found.ensures.in_world c.args.clones c.in-Some-party_in.ensures.in_world c.in-Some-party_in-2.ensures.in_world
