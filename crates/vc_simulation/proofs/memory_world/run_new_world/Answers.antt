use Rattle.std.proofs.Common.{take, vec_len}
use Rattle.vc_simulation.proofs.PlayLemmas.{plays_safely}
use Rattle.vc_simulation.proofs.memory_world.run_new_world.Goals as goal

pub returns-in-Ok-clause-safe : goal.returns-in-Ok-clause-safe
returns-in-Ok-clause-safe c =
    plays_safely c.args.clones c.args.events.now c.in-Ok.answers.items c.in_ok-world.world c.run.new.self c.in_ok-world.ensures.new (c.in-Ok.ensures.safe tt tt)

pub returns-in-Err-clause-safe : goal.returns-in-Err-clause-safe
returns-in-Err-clause-safe c =
    plays_safely c.args.clones (take (vec_len c.in-Err.answers) c.args.events.now) c.in-Err.answers.items c.in_ok-world.world c.run.new.self c.in_ok-world.ensures.new (c.in-Err.ensures.safe tt tt)
