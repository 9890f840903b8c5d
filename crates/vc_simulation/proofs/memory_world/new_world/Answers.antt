use Rattle.std.proofs.Common.{◌≡◌, ◌-◌, ℕ, false, Err, length, rules, subst, arith}
use Rattle.vc_events.specs.World.{IsNewWorld}
use Rattle.vc_files.specs.declared.faults.Fault.TheVariants.{Memory}
use Rattle.vc_simulation.proofs.PlayLemmas.{by_error, memory_alone, memory_below}
use Rattle.vc_simulation.specs.Memory.{memory_clone, memory_shared}
use Rattle.vc_simulation.proofs.memory_world.new_world.Goals as goal

pub world_over-requires : goal.world_over-requires
world_over-requires c = record { some = omega (arith, c.requires.some, c.in_ok-files.ensures.count) }

pub returns-clause-new : goal.returns-clause-new
returns-clause-new c =
    let count : length c.in_ok-files.files.items - 1 ≡ c.args.clones = omega (arith, c.in_ok-files.ensures.count) in
    subst (λ (n : ℕ). IsNewWorld memory_shared memory_clone n false c.in_ok-world.world) count (c.in_ok-world.ensures.new tt false memory_below c.in_ok-files.ensures.empty)

pub returns-clause-count : goal.returns-clause-count
returns-clause-count c = omega (arith, c.in_ok-world.ensures.count, c.in_ok-files.ensures.count)

pub returns-in_err-world-clause-fault : goal.returns-in_err-world-clause-fault
returns-in_err-world-clause-fault c =
    let e = c.in_err-world.field-0.0 in
    let is : c.from_residual-in_err-world.result ≡ Err e = search rules in
    by_error (λ fault. fault ≡ Memory) c.from_residual-in_err-world.result e is (memory_alone e (c.in_err-world.ensures.fault tt false memory_below c.in_ok-files.ensures.empty))
