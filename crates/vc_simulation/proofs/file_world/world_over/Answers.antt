use Rattle.std.proofs.Common.{◌≡◌, ◌-◌, ℕ, Err, length, rules, subst, arith}
use Rattle.std.specs.Prelude.{vec_len}
use Rattle.vc_events.specs.World.{IsNewWorld}
use Rattle.vc_simulation.proofs.PlayLemmas.{are_fresh, by_error, first_passes, one_less, others_pass}
use Rattle.vc_simulation.specs.Nodes.{IsEmpty, IsMemoryUnless, seen_cloned, seen_served}
use Rattle.vc_simulation.proofs.file_world.world_over.Goals as goal

pub over-requires : goal.over-requires
over-requires g c =
    let others = one_less c.args.files.items c.remove.new.self.items c.requires.some c.remove.ensures.items in
    let count = c.in_ok-clones.ensures.count in
    record { some = omega (arith, others.1, count) }

pub returns-clause-new : goal.returns-clause-new
returns-clause-new g c honest frail below all =
    let shared = seen_served g.F.Files.content g.F.Files.can_fail g.F.Files.left in
    let cloned = seen_cloned g.F.Files.content g.F.Files.can_fail g.F.Files.left in
    let others = one_less c.args.files.items c.remove.new.self.items c.requires.some c.remove.ensures.items in
    let count = c.in_ok-clones.ensures.count in
    let long : length c.in_ok-clones.clones.items ≡ length c.args.files.items - 1 = omega (arith, others.0, count) in
    subst (λ (n : ℕ). IsNewWorld shared cloned n frail c.over.result) long
    (c.over.ensures.new honest honest frail (are_fresh shared cloned frail c.in_ok-shared.shared c.in_ok-clones.clones.items
    (c.in_ok-shared.ensures.new honest frail below (first_passes (IsEmpty g.F.Files.content) c.args.files.items c.remove.result c.requires.some all c.remove.ensures.value))
    (c.in_ok-clones.ensures.new honest frail below (others_pass (IsEmpty g.F.Files.content) c.args.files.items c.remove.new.self.items all c.remove.ensures.items))))

pub returns-clause-count : goal.returns-clause-count
returns-clause-count g c =
    let others = one_less c.args.files.items c.remove.new.self.items c.requires.some c.remove.ensures.items in
    let count = c.in_ok-clones.ensures.count in
    let long : vec_len c.in_ok-clones.clones ≡ length c.in_ok-clones.clones.items = search rules in
    let over = c.over.ensures.clones in
    omega (arith, others.0, count, long, over)

pub returns-in_err-shared-clause-fault : goal.returns-in_err-shared-clause-fault
returns-in_err-shared-clause-fault g c honest frail below all =
    let e = c.in_err-shared.field-0.0 in
    let empty = first_passes (IsEmpty g.F.Files.content) c.args.files.items c.remove.result c.requires.some all c.remove.ensures.value in
    let is : c.from_residual.result ≡ Err e = search rules in
    by_error (IsMemoryUnless frail) c.from_residual.result e is (c.in_err-shared.ensures.fault honest frail below empty)

pub returns-in_err-clones-clause-fault : goal.returns-in_err-clones-clause-fault
returns-in_err-clones-clause-fault g c honest frail below all =
    let e = c.in_err-clones.field-0.0 in
    let empty = others_pass (IsEmpty g.F.Files.content) c.args.files.items c.remove.new.self.items all c.remove.ensures.items in
    let is : c.from_residual-in_err-clones.result ≡ Err e = search rules in
    by_error (IsMemoryUnless frail) c.from_residual-in_err-clones.result e is (c.in_err-clones.ensures.fault honest frail below empty)
