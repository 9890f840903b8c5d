use Rattle.std.proofs.Common.{◌≡◌, Err, inr, refl, rules}
use Rattle.vc_files.specs.declared.faults.Fault.TheVariants.{Memory}
use Rattle.vc_script.specs.Script.{IsReadFault}
use Rattle.vc_script.specs.declared.fault.ScriptFault.TheVariants.{Fault as Failed}
use Rattle.vc_simulation.proofs.PlayLemmas.{by_error}
use Rattle.vc_simulation.proofs.ScriptLemmas.{all_first, on_error, told_front, told_whole}
use Rattle.vc_simulation.proofs.playing.run_script.Goals as goal

pub returns-then-played-clause-plays : goal.returns-then-played-clause-plays
returns-then-played-clause-plays c =
    told_whole c.args.text.now c.args.output.now.items c.add_lines.new.text.items c.in-Ok.script c.in-Ok-run_new_world.played c.in-Ok.ensures.read
    (rw c.deref.ensures.value at c.in-Ok-run_new_world.ensures.safe) c.if-played.true
    (rw c.letters.ensures at (rw c.deref-2.ensures.value at c.in_ok-add_lines.ensures.lines))

pub returns-in_err-add_lines-clause-fault : goal.returns-in_err-add_lines-clause-fault
returns-in_err-add_lines-clause-fault c =
    on_error _ (inr (told_front c.args.text.now c.args.output.now.items c.add_lines.new.text.items c.in-Ok.script c.in-Ok-run_new_world.played c.in-Ok.ensures.read
    (rw c.deref.ensures.value at c.in-Ok-run_new_world.ensures.safe)
    (rw c.letters.ensures at (rw c.deref-2.ensures.value at c.in_err-add_lines.ensures.err))))

pub returns-clause-fault : goal.returns-clause-fault
returns-clause-fault c =
    inr (told_front c.args.text.now c.args.output.now.items c.add_lines.new.text.items c.in-Ok.script c.in-Ok-run_new_world.played c.in-Ok.ensures.read
    (rw c.deref.ensures.value at c.in-Ok-run_new_world.ensures.safe)
    (all_first c.in-Ok-run_new_world.played.world.letters.items c.in-Ok-run_new_world.played.answers.items c.args.output.now.items c.add_lines.new.text.items
    (rw c.letters.ensures at (rw c.deref-2.ensures.value at c.in_ok-add_lines.ensures.lines))))

pub returns-in_err-add_lines-clause-only : goal.returns-in_err-add_lines-clause-only
returns-in_err-add_lines-clause-only c =
    let is : c.from_residual.result ≡ Err (Failed Memory) = search rules in
    by_error IsReadFault c.from_residual.result (Failed Memory) is refl
