use Rattle.std.proofs.Common.{◌≡◌, Err, rules}
use Rattle.vc_object_map.specs.StoreFault.{IsMetFrom}
use Rattle.vc_push.specs.PushView.{commands_of}
use Rattle.vc_push_rules.specs.Quarantine.{objects_seen}
use Rattle.vc_quarantine.specs.PushState.{IsDamagedSeen}
use Rattle.vc_session.specs.Needing.{unrefused_ids}
use Rattle.vc_session.proofs.session.needing.needed_in_files.Goals as goal

pub returns-clause-needed : goal.returns-clause-needed
returns-clause-needed g c = λ honest. rw (c.deref.ensures.value, c.in_ok-ids.ensures) at (c.in_ok-needed.ensures.reached honest)

pub returns-in_err-needed-clause-refused : goal.returns-in_err-needed-clause-refused
returns-in_err-needed-clause-refused g c = λ honest.
    let content = g.F.Files.content c.args.files.now in
    let slot = c.args.slot in
    let e = c.in_err-needed.field-0.0 in
    let told : IsMetFrom (objects_seen content slot) (IsDamagedSeen content slot) (unrefused_ids (commands_of c.args.commands.now) c.args.verdicts.now) e = rw (c.deref.ensures.value, c.in_ok-ids.ensures) at (c.in_err-needed.ensures.refused honest) in
    let is : c.from_residual-in_err-needed.result ≡ Err e = search rules in
    rw is told
