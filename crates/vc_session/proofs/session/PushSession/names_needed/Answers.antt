use Rattle.std.proofs.Common.{◌≡◌, Err, rules}
use Rattle.vc_session.specs.Needing.{BlamesNeeded}
use Rattle.vc_session.proofs.session.PushSession.names_needed.Goals as goal

pub returns-clause-needed : goal.returns-clause-needed
returns-clause-needed g c = λ honest. rw (← c.self.view_is) (rw (c.deref.ensures.value, c.deref-2.ensures.value) at (c.in_ok-needed.ensures.needed honest))

pub returns-in_err-needed-clause-refused : goal.returns-in_err-needed-clause-refused
returns-in_err-needed-clause-refused g c = λ honest.
    let e = c.in_err-needed.field-0.0 in
    let told : BlamesNeeded (g.F.Files.content c.args.files.now) c.args.self.now e = rw (← c.self.view_is) (rw (c.deref.ensures.value, c.deref-2.ensures.value) at (c.in_err-needed.ensures.refused honest)) in
    let is : c.from_residual.result ≡ Err e = search rules in
    rw is told
