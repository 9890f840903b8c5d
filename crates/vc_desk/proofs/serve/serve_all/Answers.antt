use Rattle.std.proofs.Common.{◌≡◌, Err, subst}
use Rattle.vc_local.specs.Machine.{up_after}
use Rattle.vc_local.specs.declared.fault.NodeFault.TheVariants.{Down}
use Rattle.vc_shared.specs.Node.{Settles}
use Rattle.vc_desk.specs.Runs.{Held}
use Rattle.vc_desk.proofs.Adding.{held_on}
use Rattle.vc_desk.proofs.Serving.{runs_from}
use Rattle.vc_desk.proofs.serve.serve_all.Goals as goal

pub returns-clause-run : goal.returns-clause-run
returns-clause-run g c h =
    let settles = subst (λ r. Settles (r ≡ Err Down) (up_after r) c.args.shared c.opening.new.self) c.in-Ok-opening.is c.opening.ensures.settles in
    runs_from (Held g.F.Files.content) c.args.shared c.serve_at-kept.result.0.start c.serve_at-kept.result.0.shared c.serve_at-kept.result.0.log
    (λ n held. c.serve_at-kept.ensures.start n (c.in-Ok-new.ensures.held n (held_on g.F.Files.content c.args.shared c.opening.new.self c.in-Ok-opening.opening settles c.opening.ensures.same n held))) (c.is_a_run.ensures.run h)

pub returns-clause-opening : goal.returns-clause-opening
returns-clause-opening g c h n held =
    let settles = subst (λ r. Settles (r ≡ Err Down) (up_after r) c.args.shared c.opening.new.self) c.in-Ok-opening.is c.opening.ensures.settles in
    c.is_a_run.ensures.opened h n (c.serve_at-kept.ensures.start n (c.in-Ok-new.ensures.held n (held_on g.F.Files.content c.args.shared c.opening.new.self c.in-Ok-opening.opening settles c.opening.ensures.same n held)))
