use Rattle.std.proofs.Common.{◌≡◌, Err, subst, sym}
use Rattle.vc_local.specs.Machine.{up_after}
use Rattle.vc_local.specs.declared.fault.NodeFault.TheVariants.{Down}
use Rattle.vc_shared.specs.Node.{Settles}
use Rattle.vc_desk.specs.Runs.{Held}
use Rattle.vc_desk.proofs.Adding.{begins, held_before, held_on}
use Rattle.vc_desk.proofs.kept.Kept.new.Goals as goal

pub invariant_of-result : goal.invariant_of-result
invariant_of-result c c' h =
    let settles = subst (λ r. Settles (r ≡ Err Down) (up_after r) c'.args.shared c'.opening.new.self) c'.in-Ok.is c'.opening.ensures.settles in (
      rw (c'.of-start.ensures, c'.new.ensures.items) (begins (Held c.F.Files.content) c'.opening.new.self),
      λ n held. c'.in-Ok.ensures.held h n (held_before c.F.Files.content c'.args.shared c'.opening.new.self c'.in-Ok.opening settles c'.opening.ensures.same n (subst (λ s. Held c.F.Files.content s n) c'.of-start.ensures held)),
    )

pub returns-clause-held : goal.returns-clause-held
returns-clause-held g c n held =
    let settles = subst (λ r. Settles (r ≡ Err Down) (up_after r) c.args.shared c.opening.new.self) c.in-Ok.is c.opening.ensures.settles in
    subst (λ s. Held g.F.Files.content s n) (sym c.of-start.ensures) (held_on g.F.Files.content c.args.shared c.opening.new.self c.in-Ok.opening settles c.opening.ensures.same n held)
