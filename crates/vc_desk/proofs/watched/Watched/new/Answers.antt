use Rattle.std.proofs.Common.{[], refl, subst, sym}
use Rattle.vc_desk.specs.Runs.{Held}
use Rattle.vc_desk.proofs.Adding.{begins}
use Rattle.vc_desk.proofs.watched.Watched.new.Goals as goal

pub invariant_of-result : goal.invariant_of-result
invariant_of-result c c' = (
  λ n held. subst (λ s. Held c.F.Files.content s n) (sym c'.of-start.ensures) (c'.requires n held),
  ([], refl, λ h. rw c'.of-start.ensures (begins (Held c.F.Files.content) c'.args.shared)),
)
