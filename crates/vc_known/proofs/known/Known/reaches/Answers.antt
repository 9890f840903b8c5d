use Rattle.std.proofs.Common.{Contains, sym, subst}
use Rattle.vc_known.proofs.known.Known.reaches.Goals as goal

pub returns-clause-reached : goal.returns-clause-reached
returns-clause-reached g c honest told = record {
  moment = c.requires;
  reached = λ x at. c.in_ok-met.ensures.reached honest x (c.are_among.ensures.0 told x (subst (λ l. Contains l x) (sym c.last_roots.ensures) at));
}
