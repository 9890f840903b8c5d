-- A body has one fault at most, or none.
use Rattle.std.proofs.Common.{Some, None, refl, sym, ap, ◌∙◌}
use Rattle.vc_format.specs.Git.{kind_of}
use Rattle.vc_object.proofs.OneFault.{two_bodies, no_body_fault}
use Rattle.vc_values.specs.Faults.{object_number}
use Rattle.vc_values.specs.Laws.{BodiesHaveOneFault}

pub bodies_have_one_fault : BodiesHaveOneFault
bodies_have_one_fault o (Some n) (Some k) p q = ap Some (p.2 ∙ (ap object_number (two_bodies (kind_of o.kind) o.body p.0 q.0 p.1 q.1) ∙ sym q.2))
bodies_have_one_fault o (Some n) None p q = absurd (no_body_fault (kind_of o.kind) o.body p.0 q p.1)
bodies_have_one_fault o None (Some n) p q = absurd (no_body_fault (kind_of o.kind) o.body q.0 p q.1)
bodies_have_one_fault o None None p q = refl
