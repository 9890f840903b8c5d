use Rattle.std.proofs.Common.{subst, sym, ap, ◌∙◌}
use Rattle.std.specs.FinMap as paths
use Rattle.vc_index.specs.IndexMap.{IsIndex}
use Rattle.vc_index.proofs.MapLemmas.{index_of-unset, remove-IsIndex}
use Rattle.vc_index.proofs.index.Index.remove.Goals as goal

pub invariant_of-self : goal.invariant_of-self
invariant_of-self c = subst IsIndex (sym (index_of-unset c.self.inside.map c.remove.new.self c.args.path.now c.remove.ensures.updates)) (remove-IsIndex _ c.args.path.now c.self.invariant)

pub returns : goal.returns
returns c = index_of-unset c.self.inside.map c.remove.new.self c.args.path.now c.remove.ensures.updates ∙ ap (λ m. paths.remove m c.args.path.now) c.self.view_is
