use Rattle.std.proofs.Common.{◌≡◌, None, Some, subst}
use Rattle.std.specs.Prelude.{Option, codes}
use Rattle.vc_refname.specs.RefName.{first_broken_rule, IsRefused}
use Rattle.vc_refname.specs.declared.fault.NameFault.{NameFault}
use Rattle.vc_reading.proofs.init.name_first_branch.Goals as goal

abbrev is_none : {A : Type 0} → Option A → Type 0
is_none None = Unit {0}
is_none (Some x) = ⊥

-- the first branch's name breaks no rule
legal : (rule : NameFault) → first_broken_rule (codes "refs/heads/main") ≡ Some rule → ⊥
unfolding first_broken_rule
legal rule broken = subst is_none broken tt

pub returns-in-Err-Refused-clause-refused : goal.returns-in-Err-Refused-clause-refused
returns-in-Err-Refused-clause-refused g c = λ honest. legal c.in-Err-Refused.fault (subst (IsRefused (codes "refs/heads/main")) c.in-Err-Refused.field-0-is c.in-Err-Refused.ensures.refused)
