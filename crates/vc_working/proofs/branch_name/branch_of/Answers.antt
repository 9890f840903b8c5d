use Rattle.std.proofs.Common.{◌≡◌, Some, ◌∙◌, subst}
use Rattle.vc_refname.specs.RefName.{first_broken_rule, IsRefused}
use Rattle.vc_working.proofs.branch_name.branch_of.Goals as goal

pub returns-in-Err-Refused-clause-refused : goal.returns-in-Err-Refused-clause-refused
returns-in-Err-Refused-clause-refused c =
    subst (λ text. first_broken_rule text ≡ Some c.in-Err-Refused.fault) (c.as_str.ensures.value ∙ c.in_ok-text.ensures.ok)
    (subst (IsRefused c.as_str.result.now) c.in-Err-Refused.field-0-is c.in-Err-Refused.ensures.refused)
