use Rattle.std.proofs.Common.{rules, ◌≡◌, None, subst}
use Rattle.vc_refname.specs.RefName.{first_broken_rule}
use Rattle.vc_quarantine.proofs.NameLemmas.{not_text, of_another, of_branch}
use Rattle.vc_quarantine.proofs.legal.is_legal.Goals as goal

pub returns-in_default : goal.returns-in_default
returns-in_default c = not_text c.args.name.now c.in_default.ensures.cases.0

pub returns-then-not-is_branch : goal.returns-then-not-is_branch
returns-then-not-is_branch c =
    let unbroken : first_broken_rule c.in-Ok.text.now ≡ None = search (rules, c.check.ensures, c.is_err.ensures, c.if-is_err.false) in
    of_another c.args.name.now c.in-Ok.ensures.cases.1 (subst (λ text. first_broken_rule text ≡ None) c.in-Ok.ensures.cases.0 unbroken) c.is_branch.result c.is_branch.ensures c.if-not-is_branch.true

pub returns-else-not-is_branch : goal.returns-else-not-is_branch
returns-else-not-is_branch c =
    let unbroken : first_broken_rule c.in-Ok.text.now ≡ None = search (rules, c.check.ensures, c.is_err.ensures, c.if-is_err.false) in
    of_branch c.args.name.now c.in-Ok.ensures.cases.1 (subst (λ text. first_broken_rule text ≡ None) c.in-Ok.ensures.cases.0 unbroken) c.is_branch.result c.is_branch.ensures c.if-not-is_branch.false
