use Rattle.std.proofs.Common.{ℕ, List, IfErr, ◌∙◌, subst}
use Rattle.vc_working.specs.CloneWords.{branch_ref}
use Rattle.vc_push_items.specs.PushWords.{IsOfSet}
use Rattle.vc_push_items.proofs.push_items.set_branch.Goals as goal

pub returns-clause-refused : goal.returns-clause-refused
returns-clause-refused g c = λ honest.
    let content = g.F.Files.content c.args.files.now in
    let revision = c.as_str.ensures.value ∙ c.in_ok-name.ensures.ok in
    let name = c.as_str-2.ensures.value ∙ c.in_ok-name.ensures.ok in
    subst (λ (text : List ℕ). IfErr c.set_ref.result (IsOfSet content (branch_ref c.args.branch.now) text)) name
    (subst (λ (text : List ℕ). IfErr c.set_ref.result (IsOfSet content text c.as_str-2.result.now)) revision (c.set_ref.ensures.refused honest))
