use Rattle.std.proofs.Common.{rules, ℕ, List, Ok, Err, ap, sym, subst, inr}
use Rattle.vc_files.proofs.WearLemmas.{writes_both, writes_told}
use Rattle.vc_model.specs.Clone.Task.{DeleteBranch}
use Rattle.vc_committing.proofs.StepLemmas.{step_of}
use Rattle.vc_committing.specs.Steps.{StepsTo}
use Rattle.vc_committing.proofs.clone.delete_branch.Goals as goal

pub returns-in-Ok-delete_branch-clause-deleted : goal.returns-in-Ok-delete_branch-clause-deleted
returns-in-Ok-delete_branch-clause-deleted g c = λ honest.
    let content = g.F.Files.content in
    subst (λ (b : List ℕ). StepsTo (DeleteBranch b) (Ok tt) (content c.args.files) (content c.close.result)) c.in-Ok.ensures.name
    (step_of (DeleteBranch c.in-Ok.branch) c.delete_branch.result (Ok tt) c.in-Ok-open.node.is_up c.delete_branch.new.self.is_up (content c.args.files) (content c.in-Ok-open.node.files) (content c.delete_branch.new.self.files) (content c.close.result)
    (c.in-Ok-open.ensures.opened honest) c.in-Ok-open.ensures.fresh.up (c.delete_branch.ensures.settles.up c.in-Ok-open.ensures.fresh.up) c.in-Ok-delete_branch.is (ap content (sym c.close.ensures)) (c.delete_branch.ensures.answers honest).held (c.delete_branch.ensures.answers honest).any (c.delete_branch.ensures.err honest) (c.delete_branch.ensures.file honest) (c.delete_branch.ensures.clean honest))

pub returns-clause-refused : goal.returns-clause-refused
returns-clause-refused g c = λ honest.
    let content = g.F.Files.content in
    inr (inr (subst (λ (b : List ℕ). StepsTo (DeleteBranch b) (Err c.in-Err-delete_branch.fault) (content c.args.files) (content c.close-in-Err-delete_branch.result)) c.in-Ok.ensures.name
    (step_of (DeleteBranch c.in-Ok.branch) c.delete_branch.result (Err c.in-Err-delete_branch.fault) c.in-Ok-open.node.is_up c.delete_branch.new.self.is_up (content c.args.files) (content c.in-Ok-open.node.files) (content c.delete_branch.new.self.files) (content c.close-in-Err-delete_branch.result)
    (c.in-Ok-open.ensures.opened honest) c.in-Ok-open.ensures.fresh.up (c.delete_branch.ensures.settles.up c.in-Ok-open.ensures.fresh.up) c.in-Err-delete_branch.is (ap content (sym c.close-in-Err-delete_branch.ensures)) (c.delete_branch.ensures.answers honest).held (c.delete_branch.ensures.answers honest).any (c.delete_branch.ensures.err honest) (c.delete_branch.ensures.file honest) (c.delete_branch.ensures.clean honest))))

pub returns-in-Ok-delete_branch-clause-wear : goal.returns-in-Ok-delete_branch-clause-wear
returns-in-Ok-delete_branch-clause-wear g c = rw c.close.ensures (writes_both c.in-Ok-open.ensures.wear (λ none. none) (writes_told c.delete_branch.ensures.wear (search rules) (search rules)))

pub returns-clause-wear : goal.returns-clause-wear
returns-clause-wear g c = rw c.close-in-Err-delete_branch.ensures (writes_both c.in-Ok-open.ensures.wear (λ none. none) (writes_told c.delete_branch.ensures.wear (search rules) (search rules)))
