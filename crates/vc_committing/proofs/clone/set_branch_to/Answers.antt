use Rattle.std.proofs.Common.{rules, Ok, Err, ap, sym, inr}
use Rattle.vc_files.proofs.WearLemmas.{writes_both, writes_told}
use Rattle.vc_model.specs.Clone.Task.{SetBranch}
use Rattle.vc_committing.proofs.StepLemmas.{step_of}
use Rattle.vc_committing.proofs.clone.set_branch_to.Goals as goal

pub returns-in-Ok-set_branch-clause-set : goal.returns-in-Ok-set_branch-clause-set
returns-in-Ok-set_branch-clause-set g c = λ honest.
    let content = g.F.Files.content in
    (step_of (SetBranch c.args.branch.now c.args.id.now.0) c.set_branch.result (Ok tt) c.in-Ok.node.is_up c.set_branch.new.self.is_up (content c.args.files) (content c.in-Ok.node.files) (content c.set_branch.new.self.files) (content c.close.result)
    (c.in-Ok.ensures.opened honest) c.in-Ok.ensures.fresh.up (c.set_branch.ensures.settles.up c.in-Ok.ensures.fresh.up) c.in-Ok-set_branch.is (ap content (sym c.close.ensures)) (c.set_branch.ensures.answers honest).held (c.set_branch.ensures.answers honest).any (c.set_branch.ensures.kept honest).err (c.set_branch.ensures.file honest) (c.set_branch.ensures.kept honest).clean)

pub returns-in-Err-set_branch-clause-refused : goal.returns-in-Err-set_branch-clause-refused
returns-in-Err-set_branch-clause-refused g c = λ honest.
    let content = g.F.Files.content in
    inr (step_of (SetBranch c.args.branch.now c.args.id.now.0) c.set_branch.result (Err c.in-Err-set_branch.fault) c.in-Ok.node.is_up c.set_branch.new.self.is_up (content c.args.files) (content c.in-Ok.node.files) (content c.set_branch.new.self.files) (content c.close-in-Err-set_branch.result)
    (c.in-Ok.ensures.opened honest) c.in-Ok.ensures.fresh.up (c.set_branch.ensures.settles.up c.in-Ok.ensures.fresh.up) c.in-Err-set_branch.is (ap content (sym c.close-in-Err-set_branch.ensures)) (c.set_branch.ensures.answers honest).held (c.set_branch.ensures.answers honest).any (c.set_branch.ensures.kept honest).err (c.set_branch.ensures.file honest) (c.set_branch.ensures.kept honest).clean)

pub returns-in-Ok-set_branch-clause-wear : goal.returns-in-Ok-set_branch-clause-wear
returns-in-Ok-set_branch-clause-wear g c = rw c.close.ensures (writes_both c.in-Ok.ensures.wear (λ none. none) (writes_told c.set_branch.ensures.wear (search rules) (search rules)))

pub returns-in-Err-set_branch-clause-wear : goal.returns-in-Err-set_branch-clause-wear
returns-in-Err-set_branch-clause-wear g c = rw c.close-in-Err-set_branch.ensures (writes_both c.in-Ok.ensures.wear (λ none. none) (writes_told c.set_branch.ensures.wear (search rules) (search rules)))
