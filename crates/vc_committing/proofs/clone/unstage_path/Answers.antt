use Rattle.std.proofs.Common.{rules, Ok, Err, ap, sym, inr}
use Rattle.vc_files.proofs.WearLemmas.{writes_both, writes_told}
use Rattle.vc_model.specs.Clone.Task.{Unstage}
use Rattle.vc_committing.proofs.StepLemmas.{step_of}
use Rattle.vc_committing.proofs.clone.unstage_path.Goals as goal

pub returns-in-Ok-unstage-clause-unstaged : goal.returns-in-Ok-unstage-clause-unstaged
returns-in-Ok-unstage-clause-unstaged g c = λ honest.
    let content = g.F.Files.content in
    (step_of (Unstage c.args.path.now) c.unstage.result (Ok tt) c.in-Ok.node.is_up c.unstage.new.self.is_up (content c.args.files) (content c.in-Ok.node.files) (content c.unstage.new.self.files) (content c.close.result)
    (c.in-Ok.ensures.opened honest) c.in-Ok.ensures.fresh.up (c.unstage.ensures.settles.up c.in-Ok.ensures.fresh.up) c.in-Ok-unstage.is (ap content (sym c.close.ensures)) (c.unstage.ensures.answers honest).held (c.unstage.ensures.answers honest).any (c.unstage.ensures.kept honest).err c.unstage.ensures.file (c.unstage.ensures.kept honest).clean)

pub returns-in-Err-unstage-clause-refused : goal.returns-in-Err-unstage-clause-refused
returns-in-Err-unstage-clause-refused g c = λ honest.
    let content = g.F.Files.content in
    inr (step_of (Unstage c.args.path.now) c.unstage.result (Err c.in-Err-unstage.fault) c.in-Ok.node.is_up c.unstage.new.self.is_up (content c.args.files) (content c.in-Ok.node.files) (content c.unstage.new.self.files) (content c.close-in-Err-unstage.result)
    (c.in-Ok.ensures.opened honest) c.in-Ok.ensures.fresh.up (c.unstage.ensures.settles.up c.in-Ok.ensures.fresh.up) c.in-Err-unstage.is (ap content (sym c.close-in-Err-unstage.ensures)) (c.unstage.ensures.answers honest).held (c.unstage.ensures.answers honest).any (c.unstage.ensures.kept honest).err c.unstage.ensures.file (c.unstage.ensures.kept honest).clean)

pub returns-in-Ok-unstage-clause-wear : goal.returns-in-Ok-unstage-clause-wear
returns-in-Ok-unstage-clause-wear g c = rw c.close.ensures (writes_both c.in-Ok.ensures.wear (λ none. none) (writes_told c.unstage.ensures.wear (search rules) (search rules)))

pub returns-in-Err-unstage-clause-wear : goal.returns-in-Err-unstage-clause-wear
returns-in-Err-unstage-clause-wear g c = rw c.close-in-Err-unstage.ensures (writes_both c.in-Ok.ensures.wear (λ none. none) (writes_told c.unstage.ensures.wear (search rules) (search rules)))
