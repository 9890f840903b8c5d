use Rattle.std.proofs.Common.{Ok, inr, subst}
use Rattle.std.proofs.lemmas.Result.{IfErr-weaker}
use Rattle.std.specs.Prelude.{OnOk, Option, Result}
use Rattle.vc_cli.proofs.StoreLemmas.{gave}
use Rattle.vc_cli.proofs.ToldLemmas.{OnOk-map}
use Rattle.vc_cli.specs.Stores.{IsUntoldOr}
use Rattle.vc_cli.specs.declared.failure.Failure.{Failure}
use Rattle.vc_committing.specs.Steps.{StepsTo}
use Rattle.vc_committing.specs.Told.{IsOfOldTold, IsOfTaking, IsUntoldOnTerminal}
use Rattle.vc_model.specs.Clone.Task.{DeleteBranch}
use Rattle.vc_object.specs.declared.id.ObjectId.{ObjectId}
use Rattle.vc_working.specs.CloneWords.{branch_ref}
use Rattle.vc_committing.proofs.commands.branch_delete.Goals as goal

pub returns-clause-deleted : goal.returns-clause-deleted
returns-clause-deleted g c = λ honest.
    let content = g.S.Files.Files.content in
    let stores = g.S.Stores.content in
    let store = g.S.Stores.of c.args.lock.now in
    let task = DeleteBranch (branch_ref c.args.name.now) in
    let files = content c.in_ok-files.files in
    let back = content c.take_branch-files.result.0 in
    let taken : StepsTo task (Ok tt) files back = subst (λ (r : Result (Option ObjectId) Failure). OnOk r (StepsTo task (Ok tt) files back)) c.in_ok-was.was (c.take_branch-files.ensures.taken honest) in
    OnOk-map c.tell_old.result
    (λ told. gave (StepsTo task (Ok tt)) store files back (stores c.args.stores.now) (stores c.open_locked.new.self) (stores c.close_locked.new.self) c.in_ok-files.ensures.opened c.close_locked.ensures.back taken)
    c.tell_old.ensures.told

pub returns-clause-refused : goal.returns-clause-refused
returns-clause-refused g c = λ honest.
    let content = g.S.Files.Files.content in
    let stores = g.S.Stores.content in
    let store = g.S.Stores.of c.args.lock.now in
    let old = stores c.args.stores.now in
    let new = stores c.close_locked.new.self in
    let task = DeleteBranch (branch_ref c.args.name.now) in
    let files = content c.in_ok-files.files in
    let back = content c.take_branch-files.result.0 in
    let before = g.E.Write.contents c.args.faults.now.stream in
    let after = g.E.Write.contents c.tell_old.new.faults.stream in
    let is_terminal = c.args.faults.now.is_terminal in
    let taken : StepsTo task (Ok tt) files back = subst (λ (r : Result (Option ObjectId) Failure). OnOk r (StepsTo task (Ok tt) files back)) c.in_ok-was.was (c.take_branch-files.ensures.taken honest) in
    let step = gave (StepsTo task (Ok tt)) store files back old (stores c.open_locked.new.self) new c.in_ok-files.ensures.opened c.close_locked.ensures.back taken in
    IfErr-weaker c.tell_old.result (IsUntoldOnTerminal is_terminal)
    (IsUntoldOr old new before after (IsOfOldTold (IsOfTaking c.args.name.now (old store) (new store)) (StepsTo task (Ok tt) (old store) (new store)) is_terminal before after))
    (λ e fault. inr (inr (fault, step)))
    c.tell_old.ensures.fault
