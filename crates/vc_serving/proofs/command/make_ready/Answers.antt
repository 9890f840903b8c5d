use Rattle.vc_local.specs.Opening.{IsOpenable, OpenableAs}
use Rattle.vc_serving.proofs.ServedLemmas.{made_so}
use Rattle.vc_serving.specs.Answering.{HoldsOpened}
use Rattle.vc_serving.proofs.command.make_ready.Goals as goal

pub returns-in_err-settled-clause-openable : goal.returns-in_err-settled-clause-openable
returns-in_err-settled-clause-openable g c = λ honest. made_so (λ o n. OpenableAs o (IsOpenable n)) (g.S.Stores.of c.in_ok-lock.lock) c.args.store.now (g.S.Files.Files.content c.in_ok-files.files) (g.S.Files.Files.content c.settle-settled.new.files)
    (g.S.Stores.content c.args.stores.now) (g.S.Stores.content c.lock.new.self) (g.S.Stores.content c.settle-settled.new.self) (g.S.Stores.content c.close_locked.new.self) c.in_ok-lock.ensures.of c.lock.ensures.same c.in_ok-files.ensures.opened c.close_locked.ensures.back
    (rw c.settle-settled.ensures.files (c.make_shared-files.ensures.openable honest))

pub returns-in-Ok-clause-ready : goal.returns-in-Ok-clause-ready
returns-in-Ok-clause-ready g c = λ honest. made_so (λ o n. OpenableAs o (HoldsOpened n)) (g.S.Stores.of c.in_ok-lock.lock) c.args.store.now (g.S.Files.Files.content c.in_ok-files.files) (g.S.Files.Files.content c.settle-settled.new.files)
    (g.S.Stores.content c.args.stores.now) (g.S.Stores.content c.lock.new.self) (g.S.Stores.content c.settle-settled.new.self) (g.S.Stores.content c.close_locked.new.self) c.in_ok-lock.ensures.of c.lock.ensures.same c.in_ok-files.ensures.opened c.close_locked.ensures.back
    (rw c.settle-settled.ensures.files (λ r can. rw c.in-Ok.is at (c.make_shared-files.ensures.made honest r can)))

pub returns-in-Ok-clause-openable : goal.returns-in-Ok-clause-openable
returns-in-Ok-clause-openable g c = λ honest. made_so (λ o n. OpenableAs o (IsOpenable n)) (g.S.Stores.of c.in_ok-lock.lock) c.args.store.now (g.S.Files.Files.content c.in_ok-files.files) (g.S.Files.Files.content c.settle-settled.new.files)
    (g.S.Stores.content c.args.stores.now) (g.S.Stores.content c.lock.new.self) (g.S.Stores.content c.settle-settled.new.self) (g.S.Stores.content c.close_locked.new.self) c.in_ok-lock.ensures.of c.lock.ensures.same c.in_ok-files.ensures.opened c.close_locked.ensures.back
    (rw c.settle-settled.ensures.files (c.make_shared-files.ensures.openable honest))

pub returns-clause-openable : goal.returns-clause-openable
returns-clause-openable g c = λ honest. made_so (λ o n. OpenableAs o (IsOpenable n)) (g.S.Stores.of c.in_ok-lock.lock) c.args.store.now (g.S.Files.Files.content c.in_ok-files.files) (g.S.Files.Files.content c.settle-settled.new.files)
    (g.S.Stores.content c.args.stores.now) (g.S.Stores.content c.lock.new.self) (g.S.Stores.content c.settle-settled.new.self) (g.S.Stores.content c.close_locked.new.self) c.in_ok-lock.ensures.of c.lock.ensures.same c.in_ok-files.ensures.opened c.close_locked.ensures.back
    (rw c.settle-settled.ensures.files (c.make_shared-files.ensures.openable honest))
