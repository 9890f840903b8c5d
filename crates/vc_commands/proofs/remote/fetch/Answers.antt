use Rattle.std.proofs.Common.{◌≡◌, Err, refl, rules}
use Rattle.vc_cli.proofs.StoreLemmas.{stores_back}
use Rattle.vc_cli.specs.Stores.{OthersStay}
use Rattle.vc_commands.proofs.RemoteLemmas.{hangs_done, hangs_err, opened_at, others_at, others_on, undone}
use Rattle.vc_commands.specs.Remote.FetchesFrom.{asked, unasked}
use Rattle.vc_commands.proofs.remote.fetch.Goals as goal

pub returns-in-Err : goal.returns-in-Err
returns-in-Err g c =
    let opened : g.S.Files.Files.content c.in_ok-files.files ≡ g.S.Stores.content c.args.stores.now c.args.store.now =
    opened_at _ (g.S.Stores.of c.in_ok-lock.lock) c.args.store.now (g.S.Stores.content c.lock.new.self) (g.S.Stores.content c.args.stores.now) c.in_ok-lock.ensures.of c.lock.ensures.same c.in_ok-files.ensures.opened in
    let others : OthersStay c.args.store.now (g.S.Stores.content c.args.stores.now) (g.S.Stores.content c.open_locked.new.self) =
    others_at (g.S.Stores.of c.in_ok-lock.lock) c.args.store.now (g.S.Stores.content c.lock.new.self) (g.S.Stores.content c.args.stores.now) (g.S.Stores.content c.open_locked.new.self) c.in_ok-lock.ensures.of c.lock.ensures.same c.in_ok-files.ensures.others in
    unasked (undone {T = Unit {0}} _ _ _ _ c.in-Err.failure (Err c.in-Err.failure) refl (search rules)
    (stores_back c.args.store.now _ _ (g.S.Stores.content c.args.stores.now) (g.S.Stores.content c.open_locked.new.self) (g.S.Stores.content c.close.new.self) others opened refl c.close.ensures.back))

pub returns-in_err-fetch_from : goal.returns-in_err-fetch_from
returns-in_err-fetch_from g c =
    let opened : g.S.Files.Files.content c.in_ok-files.files ≡ g.S.Stores.content c.args.stores.now c.args.store.now =
    opened_at _ (g.S.Stores.of c.in_ok-lock.lock) c.args.store.now (g.S.Stores.content c.lock.new.self) (g.S.Stores.content c.args.stores.now) c.in_ok-lock.ensures.of c.lock.ensures.same c.in_ok-files.ensures.opened in
    let others : OthersStay c.args.store.now (g.S.Stores.content c.args.stores.now) (g.S.Stores.content c.open_locked.new.self) =
    others_at (g.S.Stores.of c.in_ok-lock.lock) c.args.store.now (g.S.Stores.content c.lock.new.self) (g.S.Stores.content c.args.stores.now) (g.S.Stores.content c.open_locked.new.self) c.in_ok-lock.ensures.of c.lock.ensures.same c.in_ok-files.ensures.others in
    let told = c.fetch_from.ensures.fetched in
    asked c.in-Ok.server c.fetch_from.new.peer told.0 c.fetch_from.result c.in-Ok.ensures.place told.1 (hangs_err _ _ c.in_err-fetch_from.field-0.0 c.in_err-fetch_from.was (search rules)) (rw (← opened) told.2)
    (record { kept = rw (← opened) c.fetch_from.ensures.kept; others = others_on c.args.store.now _ (g.S.Stores.content c.open_locked.new.self) _ others c.fetch_from.ensures.others })

pub returns : goal.returns
returns g c =
    let opened : g.S.Files.Files.content c.in_ok-files.files ≡ g.S.Stores.content c.args.stores.now c.args.store.now =
    opened_at _ (g.S.Stores.of c.in_ok-lock.lock) c.args.store.now (g.S.Stores.content c.lock.new.self) (g.S.Stores.content c.args.stores.now) c.in_ok-lock.ensures.of c.lock.ensures.same c.in_ok-files.ensures.opened in
    let others : OthersStay c.args.store.now (g.S.Stores.content c.args.stores.now) (g.S.Stores.content c.open_locked.new.self) =
    others_at (g.S.Stores.of c.in_ok-lock.lock) c.args.store.now (g.S.Stores.content c.lock.new.self) (g.S.Stores.content c.args.stores.now) (g.S.Stores.content c.open_locked.new.self) c.in_ok-lock.ensures.of c.lock.ensures.same c.in_ok-files.ensures.others in
    let told = c.fetch_from.ensures.fetched in
    asked c.in-Ok.server c.fetch_from.new.peer told.0 c.fetch_from.result c.in-Ok.ensures.place told.1 (hangs_done _ _ c.in_ok-fetch_from.was c.hang_up.ensures.fault) (rw (← opened) told.2)
    (record { kept = rw (← opened) c.fetch_from.ensures.kept; others = others_on c.args.store.now _ (g.S.Stores.content c.open_locked.new.self) _ others c.fetch_from.ensures.others })
