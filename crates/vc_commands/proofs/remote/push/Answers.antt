use Rattle.std.proofs.Common.{◌≡◌, ◌∙◌, [], Bool, Err, arith, eqb-true, inl, inr, refl, rules, sym, vec_len}
use Rattle.std.proofs.KnownBytes.{Keeps-refl}
use Rattle.std.proofs.lemmas.List.{nil_from_length}
use Rattle.vc_cli.proofs.StoreLemmas.{stores_back}
use Rattle.vc_cli.specs.Stores.{OthersStay}
use Rattle.vc_commands.proofs.RemoteLemmas.{hangs_err, hangs_fault, hangs_ok, no_items, opened_at, others_at, others_on, undone}
use Rattle.vc_commands.specs.Remote.PushesTo.{asked, nothing, unasked}
use Rattle.vc_commands.proofs.remote.push.Goals as goal

pub returns-in-Err : goal.returns-in-Err
returns-in-Err g c =
    let opened : g.S.Files.Files.content c.in_ok-files.files ≡ g.S.Stores.content c.args.stores.now c.args.store.now =
    opened_at _ (g.S.Stores.of c.in_ok-lock.lock) c.args.store.now (g.S.Stores.content c.lock.new.self) (g.S.Stores.content c.args.stores.now) c.in_ok-lock.ensures.of c.lock.ensures.same c.in_ok-files.ensures.opened in
    let others : OthersStay c.args.store.now (g.S.Stores.content c.args.stores.now) (g.S.Stores.content c.open_locked.new.self) =
    others_at (g.S.Stores.of c.in_ok-lock.lock) c.args.store.now (g.S.Stores.content c.lock.new.self) (g.S.Stores.content c.args.stores.now) (g.S.Stores.content c.open_locked.new.self) c.in_ok-lock.ensures.of c.lock.ensures.same c.in_ok-files.ensures.others in
    unasked (undone {T = Bool} _ _ _ _ c.in-Err.failure (Err c.in-Err.failure) refl (inr (λ h. rw (← opened) (c.in-Err.ensures.refused h)))
    (stores_back c.args.store.now _ (g.S.Files.Files.content c.items_of.new.files) (g.S.Stores.content c.args.stores.now) (g.S.Stores.content c.open_locked.new.self) (g.S.Stores.content c.close.new.self) others opened c.items_of.ensures.same c.close.ensures.back))

pub returns-then-is_empty : goal.returns-then-is_empty
returns-then-is_empty g c =
    let opened : g.S.Files.Files.content c.in_ok-files.files ≡ g.S.Stores.content c.args.stores.now c.args.store.now =
    opened_at _ (g.S.Stores.of c.in_ok-lock.lock) c.args.store.now (g.S.Stores.content c.lock.new.self) (g.S.Stores.content c.args.stores.now) c.in_ok-lock.ensures.of c.lock.ensures.same c.in_ok-files.ensures.opened in
    let others : OthersStay c.args.store.now (g.S.Stores.content c.args.stores.now) (g.S.Stores.content c.open_locked.new.self) =
    others_at (g.S.Stores.of c.in_ok-lock.lock) c.args.store.now (g.S.Stores.content c.lock.new.self) (g.S.Stores.content c.args.stores.now) (g.S.Stores.content c.open_locked.new.self) c.in_ok-lock.ensures.of c.lock.ensures.same c.in_ok-files.ensures.others in
    let length_is : vec_len c.in-Ok.items ≡ 0 = eqb-true (vec_len c.in-Ok.items) 0 (sym c.is_empty.ensures ∙ c.if-is_empty.true) in
    let none : c.in-Ok.items.items ≡ [] = nil_from_length c.in-Ok.items.items (omega (arith, length_is, c.in-Ok.items.ok.0)) in
    nothing (λ h. no_items (g.S.Files.Files.content c.in_ok-files.files) _ (rw none at (c.in-Ok.ensures.items h))) refl
    (stores_back c.args.store.now _ (g.S.Files.Files.content c.items_of.new.files) (g.S.Stores.content c.args.stores.now) (g.S.Stores.content c.open_locked.new.self) (g.S.Stores.content c.close-then-is_empty.new.self) others opened c.items_of.ensures.same c.close-then-is_empty.ensures.back)
    (Keeps-refl _)

pub returns-in-Err-dial : goal.returns-in-Err-dial
returns-in-Err-dial g c =
    let opened : g.S.Files.Files.content c.in_ok-files.files ≡ g.S.Stores.content c.args.stores.now c.args.store.now =
    opened_at _ (g.S.Stores.of c.in_ok-lock.lock) c.args.store.now (g.S.Stores.content c.lock.new.self) (g.S.Stores.content c.args.stores.now) c.in_ok-lock.ensures.of c.lock.ensures.same c.in_ok-files.ensures.opened in
    let others : OthersStay c.args.store.now (g.S.Stores.content c.args.stores.now) (g.S.Stores.content c.open_locked.new.self) =
    others_at (g.S.Stores.of c.in_ok-lock.lock) c.args.store.now (g.S.Stores.content c.lock.new.self) (g.S.Stores.content c.args.stores.now) (g.S.Stores.content c.open_locked.new.self) c.in_ok-lock.ensures.of c.lock.ensures.same c.in_ok-files.ensures.others in
    unasked (undone {T = Bool} _ _ _ _ c.in-Err-dial.failure (Err c.in-Err-dial.failure) refl (inl (search rules))
    (stores_back c.args.store.now _ (g.S.Files.Files.content c.items_of.new.files) (g.S.Stores.content c.args.stores.now) (g.S.Stores.content c.open_locked.new.self) (g.S.Stores.content c.close-in-Err-dial.new.self) others opened c.items_of.ensures.same c.close-in-Err-dial.ensures.back))

pub returns-in_err-done : goal.returns-in_err-done
returns-in_err-done g c =
    let opened : g.S.Files.Files.content c.in_ok-files.files ≡ g.S.Stores.content c.args.stores.now c.args.store.now =
    opened_at _ (g.S.Stores.of c.in_ok-lock.lock) c.args.store.now (g.S.Stores.content c.lock.new.self) (g.S.Stores.content c.args.stores.now) c.in_ok-lock.ensures.of c.lock.ensures.same c.in_ok-files.ensures.opened in
    let others : OthersStay c.args.store.now (g.S.Stores.content c.args.stores.now) (g.S.Stores.content c.open_locked.new.self) =
    others_at (g.S.Stores.of c.in_ok-lock.lock) c.args.store.now (g.S.Stores.content c.lock.new.self) (g.S.Stores.content c.args.stores.now) (g.S.Stores.content c.open_locked.new.self) c.in_ok-lock.ensures.of c.lock.ensures.same c.in_ok-files.ensures.others in
    let told = c.push_to.ensures.pushed in
    asked c.deref.result.now c.in-Ok-dial.server c.push_to.new.peer told.0 c.push_to.result (λ h. rw (← opened, c.deref.ensures.value) (c.in-Ok.ensures.items h)) c.in-Ok-dial.ensures.place told.1
    (hangs_err _ _ c.in_err-done.field-0.0 c.in_err-done.was (search rules))
    (rw (← opened, ← c.items_of.ensures.same) told.2)
    (record { kept = rw (← opened, ← c.items_of.ensures.same) c.push_to.ensures.kept; others = others_on c.args.store.now _ (g.S.Stores.content c.open_locked.new.self) _ others c.push_to.ensures.others })

pub returns-in_err-hang_up : goal.returns-in_err-hang_up
returns-in_err-hang_up g c =
    let opened : g.S.Files.Files.content c.in_ok-files.files ≡ g.S.Stores.content c.args.stores.now c.args.store.now =
    opened_at _ (g.S.Stores.of c.in_ok-lock.lock) c.args.store.now (g.S.Stores.content c.lock.new.self) (g.S.Stores.content c.args.stores.now) c.in_ok-lock.ensures.of c.lock.ensures.same c.in_ok-files.ensures.opened in
    let others : OthersStay c.args.store.now (g.S.Stores.content c.args.stores.now) (g.S.Stores.content c.open_locked.new.self) =
    others_at (g.S.Stores.of c.in_ok-lock.lock) c.args.store.now (g.S.Stores.content c.lock.new.self) (g.S.Stores.content c.args.stores.now) (g.S.Stores.content c.open_locked.new.self) c.in_ok-lock.ensures.of c.lock.ensures.same c.in_ok-files.ensures.others in
    let told = c.push_to.ensures.pushed in
    asked c.deref.result.now c.in-Ok-dial.server c.push_to.new.peer told.0 c.push_to.result (λ h. rw (← opened, c.deref.ensures.value) (c.in-Ok.ensures.items h)) c.in-Ok-dial.ensures.place told.1
    (hangs_fault _ _ c.in_ok-done.done c.in_ok-done.was (search rules))
    (rw (← opened, ← c.items_of.ensures.same) told.2)
    (record { kept = rw (← opened, ← c.items_of.ensures.same) c.push_to.ensures.kept; others = others_on c.args.store.now _ (g.S.Stores.content c.open_locked.new.self) _ others c.push_to.ensures.others })

pub returns : goal.returns
returns g c =
    let opened : g.S.Files.Files.content c.in_ok-files.files ≡ g.S.Stores.content c.args.stores.now c.args.store.now =
    opened_at _ (g.S.Stores.of c.in_ok-lock.lock) c.args.store.now (g.S.Stores.content c.lock.new.self) (g.S.Stores.content c.args.stores.now) c.in_ok-lock.ensures.of c.lock.ensures.same c.in_ok-files.ensures.opened in
    let others : OthersStay c.args.store.now (g.S.Stores.content c.args.stores.now) (g.S.Stores.content c.open_locked.new.self) =
    others_at (g.S.Stores.of c.in_ok-lock.lock) c.args.store.now (g.S.Stores.content c.lock.new.self) (g.S.Stores.content c.args.stores.now) (g.S.Stores.content c.open_locked.new.self) c.in_ok-lock.ensures.of c.lock.ensures.same c.in_ok-files.ensures.others in
    let told = c.push_to.ensures.pushed in
    asked c.deref.result.now c.in-Ok-dial.server c.push_to.new.peer told.0 c.push_to.result (λ h. rw (← opened, c.deref.ensures.value) (c.in-Ok.ensures.items h)) c.in-Ok-dial.ensures.place told.1
    (hangs_ok _ c.in_ok-done.done c.in_ok-done.was)
    (rw (← opened, ← c.items_of.ensures.same) told.2)
    (record { kept = rw (← opened, ← c.items_of.ensures.same) c.push_to.ensures.kept; others = others_on c.args.store.now _ (g.S.Stores.content c.open_locked.new.self) _ others c.push_to.ensures.others })
