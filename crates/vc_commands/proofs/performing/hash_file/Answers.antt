use Rattle.std.proofs.Common.{◌≡◌, true, inl, inr, subst, sym, rules}
use Rattle.vc_commands.proofs.PerformLemmas.{done_so, errs_right, not_hashed, over_lock}
use Rattle.vc_commands.specs.Performs.{Hashes, StoresObject}
use Rattle.vc_reading.specs.Bodies.{IsUnread}
use Rattle.vc_commands.proofs.performing.hash_file.Goals as goal

pub returns-in_err-lock : goal.returns-in_err-lock
returns-in_err-lock g c =
    let writes : c.args.write ≡ true = search rules in
    rw writes (not_hashed g.S.Files.Files.honest c.args.store.now (g.S.Stores.content c.args.stores.now) (g.S.Stores.content c.lock.new.self) (g.O.Write.contents c.args.output.now) (g.H.Host.bodies c.args.host.now c.args.path.now) IsUnread c.args.kind c.in_err-lock.field-0.0 c.from_residual-in_err-lock.result
    (search rules) (inr (search rules)) c.lock.ensures.same)

pub returns-in_err-body-2 : goal.returns-in_err-body-2
returns-in_err-body-2 g c =
    let writes : c.args.write ≡ true = search rules in
    rw writes (not_hashed g.S.Files.Files.honest c.args.store.now (g.S.Stores.content c.args.stores.now) (g.S.Stores.content c.lock.new.self) (g.O.Write.contents c.args.output.now) (g.H.Host.bodies c.args.host.now c.args.path.now) IsUnread c.args.kind c.in_err-body-2.field-0.0 c.from_residual-in_err-body-2.result
    (search rules) (inl (search rules)) c.lock.ensures.same)

pub returns : goal.returns
returns g c =
    let writes : c.args.write ≡ true = search rules in
    rw (writes, ← c.in_ok-body-2.ensures.body)
    (over_lock (λ s m. StoresObject g.S.Files.Files.honest s m (g.S.Stores.content c.hash_object.new.stores) (g.O.Write.contents c.args.output.now) (g.O.Write.contents c.hash_object.new.output) (g.H.Body.Read.remaining c.in_ok-body-2.body.stream) IsUnread c.args.kind c.hash_object.result)
    (g.S.Stores.of c.in_ok-lock.lock) c.args.store.now (g.S.Stores.content c.lock.new.self) (g.S.Stores.content c.args.stores.now) c.in_ok-lock.ensures.of c.lock.ensures.same
    (record {
      changed = λ h. done_so c.hash_object.result (g.H.Body.Read.remaining c.in_ok-body-2.body.stream) _ _ _ c.hash_object.ensures.legal (c.hash_object.ensures.stored h) c.hash_object.ensures.printed;
      refused = λ h. errs_right _ _ c.hash_object.result (c.hash_object.ensures.left h);
      always = c.hash_object.ensures.outside;
      others = c.hash_object.ensures.others;
    }))
