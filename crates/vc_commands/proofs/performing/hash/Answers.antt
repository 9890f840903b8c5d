use Rattle.std.proofs.Common.{◌≡◌, None, true, rules}
use Rattle.vc_commands.proofs.PerformLemmas.{done_so, errs_right}
use Rattle.vc_commands.specs.Performs.{StoresObject}
use Rattle.vc_commands.proofs.performing.hash.Goals as goal

pub returns-in-None : goal.returns-in-None
returns-in-None g c =
    let writes : c.args.write ≡ true = search rules in
    let none : c.args.file ≡ None = c.in-None.is in
    let stored : StoresObject g.S.Files.Files.honest c.args.store.now (g.S.Stores.content c.args.stores.now) (g.S.Stores.content c.store_stream.new.stores) (g.O.Write.contents c.args.output.now) (g.O.Write.contents c.store_stream.new.output)
    (g.I.Read.remaining c.args.input.stream) (λ e. ⊥) c.args.kind c.store_stream.result = record {
      changed = λ h. done_so c.store_stream.result (g.I.Read.remaining c.args.input.stream) _ _ _ c.store_stream.ensures.legal (c.store_stream.ensures.stored h) c.store_stream.ensures.printed;
      refused = λ h. errs_right _ _ c.store_stream.result (c.store_stream.ensures.left h);
      always = c.store_stream.ensures.outside;
      others = c.store_stream.ensures.others;
    } in
    rw (none, writes) stored
