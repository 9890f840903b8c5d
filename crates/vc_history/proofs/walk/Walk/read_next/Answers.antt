use Rattle.std.proofs.Common.{◌∷◌, [], ap, sym, ◌∙◌, map, slice_get}
use Rattle.std.proofs.lemmas.List.{map-append}
use Rattle.std.proofs.Math.ListN.{length-map}
use Rattle.vc_history.proofs.walk.Walk.read_next.Goals as goal

pub returns-clause-reads : goal.returns-clause-reads
returns-clause-reads g c honest =
    let own = c.in_ok-parents.parents in
    record {
      own = own.items;
      next = ap (slice_get c.args.self.now.met.keys) (length-map c.args.self.now.parents.items (λ v. v.items) ∙ sym c.args.self.now.parents.ok.0 ∙ sym c.len.ensures) ∙ c.index.ensures;
      met_own = rw c.deref.ensures.value at c.in_ok-add_within.ensures;
      read_own = ap (map (λ v. v.items)) c.in_ok-push.ensures.items ∙ map-append (λ v. v.items) c.args.self.now.parents.items (own ∷ []);
      kind = c.in_ok-parents.ensures.read honest;
    }
