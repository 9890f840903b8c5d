use Rattle.std.proofs.Common.{rules, ◌≡◌, subst, sym, ap, ◌∙◌}
use Rattle.std.specs.FinMap as paths
use Rattle.vc_index.specs.IndexMap.{IsIndex, index_of, index_entry, HasConflict}
use Rattle.vc_index.proofs.MapLemmas.{index_of-set, insert-IsIndex}
use Rattle.vc_index.proofs.index.Index.add.Goals as goal

pub invariant_of-self-2 : goal.invariant_of-self-2
invariant_of-self-2 c =
    let free : HasConflict (index_of c.self.inside.map) c.args.path.now → ⊥ = search rules in
    let key : c.in_ok-key.key.items ≡ c.args.path.now = search rules in
    let set = index_of-set c.self.inside.map c.insert.new.self c.in_ok-key.key.items (index_entry c.args.mode c.named-id.result) c.in_ok-insert.ensures.updates in
    subst IsIndex (sym (set ∙ ap (λ k. paths.insert (index_of c.self.inside.map) k (index_entry c.args.mode c.named-id.result)) key))
    (insert-IsIndex _ c.args.path.now (index_entry c.args.mode c.named-id.result) c.self.invariant (record { legal = search rules; mode = c.requires; id = search rules }) free)

pub returns-clause-ok : goal.returns-clause-ok
returns-clause-ok c =
    let key : c.in_ok-key.key.items ≡ c.args.path.now = search rules in
    let set = index_of-set c.self.inside.map c.insert.new.self c.in_ok-key.key.items (index_entry c.args.mode c.named-id.result) c.in_ok-insert.ensures.updates in
    set ∙ ap (λ k. paths.insert (index_of c.self.inside.map) k (index_entry c.args.mode c.named-id.result)) key ∙ ap (λ m. paths.insert m c.args.path.now (index_entry c.args.mode c.named-id.result)) c.self.view_is ∙ ap (λ i. paths.insert c.args.self.now c.args.path.now (index_entry c.args.mode i)) c.named-id.ensures.same
