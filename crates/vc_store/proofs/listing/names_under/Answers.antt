use Rattle.std.proofs.Common.{rules, ◌≡◌, None, Some, [], ◌∷◌, ◌++◌, ap, ◌∙◌}
use Rattle.std.specs.Prelude.{string_bytes}
use Rattle.vc_object_map.specs.Store.{name_in}
use Rattle.vc_store.proofs.NamesLemmas.{one_more_none, one_more_some}
use Rattle.vc_store.proofs.listing.names_under.Goals.{in-Some+in_ok-push, in_default}
use Rattle.vc_store.proofs.listing.names_under.Goals as goal

pub loop-path-preserved : goal.loop-path-preserved
loop-path-preserved g c = elim c.match-branch-3.branch [
  | in-Some+in_ok-push w ↦
      let some : name_in (string_bytes c.path-item.result) ≡ Some w.in-Some.id = search rules in
      let pushed : c.match-branch-3.names.items ≡ c.loop-path.names.items ++ w.in-Some.id ∷ [] = search rules in
      rw (one_more_some c.deref-path-items.result.now c.loop-path.path-index c.path-item.result w.in-Some.id c.loop-path-test.true c.path-item.is some)
      (pushed ∙ ap (λ front. front ++ w.in-Some.id ∷ []) c.loop-path.invariant)
  | in_default w ↦
      let none : name_in (string_bytes c.path-item.result) ≡ None = search rules in
      rw (one_more_none c.deref-path-items.result.now c.loop-path.path-index c.path-item.result c.loop-path-test.true c.path-item.is none) (search rules)
]
