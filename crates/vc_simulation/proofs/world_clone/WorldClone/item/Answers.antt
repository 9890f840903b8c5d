use Rattle.std.proofs.Common.{◌≡◌, ℕ, List, Some, rules, refl, subst}
use Rattle.vc_simulation.proofs.CloneLemmas.{failure, item_gone, item_there, memory_halted}
use Rattle.vc_simulation.specs.Values.{IsNoItem, IsNoValue}
use Rattle.vc_simulation.proofs.world_clone.WorldClone.item.Goals as goal

pub returns-in_default-clause-err : goal.returns-in_default-clause-err
returns-in_default-clause-err g c honest = memory_halted g.F.Files.content g.F.Files.can_fail g.F.Files.left (IsNoItem c.args.named.now) _ _ _ c.requires c.halt.ensures.up c.halt.ensures.files c.halt.ensures.awaits c.halt.ensures.end

pub returns-in_default-value-clause-found : goal.returns-in_default-value-clause-found
returns-in_default-value-clause-found g c honest = item_gone g.F.Files.content g.F.Files.can_fail g.F.Files.left c.args.named.now _ _ _ c.requires refl (search rules) (search rules)

pub returns-in-Ok-value-clause-found : goal.returns-in-Ok-value-clause-found
returns-in-Ok-value-clause-found g c honest = item_there g.F.Files.content g.F.Files.can_fail g.F.Files.left c.args.named.now c.in-Some.text c.deref.result.now c.in-Ok-value.id _ _ _ (search rules) c.deref.ensures.value (search rules) (search rules)

pub returns-in-Err-clause-err : goal.returns-in-Err-clause-err
returns-in-Err-clause-err g c honest =
    let some : c.args.named.now.value ≡ Some c.in-Some.text = search rules in
    failure g.F.Files.content g.F.Files.can_fail g.F.Files.left (IsNoValue c.deref.result.now) (IsNoItem c.args.named.now) c.value.result c.in-Err.end _ _ c.in-Err.is
    (λ r k p. (c.in-Some.text, some, subst (λ (t : List ℕ). IsNoValue t r k) c.deref.ensures.value p)) (c.value.ensures.err honest)
