use Rattle.std.proofs.Common.{◌≡◌, Err, rules, ap, ◌∙◌, subst, length, arith}
use Rattle.vc_events.specs.Answers.{Shows}
use Rattle.vc_events.specs.Calls.{CloneCalled}
use Rattle.vc_events.specs.declared.events.NamedItem.{NamedItem}
use Rattle.vc_simulation.proofs.CloneLemmas.{failure, items_fail, items_more, items_none, items_whole}
use Rattle.vc_simulation.specs.Nodes.{seen_clone}
use Rattle.vc_simulation.specs.Values.{Fails, IsNoItem}
use Rattle.vc_simulation.proofs.world_clone.WorldClone.items.Goals as goal

pub loop-one-init : goal.loop-one-init
loop-one-init g c = record {
  up = c.requires;
  count = ap length c.new-items.ensures.items;
  found = λ honest. items_none g.F.Files.content g.F.Files.can_fail g.F.Files.left c.args.named.now c.new-items.result.items _ c.requires c.new-items.ensures.items;
}

pub add_item-requires : goal.add_item-requires
add_item-requires g c = c.loop-one.invariant.up

pub returns-clause-found : goal.returns-clause-found
returns-clause-found g c honest = items_whole g.F.Files.content g.F.Files.can_fail g.F.Files.left c.args.named.now c.loop-one.one-index c.loop-one.items.items _ _ (omega (arith, c.loop-one-test.false, c.loop-one.auto.one-index-end)) (c.loop-one.invariant.found honest)

pub returns-in-Err-clause-err : goal.returns-in-Err-clause-err
returns-in-Err-clause-err g c honest =
    let fails : CloneCalled (seen_clone g.F.Files.content g.F.Files.can_fail g.F.Files.left) (Fails (IsNoItem c.one-item.result)) (Shows (Err c.in-Err.end)) c.loop-one.self.node c.add_item.new.self.node
    = failure g.F.Files.content g.F.Files.can_fail g.F.Files.left (IsNoItem c.one-item.result) (IsNoItem c.one-item.result) c.add_item.result c.in-Err.end _ _ c.in-Err.is (λ r k p. p) (c.add_item.ensures.err honest) in
    items_fail g.F.Files.content g.F.Files.can_fail g.F.Files.left c.args.named.now c.loop-one.one-index c.one-item.result c.loop-one.items.items c.in-Err.end c.args.self.now.node c.loop-one.self.node c.add_item.new.self.node c.loop-one-test.true
    (c.loop-one.invariant.found honest) (subst (λ (n : NamedItem). CloneCalled (seen_clone g.F.Files.content g.F.Files.can_fail g.F.Files.left) (Fails (IsNoItem n)) (Shows (Err c.in-Err.end)) c.loop-one.self.node c.add_item.new.self.node) c.one-item.is fails)

pub loop-one-preserved : goal.loop-one-preserved
loop-one-preserved g c = record {
  up = search rules;
  count = search rules;
  found = λ honest. items_more g.F.Files.content g.F.Files.can_fail g.F.Files.left c.args.named.now c.loop-one.one-index c.one-item.result c.loop-one.items.items c.add_item.new.items.items c.args.self.now.node c.loop-one.self.node c.add_item.new.self.node c.loop-one-test.true
      (c.loop-one.invariant.found honest) (search rules);
}

pub returns-clause-count : goal.returns-clause-count
returns-clause-count g c = let i = c.loop-one.invariant.count in let end : c.loop-one.one-index ≡ length c.args.named.now = omega (arith, c.loop-one-test.false, c.loop-one.auto.one-index-end) in i ∙ end
