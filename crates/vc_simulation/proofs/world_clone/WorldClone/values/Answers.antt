use Rattle.std.proofs.Common.{ℕ, List, Err, Vec, Global, rules, subst, arith}
use Rattle.vc_simulation.proofs.CloneLemmas.{failure, ids_fail, ids_more, ids_none, ids_whole}
use Rattle.vc_events.specs.Answers.{Shows}
use Rattle.vc_events.specs.Calls.{CloneCalled}
use Rattle.vc_simulation.specs.Nodes.{seen_clone}
use Rattle.vc_simulation.specs.Values.{Fails, IsNoValue}
use Rattle.vc_simulation.proofs.world_clone.WorldClone.values.Goals as goal

pub loop-text-init : goal.loop-text-init
loop-text-init g c = record {
  up = c.requires;
  found = λ honest. ids_none g.F.Files.content g.F.Files.can_fail g.F.Files.left c.args.texts.now c.new-ids.result.items _ c.requires c.new-ids.ensures.items;
}

pub add_value-requires : goal.add_value-requires
add_value-requires g c = c.loop-text.invariant.up

pub loop-text-preserved : goal.loop-text-preserved
loop-text-preserved g c = record {
  up = search rules;
  found = λ honest. ids_more g.F.Files.content g.F.Files.can_fail g.F.Files.left c.args.texts.now c.loop-text.text-index c.text-item.result c.loop-text.ids.items c.add_value.new.ids.items c.args.self.now.node c.loop-text.self.node c.add_value.new.self.node c.loop-text-test.true
      (c.loop-text.invariant.found honest) (search rules);
}

pub returns-clause-found : goal.returns-clause-found
returns-clause-found g c honest = ids_whole g.F.Files.content g.F.Files.can_fail g.F.Files.left c.args.texts.now c.loop-text.text-index c.loop-text.ids.items _ _ (omega (arith, c.loop-text-test.false, c.loop-text.auto.text-index-end)) (c.loop-text.invariant.found honest)

pub returns-in-Err-clause-err : goal.returns-in-Err-clause-err
returns-in-Err-clause-err g c honest =
    let fails : CloneCalled (seen_clone g.F.Files.content g.F.Files.can_fail g.F.Files.left) (Fails (IsNoValue c.text-item.result.items)) (Shows (Err c.in-Err.end)) c.loop-text.self.node c.add_value.new.self.node
    = failure g.F.Files.content g.F.Files.can_fail g.F.Files.left (IsNoValue c.deref.result.now) (IsNoValue c.text-item.result.items) c.add_value.result c.in-Err.end _ _ c.in-Err.is
    (λ r k p. subst (λ (t : List ℕ). IsNoValue t r k) c.deref.ensures.value p) (c.add_value.ensures.err honest) in
    ids_fail g.F.Files.content g.F.Files.can_fail g.F.Files.left c.args.texts.now c.loop-text.text-index c.text-item.result c.loop-text.ids.items c.in-Err.end c.args.self.now.node c.loop-text.self.node c.add_value.new.self.node c.loop-text-test.true
    (c.loop-text.invariant.found honest) (subst (λ (t : Vec ℕ Global). CloneCalled (seen_clone g.F.Files.content g.F.Files.can_fail g.F.Files.left) (Fails (IsNoValue t.items)) (Shows (Err c.in-Err.end)) c.loop-text.self.node c.add_value.new.self.node) c.text-item.is fails)
