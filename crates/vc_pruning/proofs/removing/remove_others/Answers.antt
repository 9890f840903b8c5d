use Rattle.std.proofs.Common.{arith, rules, ◌≡◌, List, [], get_or, IsSome, sym, inr, refl, subst, Contains, Err}
use Rattle.vc_files.proofs.WearLemmas.{wears_then, wears_writes, writes_both, writes_told}
use Rattle.vc_files.specs.FileMap.{FileMap}
use Rattle.std.proofs.lemmas.List.{drop_more}
use Rattle.vc_object.specs.declared.id.ObjectId.{ObjectId}
use Rattle.vc_object_map.specs.Store.{HasFile, IsDamaged, objects}
use Rattle.vc_object_map.specs.StoreFault.{IsMet}
use Rattle.vc_pruning.proofs.RemovingLemmas.{IsPassed, blamed_before, left_end, left_more, passed_end, passed_more, spares_same, spares_then, takes_more, takes_none, takes_from, spares_from}
use Rattle.vc_pruning.specs.Removing.{TakesSome}
use Rattle.vc_pruning.proofs.removing.remove_others.Goals as goal

pub loop-name-init : goal.loop-name-init
loop-name-init g c = record {
  takes = λ honest. takes_none c.args.kept.now _ _ refl;
  spares = λ honest. spares_same _ _ refl;
  left = λ honest q some.
      let before : IsSome (objects (g.F.Files.content c.args.files.now) q) = subst (λ (m : FileMap). IsSome (objects m q)) c.in_ok-listed.ensures.same some in
      inr (subst (λ (l : List ObjectId). Contains l q) (sym c.deref-name-items.ensures.value) (c.in_ok-listed.ensures.lists.complete honest q before));
  passed = λ honest q has.
      let before : HasFile (g.F.Files.content c.args.files.now) q = subst (λ (m : FileMap). HasFile m q) c.in_ok-listed.ensures.same has in
      inr (subst (λ (l : List ObjectId). Contains l q) (sym c.deref-name-items.ensures.value) ((c.in_ok-listed.ensures.lists.exact honest q).1 before));
  few = omega arith;
  wear = search rules;
}

pub loop-name-preserved : goal.loop-name-preserved
loop-name-preserved g c =
    let content = g.F.Files.content in
    let before = c.loop-name.invariant in
    let call = c.in_ok-removed.ensures in
    let items = c.deref-name-items.result.now in
    let next = c.loop-name.name-index in
    let none : ObjectId = record { 0 = [] } in
    let id = get_or items next none in
    let turn = drop_more items next none c.loop-name-test.true in
    record {
      takes = λ honest. takes_more c.args.kept.now _ (content c.loop-name.files) (content c.remove_unless_kept.new.files) id c.loop-name.removed _ (before.takes honest) (call.takes honest);
      spares = λ honest. spares_then (before.spares honest) (call.spares honest);
      left = λ honest. left_more c.args.kept.now items c.loop-name.name-index (content c.loop-name.files) (content c.remove_unless_kept.new.files) id _
          turn (before.left honest) (call.takes honest);
      passed = λ honest. passed_more c.args.kept.now items c.loop-name.name-index _ (content c.loop-name.files) id turn (before.spares honest) (call.whole honest) (before.passed honest);
      few = omega (arith, before.few, call.few);
      wear = writes_both before.wear (λ never. never) (writes_told call.wear (search rules) (λ never. absurd never));
    }

pub returns-clause-all : goal.returns-clause-all
returns-clause-all g c = λ honest.
    let before = c.loop-name.invariant in
    let lists = c.in_ok-listed.ensures.lists in
    let items = c.deref-name-items.result.now in
    let passed = subst (λ (m : FileMap). IsPassed c.args.kept.now items c.loop-name.name-index m) c.in_ok-listed.ensures.same (before.passed honest) in
    record {
      spares = spares_from c.in_ok-listed.ensures.same (before.spares honest);
      takes = takes_from c.args.kept.now _ _ c.in_ok-listed.ensures.same (before.takes honest);
      left = left_end c.args.kept.now _ c.loop-name.name-index _ (omega (arith, c.loop-name-test.false)) (before.left honest);
      whole = passed_end c.args.kept.now items c.loop-name.name-index _ (omega (arith, c.loop-name-test.false)) passed (λ q has. lists.objects honest q ((lists.exact honest q).1 has));
    }

pub returns-clause-some : goal.returns-clause-some
returns-clause-some g c = λ honest.
    let before = c.loop-name.invariant in
    record { spares = spares_from c.in_ok-listed.ensures.same (before.spares honest); count = _; takes = takes_from c.args.kept.now _ _ c.in_ok-listed.ensures.same (before.takes honest) }

pub returns-in_err-listed-clause-some : goal.returns-in_err-listed-clause-some
returns-in_err-listed-clause-some g c = λ honest. record { spares = spares_same _ _ c.in_err-listed.ensures.same; count = 0; takes = takes_none c.args.kept.now _ _ c.in_err-listed.ensures.same }

pub returns-in_err-removed-clause-some : goal.returns-in_err-removed-clause-some
returns-in_err-removed-clause-some g c = λ honest.
    let content = g.F.Files.content in
    let before = c.loop-name.invariant in
    let same : content c.remove_unless_kept.new.files ≡ content c.loop-name.files = search (rules, c.in_err-removed.ensures.err honest) in
    subst (λ (m : FileMap). TakesSome c.args.kept.now (content c.args.files.now) m) (sym same) (record { spares = spares_from c.in_ok-listed.ensures.same (before.spares honest); count = _; takes = takes_from c.args.kept.now _ _ c.in_ok-listed.ensures.same (before.takes honest) })

pub returns-in_err-removed-clause-refused : goal.returns-in_err-removed-clause-refused
returns-in_err-removed-clause-refused g c = λ honest.
    let content = g.F.Files.content in
    let old = content c.args.files.now in
    let e = c.in_err-removed.field-0.0 in
    let told : IsMet (λ q. ¬ Contains c.args.kept.now q) (IsDamaged old) e =
    blamed_before c.args.kept.now old (content c.loop-name.files) e (spares_from c.in_ok-listed.ensures.same (c.loop-name.invariant.spares honest)) (c.in_err-removed.ensures.refused honest) in
    let is : c.from_residual-in_err-removed.result ≡ Err e = search rules in
    rw is told

pub returns-in_err-listed-clause-wear : goal.returns-in_err-listed-clause-wear
returns-in_err-listed-clause-wear g c = writes_told (wears_writes c.in_err-listed.ensures.wear (λ _. c.in_err-listed.ensures.same)) (search rules) (search rules)

pub returns-clause-wear : goal.returns-clause-wear
returns-clause-wear g c = wears_then c.in_ok-listed.ensures.wear (λ _. c.in_ok-listed.ensures.same) (search rules) (writes_told c.loop-name.invariant.wear (λ never. absurd never) (search rules))

pub returns-in_err-removed-clause-wear : goal.returns-in_err-removed-clause-wear
returns-in_err-removed-clause-wear g c =
    wears_then c.in_ok-listed.ensures.wear (λ _. c.in_ok-listed.ensures.same) (search rules)
    (writes_both c.loop-name.invariant.wear (λ never. never) (writes_told c.in_err-removed.ensures.wear (search rules) (search rules)))
