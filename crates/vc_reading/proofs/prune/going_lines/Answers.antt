use Rattle.std.proofs.Common.{arith, rules, ◌≡◌, ◌∙◌, ◌++◌, refl, ap, subst, take, get_or, Contains, []}
use Rattle.std.proofs.lemmas.List.{take_all}
use Rattle.std.specs.List.{flat_map}
use Rattle.vc_files.specs.FileMap.{FileMap}
use Rattle.vc_object.specs.declared.id.ObjectId.{ObjectId}
use Rattle.vc_object_map.specs.Store.{IsDamaged, stored_names}
use Rattle.vc_object_map.specs.StoreFault.{IsMet}
use Rattle.vc_reading.proofs.GoingLemmas.{line_more}
use Rattle.vc_reading.specs.Pruned.{going_line}
use Rattle.vc_reading.proofs.prune.going_lines.Goals as goal

pub loop-name-init : goal.loop-name-init
loop-name-init g c = record {
  lines = λ honest. search rules;
  same = refl;
  wear = search rules;
}

pub loop-name-preserved : goal.loop-name-preserved
loop-name-preserved g c =
    let content = g.F.Files.content in
    let before = c.loop-name.invariant in
    let kept = c.args.kept.now in
    let items = c.deref-name-items.result.now in
    let none : ObjectId = record { 0 = [] } in
    let id = get_or items c.loop-name.name-index none in
    let lines = c.loop-name.lines.items in
    record {
      lines = λ honest. line_more (content c.names.new.files) kept items c.loop-name.name-index none lines c.push_unless_kept.new.lines.items c.loop-name-test.true (before.lines honest)
          (subst (λ (m : FileMap). c.push_unless_kept.new.lines.items ≡ lines ++ going_line m kept id) before.same (c.in_ok-push_unless_kept.ensures.line honest));
      same = c.in_ok-push_unless_kept.ensures.same ∙ before.same;
      wear = search rules;
    }

pub returns-clause-lines : goal.returns-clause-lines
returns-clause-lines g c = λ honest.
    let old = g.F.Files.content c.args.files.now in
    let line = going_line old c.args.kept.now in
    let items = c.deref-name-items.result.now in
    let whole : take c.loop-name.name-index items ≡ items = take_all c.loop-name.name-index items (omega (arith, c.loop-name-test.false)) in
    let names : items ≡ stored_names old = c.deref-name-items.ensures.value ∙ c.in_ok-listed.ensures.lists.names honest in
    subst (λ (m : FileMap). c.loop-name.lines.items ≡ flat_map (going_line m c.args.kept.now) (take c.loop-name.name-index items)) c.in_ok-listed.ensures.same (c.loop-name.invariant.lines honest)
    ∙ ap (flat_map line) (whole ∙ names)

pub returns-in_err-push_unless_kept-clause-refused : goal.returns-in_err-push_unless_kept-clause-refused
returns-in_err-push_unless_kept-clause-refused g c = λ honest.
    let content = g.F.Files.content in
    let e = c.in_err-push_unless_kept.field-0.0 in
    let told : IsMet (λ q. ¬ Contains c.args.kept.now q) (IsDamaged (content c.args.files.now)) e =
    subst (λ (m : FileMap). IsMet (λ q. ¬ Contains c.args.kept.now q) (IsDamaged m) e) (c.loop-name.invariant.same ∙ c.in_ok-listed.ensures.same) (c.in_err-push_unless_kept.ensures.refused honest) in
    search (rules, told)
