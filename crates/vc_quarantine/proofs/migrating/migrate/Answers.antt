use Rattle.std.proofs.Common.{arith, rules, ℕ, ◌<◌, ◌≡◌, ◌∷◌, List, refl, length, drop, get_or, take, ap, sym, ◌∙◌, subst, ◌⊎◌, inl, inr, []}
use Rattle.std.specs.Prelude.{◌≢◌}
use Rattle.std.proofs.lemmas.List.Elements.{Contains-get_or}
use Rattle.std.proofs.lemmas.List.{take-append-drop, take_all, take_more}
use Rattle.vc_files.proofs.FileMapLemmas.{outside_same, outside_then}
use Rattle.vc_files.proofs.WearLemmas.{writes_both, writes_told}
use Rattle.vc_files.specs.FileMap.{FileMap}
use Rattle.vc_lemmas.proofs.Lists.{on_err}
use Rattle.vc_object.specs.declared.id.ObjectId.{ObjectId}
use Rattle.vc_object_map.specs.Store.{objects}
use Rattle.vc_object_map.specs.declared.faults.StoreFault.{StoreFault}
use Rattle.vc_quarantine.specs.Blames.{BlamesMigration}
use Rattle.vc_quarantine.proofs.CleanLemmas.{bad_objects}
use Rattle.vc_quarantine.proofs.DamageLemmas.{blames_before}
use Rattle.vc_quarantine.specs.Migrating.{IsFrontMigrated, migrated}
use Rattle.vc_quarantine.proofs.MigratingLemmas.{migrated_more, migrated_none}
use Rattle.vc_quarantine.proofs.migrating.migrate.Goals as goal

not_below : (ids : List ObjectId) (place : ℕ) → ids ≡ [] → place < length ids → ⊥
not_below [] place none within = absurd (omega (arith, within))
not_below (id ∷ ids) place none within = cc none

pub loop-id-init : goal.loop-id-init
loop-id-init g c = record {
  stored = λ honest q. migrated_none (g.F.Files.content c.args.files.now) c.args.slot q;
  outside = λ honest. outside_same _ _;
  undamaged = λ honest q damaged. damaged;
  unread = λ none. refl;
  wear = search rules;
}

pub loop-id-preserved : goal.loop-id-preserved
loop-id-preserved g c = record {
  stored = λ honest q.
      let content = g.F.Files.content in
      let ids = c.args.names.now in
      let place = c.loop-id.id-index in
      let none : ObjectId = record { 0 = [] } in
      let id = get_or ids place none in
      subst (λ (l : List ObjectId). objects (content c.migrate_one.new.files) q ≡ migrated (content c.args.files.now) c.args.slot l q) (sym (take_more ids place none c.loop-id-test.true))
      (migrated_more (content c.args.files.now) (content c.loop-id.files) (content c.migrate_one.new.files) c.args.slot (take place ids) id (c.loop-id.invariant.stored honest) (c.loop-id.invariant.outside honest) (c.in_ok-migrate_one.ensures.stored honest) q);
  outside = λ honest. outside_then (c.loop-id.invariant.outside honest) (c.in_ok-migrate_one.ensures.outside honest);
  undamaged = λ honest q damaged. c.loop-id.invariant.undamaged honest q (c.in_ok-migrate_one.ensures.undamaged honest q damaged);
  unread = λ none. absurd (not_below c.args.names.now c.loop-id.id-index none c.loop-id-test.true);
  wear = writes_both c.loop-id.invariant.wear (λ never. never) (writes_told c.in_ok-migrate_one.ensures.wear (search rules) (λ never. absurd never));
}

pub returns-clause-stored : goal.returns-clause-stored
returns-clause-stored g c = λ honest q.
    let content = g.F.Files.content in
    let ids = c.args.names.now in
    let whole : take c.loop-id.id-index ids ≡ ids = take_all c.loop-id.id-index ids (omega (arith, c.loop-id-test.false)) in
    subst (λ (l : List ObjectId). objects (content c.loop-id.files) q ≡ migrated (content c.args.files.now) c.args.slot l q) whole (c.loop-id.invariant.stored honest q)

pub returns-clause-outside : goal.returns-clause-outside
returns-clause-outside g c = c.loop-id.invariant.outside

pub returns-clause-bad : goal.returns-clause-bad
returns-clause-bad g c = λ honest. bad_objects _ _ (c.loop-id.invariant.outside honest) (c.loop-id.invariant.undamaged honest)

pub returns-clause-wear : goal.returns-clause-wear
returns-clause-wear g c = writes_told c.loop-id.invariant.wear (λ never. absurd never) (search rules)

pub returns-in_err-migrate_one-clause-outside : goal.returns-in_err-migrate_one-clause-outside
returns-in_err-migrate_one-clause-outside g c = λ honest. outside_then (c.loop-id.invariant.outside honest) (c.in_err-migrate_one.ensures.outside honest)

pub returns-in_err-migrate_one-clause-bad : goal.returns-in_err-migrate_one-clause-bad
returns-in_err-migrate_one-clause-bad g c = λ honest.
    bad_objects _ _ (returns-in_err-migrate_one-clause-outside g c honest) (λ q damaged. c.loop-id.invariant.undamaged honest q (c.in_err-migrate_one.ensures.undamaged honest q damaged))

none_or_some : {P : Type 0} (ids : List ObjectId) → (ids ≡ [] → P) → (ids ≢ []) ⊎ P
none_or_some [] none = inr (none refl)
none_or_some (id ∷ ids) none = inl (λ e. cc e)

pub returns-in_err-migrate_one-clause-left : goal.returns-in_err-migrate_one-clause-left
returns-in_err-migrate_one-clause-left g c = λ honest.
    let content = g.F.Files.content in
    let ids = c.args.names.now in
    let same : content c.migrate_one.new.files ≡ content c.loop-id.files = search (rules, c.in_err-migrate_one.ensures.err honest) in
    let left : IsFrontMigrated (content c.args.files.now) c.args.slot ids (content c.migrate_one.new.files) = record {
      front = take c.loop-id.id-index ids;
      back = drop c.loop-id.id-index ids;
      whole = sym (take-append-drop c.loop-id.id-index ids);
      stored = λ q. ap (λ (m : FileMap). objects m q) same ∙ c.loop-id.invariant.stored honest q;
    } in
    on_err c.from_residual.result _ left

pub returns-in_err-migrate_one-clause-wear : goal.returns-in_err-migrate_one-clause-wear
returns-in_err-migrate_one-clause-wear g c = writes_both c.loop-id.invariant.wear (λ never. never) (writes_told c.in_err-migrate_one.ensures.wear (search rules) (search rules))

pub returns-in_err-migrate_one-clause-refused : goal.returns-in_err-migrate_one-clause-refused
returns-in_err-migrate_one-clause-refused g c = λ honest.
    let content = g.F.Files.content in
    let ids = c.args.names.now in
    let none : ObjectId = record { 0 = [] } in
    let e : StoreFault = c.in_err-migrate_one.field-0.0 in
    let among = Contains-get_or ids c.loop-id.id-index none c.loop-id-test.true in
    let told : BlamesMigration (content c.args.files.now) c.args.slot ids e =
    blames_before (content c.args.files.now) (content c.loop-id.files) c.args.slot ids (get_or ids c.loop-id.id-index none) among (c.loop-id.invariant.outside honest) (c.loop-id.invariant.undamaged honest) e
    (c.in_err-migrate_one.ensures.refused honest) in
    search (rules, told)

pub returns-clause-looks : goal.returns-clause-looks
returns-clause-looks g c = none_or_some c.args.names.now (λ none. rw (c.loop-id.invariant.unread none) (search rules))
