use Rattle.std.proofs.Common.{rules, ◌≡◌, ◌⊎◌, inl, ℕ, List, ap, ◌∙◌, refl, subst}
use Rattle.vc_lemmas.proofs.Lists.{on_err}
use Rattle.vc_object.specs.declared.id.ObjectId.{ObjectId}
use Rattle.vc_object_map.specs.Store.{objects}
use Rattle.vc_refs.proofs.LayeredLemmas.{packed_map-same}
use Rattle.vc_refs.specs.Refs.{packed_path}
use Rattle.vc_quarantine.specs.Migrating.{migrated}
use Rattle.vc_push_rules.specs.Quarantine.{objects_seen}
use Rattle.vc_push_rules.specs.Session.{SessionText}
use Rattle.vc_quarantine.specs.Blames.{BlamesMigration}
use Rattle.vc_session.specs.SessionFault.{IsRefusedStep, from_store}
use Rattle.vc_push_rules.specs.Steps.{EndsEarly}
use Rattle.vc_push_rules.specs.declared.stage.Stage.TheVariants.{Checked, Migrated}
use Rattle.vc_quarantine.proofs.MigratingLemmas.{front-some, migrated-all}
use Rattle.vc_session.proofs.SessionLemmas.{refused_migration}
use Rattle.vc_quarantine.proofs.KeepingLemmas.{keeps_front, keeps_migrated}
use Rattle.vc_session.proofs.session.PushSession.migrate.Goals as goal

pub returns-clause-steps : goal.returns-clause-steps
returns-clause-steps g c = λ honest holds.
    let content = g.F.Files.content c.args.files.now in
    let s = c.args.self.now in
    let slot : c.self.inside.slot ≡ s.slot = ap (λ (t : SessionText). t.slot) c.self.view_is in
    let names : c.deref.result.now ≡ s.names = c.deref.ensures.value ∙ ap (λ (t : SessionText). t.names) c.self.view_is in
    record {
      stage = c.requires.stage;
      stored = λ q.
          c.in_ok-migrate.ensures.stored honest q
          ∙ ap (λ (n : ℕ). migrated content n c.deref.result.now q) slot
          ∙ ap (λ (ids : List ObjectId). migrated content s.slot ids q) names
          ∙ migrated-all content s.slot s.names holds q;
      session = ap (λ (t : SessionText). record t { stage = Migrated }) c.self.view_is;
      outside = c.in_ok-migrate.ensures.outside honest;
    }

pub returns-in_err-migrate-clause-early : goal.returns-in_err-migrate-clause-early
returns-in_err-migrate-clause-early g c = λ honest.
    let content = g.F.Files.content c.args.files.now in
    let now = g.F.Files.content c.migrate.new.files in
    let s = c.args.self.now in
    let slot : c.self.inside.slot ≡ s.slot = ap (λ (t : SessionText). t.slot) c.self.view_is in
    let left = c.in_err-migrate.ensures.left honest in
    let some = subst (λ (n : ℕ). (q : ObjectId) → (objects now q ≡ objects content q) ⊎ (objects now q ≡ objects_seen content n q)) slot (front-some content now c.self.inside.slot c.deref.result.now left) in
    let early : EndsEarly content now s Checked = (some, c.in_err-migrate.ensures.outside honest) in
    on_err c.from_residual.result _ early

pub returns-in_err-migrate-clause-refused : goal.returns-in_err-migrate-clause-refused
returns-in_err-migrate-clause-refused g c = λ honest.
    let content = g.F.Files.content c.args.files.now in
    let e = c.in_err-migrate.field-0.0 in
    let s = c.args.self.now in
    let slot : c.self.inside.slot ≡ s.slot = ap (λ (t : SessionText). t.slot) c.self.view_is in
    let names : c.deref.result.now ≡ s.names = c.deref.ensures.value ∙ ap (λ (t : SessionText). t.names) c.self.view_is in
    let blames = subst (λ (n : ℕ). BlamesMigration content n s.names e) slot (subst (λ (ids : List ObjectId). BlamesMigration content c.self.inside.slot ids e) names (c.in_err-migrate.ensures.refused honest)) in
    let told : IsRefusedStep content s Checked (from_store e) = refused_migration content s e blames in
    search (rules, told)

pub returns-in_err-migrate-clause-spares : goal.returns-in_err-migrate-clause-spares
returns-in_err-migrate-clause-spares g c =
    record {
      objects = λ honest. keeps_front _ _ c.self.inside.slot c.deref.result.now (c.in_err-migrate.ensures.left honest);
      bad = c.in_err-migrate.ensures.bad;
      packed = λ honest. inl (packed_map-same _ _ ((c.in_err-migrate.ensures.outside honest).at packed_path refl));
    }

pub returns-clause-spares : goal.returns-clause-spares
returns-clause-spares g c =
    record {
      objects = λ honest. keeps_migrated _ _ c.self.inside.slot c.deref.result.now (c.in_ok-migrate.ensures.stored honest);
      bad = c.in_ok-migrate.ensures.bad;
      packed = λ honest. inl (packed_map-same _ _ ((c.in_ok-migrate.ensures.outside honest).at packed_path refl));
    }
