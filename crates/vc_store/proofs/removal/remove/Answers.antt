use Rattle.std.proofs.Common.{rules, ◌≡◌, ◌∙◌, sym, ap, true, false, Result, Err, refl, inl}
use Rattle.std.specs.Prelude.{codes, is_ok}
use Rattle.std.specs.FinMap as paths
use Rattle.vc_files.proofs.RemovalLemmas.{outside_unput}
use Rattle.vc_files.proofs.WearLemmas.{wears_then, writes_told}
use Rattle.vc_object.specs.Decoding.{StoredObject}
use Rattle.vc_object.specs.ObjectId.{is_id}
use Rattle.vc_object_map.specs.declared.faults.StoreFault.{StoreFault}
use Rattle.vc_object_map.specs.declared.faults.StoreFault.TheVariants.{Absent, Damaged}
use Rattle.vc_object_map.specs.Store.{object_path, stored}
use Rattle.vc_store.proofs.RemovalLemmas.{absent-unput, damage-unput, objects-is_some, objects-unput}
use Rattle.vc_store.proofs.removal.remove.Goals as goal

pub returns-in_ok-remove-clause-removes : goal.returns-in_ok-remove-clause-removes
returns-in_ok-remove-clause-removes g c =
    let content = g.F.Files.content in
    let id = c.args.id.now in
    let old = content c.args.files.now in
    let valid : is_id id ≡ true = search rules in
    let there : g.F.Files.honest → is_ok (stored old id) ≡ true = λ honest. search (rules, c.in_ok-there.ensures.tells.there honest) in
    let made : g.F.Files.honest → content c.remove.new.self ≡ paths.remove old (object_path id.0) = λ honest. search (rules, c.in_ok-remove.ensures.ok honest, c.in_ok-there.ensures.same) in
    record {
      there = λ honest. search (rules, objects-is_some old id valid ∙ there honest);
      objects = λ honest. rw (made honest) (objects-unput old id valid);
      files = made;
      outside = λ honest. rw (made honest) (outside_unput (codes "objects/") old (object_path id.0) refl);
      undamaged = λ honest q. rw (made honest) (damage-unput old id q);
      damaged = λ honest bad. absurd (let no : true ≡ false = sym (there honest) ∙ ap is_ok bad in cc no);
      refused = search rules;
      of_name = search rules;
      err = search rules;
    }

pub returns-else-there-clause-removes : goal.returns-else-there-clause-removes
returns-else-there-clause-removes g c =
    let content = g.F.Files.content in
    let id = c.args.id.now in
    let old = content c.args.files.now in
    let valid : is_id id ≡ true = search rules in
    let absent : g.F.Files.honest → stored old id ≡ Err (Absent id) = λ honest. search (rules, c.in_ok-there.ensures.tells.absent honest) in
    let none : g.F.Files.honest → is_ok (stored old id) ≡ false = λ honest. search (rules, c.in_ok-there.ensures.tells.there honest) in
    let made : g.F.Files.honest → content c.has.new.files ≡ paths.remove old (object_path id.0) = λ honest. c.in_ok-there.ensures.same ∙ absent-unput old id (absent honest) in
    record {
      there = λ honest. search (rules, objects-is_some old id valid ∙ none honest);
      objects = λ honest. rw (made honest) (objects-unput old id valid);
      files = made;
      outside = λ honest. rw (made honest) (outside_unput (codes "objects/") old (object_path id.0) refl);
      undamaged = λ honest q. rw (made honest) (damage-unput old id q);
      damaged = λ honest bad. absurd (let no : ◌≡◌ {A = Result StoredObject StoreFault} (Err (Absent id)) (Err (Damaged id)) = sym (absent honest) ∙ bad in cc no);
      refused = search rules;
      of_name = search rules;
      err = search rules;
    }

-- an object that is there may be taken away
pub returns-in_ok-remove-clause-looks : goal.returns-in_ok-remove-clause-looks
returns-in_ok-remove-clause-looks g c = inl (λ honest. objects-is_some (g.F.Files.content c.args.files.now) c.args.id.now (search rules) ∙ search (rules, c.in_ok-there.ensures.tells.there honest))

pub returns-in_err-remove-clause-looks : goal.returns-in_err-remove-clause-looks
returns-in_err-remove-clause-looks g c = inl (λ honest. objects-is_some (g.F.Files.content c.args.files.now) c.args.id.now (search rules) ∙ search (rules, c.in_ok-there.ensures.tells.there honest))

pub returns-in_ok-remove-clause-wear : goal.returns-in_ok-remove-clause-wear
returns-in_ok-remove-clause-wear g c = wears_then c.in_ok-there.ensures.wear (λ _. c.in_ok-there.ensures.same) (search rules) (writes_told c.in_ok-remove.ensures.wear (search rules) (search rules))
