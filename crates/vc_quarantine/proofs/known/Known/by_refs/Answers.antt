use Rattle.std.proofs.Common.{◌≡◌, Some, false, slice_get, sym, ap, ◌∙◌}
use Rattle.std.specs.Prelude.{⊤}
use Rattle.std.proofs.lemmas.Option.{slice_get-get_or}
use Rattle.indexmap.specs.IndexSet.{insert_key}
use Rattle.vc_object.specs.ObjectId.{id_eq}
use Rattle.vc_refs.specs.Refs.{refs}
use Rattle.vc_push_rules.specs.Verdict.{is_tag}
use Rattle.vc_quarantine.proofs.KnownLemmas.{AreValues, AreValues-insert, AreValues-none, AreWhole-by_refs, listed_value}
use Rattle.vc_quarantine.proofs.known.Known.by_refs.Goals.{then-not-is_tag+in_ok-insert-2, else-not-is_tag}
use Rattle.vc_quarantine.proofs.known.Known.by_refs.Goals as goal

pub loop-name-init : goal.loop-name-init
loop-name-init g c = record {
  objects = λ honest. AreValues-none (refs (g.F.Files.content c.args.files.now)) (λ name. ⊤) c.nothing-known.result.objects.keys c.nothing-known.ensures.objects;
  histories = λ honest. AreValues-none (refs (g.F.Files.content c.args.files.now)) (λ name. is_tag name ≡ false) c.nothing-known.result.histories.keys c.nothing-known.ensures.histories;
}

pub loop-name-preserved : goal.loop-name-preserved
loop-name-preserved g c =
    let at_refs = refs (g.F.Files.content c.args.files.now) in
    let before = c.loop-name.invariant in
    let items = c.deref-name-items.result.now in
    let entry = c.loop-name-item.result in
    let at : slice_get items c.loop-name.name-index ≡ Some entry = slice_get-get_or items c.loop-name.name-index entry c.loop-name-test.true ∙ ap Some (sym c.loop-name-item.is) in
    let value : g.F.Files.honest → at_refs entry.0 ≡ Some entry.1 = λ honest. listed_value at_refs items c.loop-name.name-index entry (rw c.deref-name-items.ensures.value (c.in_ok-list.ensures.listed honest)) at in
    let added : c.insert.new.self.keys ≡ insert_key id_eq c.loop-name.known.objects.keys entry.1 = c.in_ok-insert.ensures.keys in
    let objects : g.F.Files.honest → AreValues at_refs (λ name. ⊤) c.insert.new.self.keys = λ honest. AreValues-insert at_refs (λ name. ⊤) c.loop-name.known.objects.keys c.insert.new.self.keys entry.0 entry.1 tt (value honest) added (before.objects honest) in
    elim c.if-not-is_tag.branch [
      | then-not-is_tag+in_ok-insert-2 w ↦
          let no_tag : is_tag entry.0 ≡ false = sym c.is_tag.ensures ∙ w.if-not-is_tag.true in
          let more : w.insert-then-not-is_tag.new.self.keys ≡ insert_key id_eq c.loop-name.known.histories.keys entry.1 = w.in_ok-insert-2.ensures.keys in
          let histories : g.F.Files.honest → AreValues at_refs (λ name. is_tag name ≡ false) w.insert-then-not-is_tag.new.self.keys = λ honest.
          AreValues-insert at_refs (λ name. is_tag name ≡ false) c.loop-name.known.histories.keys w.insert-then-not-is_tag.new.self.keys entry.0 entry.1 no_tag (value honest) more (before.histories honest) in
          record { objects = rw w.known-is objects; histories = rw w.known-is histories }
      | else-not-is_tag w ↦ record { objects = rw w.known-is objects; histories = rw w.known-is before.histories }
    ]

pub returns-clause-whole : goal.returns-clause-whole
returns-clause-whole g c honest whole =
    AreWhole-by_refs (g.F.Files.content c.args.files.now) c.loop-name.known (c.loop-name.invariant.objects honest) (c.loop-name.invariant.histories honest) whole
