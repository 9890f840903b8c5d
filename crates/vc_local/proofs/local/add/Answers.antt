use Rattle.vc_local.proofs.LookLemmas.{looks_told, or_told, looks_or}
use Rattle.vc_files.proofs.WearLemmas.{wears_then, wears_writes, writes_both, writes_told}
use Rattle.std.proofs.Common.{◌≡◌, ap, ◌∙◌, refl, rules, sym, subst, true, inr, inl}
use Rattle.std.specs.FinMap as paths
use Rattle.vc_index.specs.IndexMap.{IndexMap, HasConflict, index_entry}
use Rattle.vc_index.specs.IndexText.{index_text}
use Rattle.vc_object.specs.declared.id.ObjectId.{ObjectId}
use Rattle.vc_object.specs.ObjectId.{is_id}
use Rattle.vc_object.specs.Object.{IsObject}
use Rattle.vc_object.specs.declared.kind.Kind.TheVariants.{Blob}
use Rattle.vc_object_map.specs.Store.{objects}
use Rattle.vc_local.specs.Shown.{Shown, shown, with_index_shown}
use Rattle.vc_local.specs.Adding.{with_blob, with_file}
use Rattle.vc_local.specs.Blames.{BlamesAdd, MayStage}
use Rattle.vc_local.proofs.ShownLemmas.{objects_index, shown_index, shown_objects_from}
use Rattle.vc_local.proofs.IndexLemmas.{index_add_blamed}
use Rattle.vc_local.proofs.CleanLemmas.{clean_from, clean_on, clean_then, clean_put, clean_index}
use Rattle.vc_local.proofs.local.add.Goals as goal

pub returns-clause-added : goal.returns-clause-added
returns-clause-added g c = λ honest m spells.
    let content = g.F.Files.content in
    let bytes = c.args.bytes.now in
    let path = c.args.path.now in
    let again = c.in_ok-index.ensures.again honest m spells in
    let first : shown (content c.put.new.files) ≡ with_blob (content c.args.files.now) bytes =
    shown_objects_from _ _ _ _ _ _ c.in_ok-index.ensures.same (c.in_ok-put.ensures.puts.outside honest) (c.in_ok-put.ensures.puts.objects honest) c.in_ok-put.ensures.answers.name in
    let made : c.add.new.self ≡ with_file m path c.args.mode bytes =
    c.in_ok-add.ensures.ok ∙ ap (λ (i : IndexMap). paths.insert i path (index_entry c.args.mode c.name_of-name.result)) again
    ∙ ap (λ (n : ObjectId). paths.insert m path (index_entry c.args.mode n)) c.name_of-name.ensures.name in record {
      may = record {
        legal = c.in_ok-add.ensures.legal (search rules);
        free = λ h. c.in_ok-add.ensures.free (search rules) (subst (λ (i : IndexMap). HasConflict i path) (sym again) h);
        object = c.in_ok-put.ensures.answers.legal (search rules);
        id = subst (λ (n : ObjectId). is_id n ≡ true) c.name_of-name.ensures.name c.name_of-name.ensures.valid;
      };
      is = shown_index _ _ _ (c.in_ok-write_index.ensures.written honest) ∙ ap (λ (s : Shown). with_index_shown s (index_text c.add.new.self)) first
          ∙ ap (λ (i : IndexMap). with_index_shown (with_blob (content c.args.files.now) bytes) (index_text i)) made;
    }

pub returns-in_err-index-clause-refused : goal.returns-in_err-index-clause-refused
returns-in_err-index-clause-refused g c = λ honest m spells.
    let content = g.F.Files.content c.args.files.now in
    let e = c.in_err-index.field-0.0 in
    let blames : BlamesAdd content m c.args.path.now c.args.bytes.now e = index_add_blamed content m c.args.path.now c.args.bytes.now e spells (c.in_err-index.ensures.refused honest) in
    search (rules, blames)

pub returns-in_err-write_index-clause-left : goal.returns-in_err-write_index-clause-left
returns-in_err-write_index-clause-left g c = λ honest m spells.
    let content = g.F.Files.content in
    let bytes = c.args.bytes.now in
    let first : shown (content c.put.new.files) ≡ with_blob (content c.args.files.now) bytes =
    shown_objects_from _ _ _ _ _ _ c.in_ok-index.ensures.same (c.in_ok-put.ensures.puts.outside honest) (c.in_ok-put.ensures.puts.objects honest) c.in_ok-put.ensures.answers.name in
    let all : shown (content c.write_index.new.files) ≡ with_blob (content c.args.files.now) bytes =
    ap shown (c.in_err-write_index.ensures.err honest) ∙ first in
    let may : MayStage m c.args.path.now bytes = record {
      legal = c.in_ok-add.ensures.legal (search rules);
      free = λ h. c.in_ok-add.ensures.free (search rules) (subst (λ (i : IndexMap). HasConflict i c.args.path.now) (sym (c.in_ok-index.ensures.again honest m spells)) h);
      object = c.in_ok-put.ensures.answers.legal (search rules);
      id = subst (λ (n : ObjectId). is_id n ≡ true) c.name_of-name.ensures.name c.name_of-name.ensures.valid;
    } in
    search (rules, all, may)

pub returns-in_err-index-clause-wear : goal.returns-in_err-index-clause-wear
returns-in_err-index-clause-wear g c = writes_told (wears_writes c.in_err-index.ensures.wear (search rules)) (search rules) (search rules)

pub returns-in_err-add-clause-wear : goal.returns-in_err-add-clause-wear
returns-in_err-add-clause-wear g c = writes_told (wears_writes c.in_ok-index.ensures.wear (search rules)) (search rules) (search rules)

pub returns-in_err-put-clause-wear : goal.returns-in_err-put-clause-wear
returns-in_err-put-clause-wear g c = wears_then c.in_ok-index.ensures.wear (search rules) (search rules) (writes_told c.in_err-put.ensures.wear (search rules) (search rules))

pub returns-in_err-write_index-clause-wear : goal.returns-in_err-write_index-clause-wear
returns-in_err-write_index-clause-wear g c = wears_then c.in_ok-index.ensures.wear (search rules) (search rules) (writes_both c.in_ok-put.ensures.wear (search rules) (writes_told c.in_err-write_index.ensures.wear (search rules) (search rules)))

pub returns-clause-wear : goal.returns-clause-wear
returns-clause-wear g c = wears_then c.in_ok-index.ensures.wear (search rules) (search rules) (writes_both c.in_ok-put.ensures.wear (search rules) (writes_told c.in_ok-write_index.ensures.wear (search rules) (search rules)))

pub returns-in_err-index-clause-looks : goal.returns-in_err-index-clause-looks
returns-in_err-index-clause-looks g c = λ honest m spells. inr (looks_told c.in_err-index.ensures.wear (search rules))

pub returns-in_err-add-clause-looks : goal.returns-in_err-add-clause-looks
returns-in_err-add-clause-looks g c = λ honest m spells. inr (looks_told c.in_ok-index.ensures.wear (search rules))

pub returns-in_err-put-clause-looks : goal.returns-in_err-put-clause-looks
returns-in_err-put-clause-looks g c = λ honest m spells.
    let may : IsObject Blob c.args.bytes.now → MayStage m c.args.path.now c.args.bytes.now = λ object. record {
      legal = c.in_ok-add.ensures.legal (search rules);
      free = λ h. c.in_ok-add.ensures.free (search rules) (subst (λ (i : IndexMap). HasConflict i c.args.path.now) (sym (c.in_ok-index.ensures.again honest m spells)) h);
      object = object;
      id = subst (λ (n : ObjectId). is_id n ≡ true) c.name_of-name.ensures.name c.name_of-name.ensures.valid;
    } in
    looks_or c.in_ok-index.ensures.wear (or_told c.in_err-put.ensures.looks may (search rules)) (λ staged. staged)

pub returns-in_err-write_index-clause-looks : goal.returns-in_err-write_index-clause-looks
returns-in_err-write_index-clause-looks g c = λ honest m spells.
    let may : MayStage m c.args.path.now c.args.bytes.now = record {
      legal = c.in_ok-add.ensures.legal (search rules);
      free = λ h. c.in_ok-add.ensures.free (search rules) (subst (λ (i : IndexMap). HasConflict i c.args.path.now) (sym (c.in_ok-index.ensures.again honest m spells)) h);
      object = c.in_ok-put.ensures.answers.legal (search rules);
      id = subst (λ (n : ObjectId). is_id n ≡ true) c.name_of-name.ensures.name c.name_of-name.ensures.valid;
    } in
    inl may

pub returns-clause-looks : goal.returns-clause-looks
returns-clause-looks g c = λ honest m spells.
    let may : MayStage m c.args.path.now c.args.bytes.now = record {
      legal = c.in_ok-add.ensures.legal (search rules);
      free = λ h. c.in_ok-add.ensures.free (search rules) (subst (λ (i : IndexMap). HasConflict i c.args.path.now) (sym (c.in_ok-index.ensures.again honest m spells)) h);
      object = c.in_ok-put.ensures.answers.legal (search rules);
      id = subst (λ (n : ObjectId). is_id n ≡ true) c.name_of-name.ensures.name c.name_of-name.ensures.valid;
    } in
    inl may

pub returns-in_err-index-clause-stores : goal.returns-in_err-index-clause-stores
returns-in_err-index-clause-stores g c = λ honest. record { objects = inl (ap objects c.in_err-index.ensures.same); clean = search rules }

pub returns-in_err-add-clause-stores : goal.returns-in_err-add-clause-stores
returns-in_err-add-clause-stores g c = λ honest. record { objects = inl (ap objects c.in_ok-index.ensures.same); clean = search rules }

pub returns-in_err-put-clause-stores : goal.returns-in_err-put-clause-stores
returns-in_err-put-clause-stores g c = λ honest. record { objects = inl (ap objects (search (rules, c.in_err-put.ensures.puts.err honest) ∙ c.in_ok-index.ensures.same)); clean = search rules }

pub returns-in_err-write_index-clause-stores : goal.returns-in_err-write_index-clause-stores
returns-in_err-write_index-clause-stores g c = λ honest.
    let content = g.F.Files.content in
    let bytes = c.args.bytes.now in
    let stored = clean_put _ _ Blob bytes c.in_ok-put.field-0 c.in_ok-put.ensures.answers.name (c.in_ok-put.ensures.puts.files honest) (c.in_ok-put.ensures.puts.objects honest) (c.in_ok-put.ensures.puts.outside honest) in
    let first : shown (content c.put.new.files) ≡ with_blob (content c.args.files.now) bytes =
    shown_objects_from _ _ _ _ _ _ c.in_ok-index.ensures.same (c.in_ok-put.ensures.puts.outside honest) (c.in_ok-put.ensures.puts.objects honest) c.in_ok-put.ensures.answers.name in
    record {
      objects = inr (ap objects (c.in_err-write_index.ensures.err honest) ∙ ap (λ (s : Shown). s.objects) first);
      clean = clean_on _ _ _ (clean_from _ _ _ c.in_ok-index.ensures.same stored) (c.in_err-write_index.ensures.err honest);
    }

pub returns-clause-stores : goal.returns-clause-stores
returns-clause-stores g c = λ honest.
    let content = g.F.Files.content in
    let bytes = c.args.bytes.now in
    let stored = clean_put _ _ Blob bytes c.in_ok-put.field-0 c.in_ok-put.ensures.answers.name (c.in_ok-put.ensures.puts.files honest) (c.in_ok-put.ensures.puts.objects honest) (c.in_ok-put.ensures.puts.outside honest) in
    let first : shown (content c.put.new.files) ≡ with_blob (content c.args.files.now) bytes =
    shown_objects_from _ _ _ _ _ _ c.in_ok-index.ensures.same (c.in_ok-put.ensures.puts.outside honest) (c.in_ok-put.ensures.puts.objects honest) c.in_ok-put.ensures.answers.name in
    record {
      objects = inr (objects_index _ _ _ _ refl (c.in_ok-write_index.ensures.written honest) ∙ ap (λ (s : Shown). s.objects) first);
      clean = clean_then _ _ _ (clean_from _ _ _ c.in_ok-index.ensures.same stored) (clean_index _ _ _ (c.in_ok-write_index.ensures.written honest));
    }
