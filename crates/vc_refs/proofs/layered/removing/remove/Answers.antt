use Rattle.std.proofs.Common.{rules, ◌≡◌, true, false, Some, is_none, sym, ap, ◌∙◌, subst}
use Rattle.vc_files.specs.FileMap.{FileMap}
use Rattle.vc_files.proofs.WearLemmas.{wears_writes, wears_then, writes_both, writes_told}
use Rattle.vc_refs.specs.Head.{KeepsTheRest}
use Rattle.vc_refs.specs.Packing.{IsUnpacked, UnpacksOnly}
use Rattle.vc_refs.specs.RefFault.{BlamesRemove, HasExpected}
use Rattle.vc_refs.specs.Refs.{is_taken, packed_map, refs}
use Rattle.vc_refs.specs.RefMap.{IsRefMap, without_ref}
use Rattle.vc_refs.proofs.LayeredChangeLemmas.{gone_with_file, gone_with_line, good_allowed, good_gone, good_unpacked, kept_by_file, rest_gone, rest_same, rest_unpacked, unpacks_gone, unpacks_line, unpacks_same}
use Rattle.vc_refs.proofs.LayeredLemmas.{remove_blames_packed}
use Rattle.vc_refs.proofs.RefsLemmas.{IsRefMap-without_ref, refs-without_absent, absent_from_expected}
use Rattle.vc_refs.proofs.layered.removing.remove.Goals as goal

pub returns-in_err-packed-clause-refused : goal.returns-in_err-packed-clause-refused
returns-in_err-packed-clause-refused g c = λ honest.
    let content = g.F.Files.content c.args.files.now in
    let told : BlamesRemove content c.args.name.now c.args.expected c.in_err-packed.field-0.0 = remove_blames_packed content c.args.name.now c.args.expected c.in_err-packed.field-0.0 (c.in_err-packed.ensures.refused honest) in
    search (rules, told)

pub returns-in_err-packed-clause-removes : goal.returns-in_err-packed-clause-removes
returns-in_err-packed-clause-removes g c =
    let same = c.in_err-packed.ensures.same in
    record {
      removed = search rules;
      gone = search rules;
      kept = λ honest map. subst IsRefMap (ap refs (sym same)) map;
      rest = λ honest. rest_same _ _ _ same;
      unpacks = λ honest. unpacks_same _ _ _ same;
      err = λ honest. search (rules, ap refs same);
      unchanged = λ honest. search (rules, same);
    }

pub returns-in_err-packed-clause-wear : goal.returns-in_err-packed-clause-wear
returns-in_err-packed-clause-wear g c = writes_told (wears_writes c.in_err-packed.ensures.wear (search rules)) (search rules) (search rules)

pub returns-in_err-loose-clause-refused : goal.returns-in_err-loose-clause-refused
returns-in_err-loose-clause-refused g c = λ honest.
    let content = g.F.Files.content c.args.files.now in
    let read : packed_map content ≡ Some c.in_ok-packed.packed = c.in_ok-packed.ensures.found honest in
    let told : BlamesRemove content c.args.name.now c.args.expected c.in_err-loose.field-0.0 = rw c.in_ok-packed.ensures.same at (c.in_err-loose.ensures.refused honest (rw c.in_ok-packed.ensures.same read)) in
    search (rules, told)

pub returns-in_err-loose-clause-removes : goal.returns-in_err-loose-clause-removes
returns-in_err-loose-clause-removes g c =
    let same = c.in_err-loose.ensures.same ∙ c.in_ok-packed.ensures.same in
    record {
      removed = search rules;
      gone = search rules;
      kept = λ honest map. subst IsRefMap (ap refs (sym same)) map;
      rest = λ honest. rest_same _ _ _ same;
      unpacks = λ honest. unpacks_same _ _ _ same;
      err = λ honest. search (rules, ap refs same);
      unchanged = λ honest. search (rules, same);
    }

pub returns-in_err-loose-clause-wear : goal.returns-in_err-loose-clause-wear
returns-in_err-loose-clause-wear g c = wears_then c.in_ok-packed.ensures.wear (search rules) (search rules) (writes_told (wears_writes c.in_err-loose.ensures.wear (search rules)) (search rules) (search rules))

pub returns-then-is_none-clause-removes : goal.returns-then-is_none-clause-removes
returns-then-is_none-clause-removes g c =
    let content = g.F.Files.content in
    let old = content c.args.files.now in
    let name = c.args.name.now in
    let sames = c.in_ok-loose.ensures.same ∙ c.in_ok-packed.ensures.same in
    let read : g.F.Files.honest → packed_map old ≡ Some c.in_ok-packed.packed = c.in_ok-packed.ensures.found in
    let allowed : g.F.Files.honest → HasExpected old name c.args.expected = λ honest. rw c.in_ok-packed.ensures.same at (c.in_ok-loose.ensures.allowed honest (rw c.in_ok-packed.ensures.same (read honest))) in
    let none : is_none c.args.expected ≡ true = search rules in
    record {
      removed = λ honest. rw sames (refs-without_absent (refs old) name (absent_from_expected (refs old) name c.args.expected (allowed honest).current none));
      gone = λ honest. rw sames (good_allowed old name (allowed honest).packed (allowed honest).good);
      kept = λ honest map. subst IsRefMap (ap refs (sym sames)) map;
      rest = λ honest. rest_same _ _ _ sames;
      unpacks = λ honest. unpacks_same _ _ _ sames;
      err = search rules;
      unchanged = search rules;
    }

pub returns-in_err-unpack-clause-removes : goal.returns-in_err-unpack-clause-removes
returns-in_err-unpack-clause-removes g c =
    let content = g.F.Files.content in
    let unpack : g.F.Files.honest → content c.unpack.new.files ≡ content c.expect_value.new.files = λ honest. search (rules, c.in_err-unpack.ensures.err honest) in
    let same : g.F.Files.honest → content c.unpack.new.files ≡ content c.args.files.now = λ honest. unpack honest ∙ c.in_ok-loose.ensures.same ∙ c.in_ok-packed.ensures.same in
    record {
      removed = search rules;
      gone = search rules;
      kept = λ honest map. subst IsRefMap (ap refs (sym (same honest))) map;
      rest = λ honest. rest_same _ _ _ (same honest);
      unpacks = λ honest. unpacks_same _ _ _ (same honest);
      err = λ honest. search (rules, ap refs (same honest));
      unchanged = λ honest. search (rules, same honest);
    }

pub returns-in_err-unpack-clause-wear : goal.returns-in_err-unpack-clause-wear
returns-in_err-unpack-clause-wear g c =
    wears_then c.in_ok-packed.ensures.wear (search rules) (search rules)
    (wears_then c.in_ok-loose.ensures.wear (search rules) (search rules) (writes_told c.in_err-unpack.ensures.wear (search rules) (search rules)))

pub returns-in_err-take_away-clause-removes : goal.returns-in_err-take_away-clause-removes
returns-in_err-take_away-clause-removes g c =
    let content = g.F.Files.content in
    let old = content c.args.files.now in
    let name = c.args.name.now in
    let sames = c.in_ok-loose.ensures.same ∙ c.in_ok-packed.ensures.same in
    let between = content c.unpack.new.files in
    let read : g.F.Files.honest → packed_map old ≡ Some c.in_ok-packed.packed = c.in_ok-packed.ensures.found in
    let change : g.F.Files.honest → IsUnpacked name old between = λ honest. rw sames at (c.in_ok-unpack.ensures.unpacked honest (rw sames (read honest))) in
    let said : c.in_ok-loose.loose ≡ true = search rules in
    let told : g.F.Files.honest → c.in_ok-loose.loose ≡ is_taken old name = λ honest. rw c.in_ok-packed.ensures.same at (c.in_ok-loose.ensures.loose honest) in
    let own : g.F.Files.honest → is_taken old name ≡ true = λ honest. sym (told honest) ∙ said in
    let new = content c.take_away.new.files in
    let same : g.F.Files.honest → new ≡ between = λ honest. search (rules, c.in_err-take_away.ensures.err honest) in
    let stays : g.F.Files.honest → refs new ≡ refs old = λ honest. ap refs (same honest) ∙ kept_by_file name _ _ c.requires (change honest) (own honest) in
    record {
      removed = search rules;
      gone = search rules;
      kept = λ honest map. subst IsRefMap (sym (stays honest)) map;
      rest = λ honest. subst (λ (m : FileMap). KeepsTheRest name old m) (sym (same honest)) (rest_unpacked name _ _ c.requires (change honest));
      unpacks = λ honest. subst (λ (m : FileMap). UnpacksOnly name old m) (sym (same honest)) (unpacks_line name _ _ c.requires (change honest));
      err = λ honest. search (rules, stays honest);
      unchanged = search rules;
    }

pub returns-in_err-take_away-clause-wear : goal.returns-in_err-take_away-clause-wear
returns-in_err-take_away-clause-wear g c =
    wears_then c.in_ok-packed.ensures.wear (search rules) (search rules)
    (wears_then c.in_ok-loose.ensures.wear (search rules) (search rules)
    (writes_both c.in_ok-unpack.ensures.wear (search rules) (writes_told c.in_err-take_away.ensures.wear (search rules) (search rules))))

pub returns-then-not-loose-clause-removes : goal.returns-then-not-loose-clause-removes
returns-then-not-loose-clause-removes g c =
    let content = g.F.Files.content in
    let old = content c.args.files.now in
    let name = c.args.name.now in
    let sames = c.in_ok-loose.ensures.same ∙ c.in_ok-packed.ensures.same in
    let between = content c.unpack.new.files in
    let read : g.F.Files.honest → packed_map old ≡ Some c.in_ok-packed.packed = c.in_ok-packed.ensures.found in
    let change : g.F.Files.honest → IsUnpacked name old between = λ honest. rw sames at (c.in_ok-unpack.ensures.unpacked honest (rw sames (read honest))) in
    let said : c.in_ok-loose.loose ≡ false = search rules in
    let told : g.F.Files.honest → c.in_ok-loose.loose ≡ is_taken old name = λ honest. rw c.in_ok-packed.ensures.same at (c.in_ok-loose.ensures.loose honest) in
    let own : g.F.Files.honest → is_taken old name ≡ false = λ honest. sym (told honest) ∙ said in
    let removed : g.F.Files.honest → refs between ≡ without_ref (refs old) name = λ honest. gone_with_line name _ _ c.requires (change honest) (own honest) in
    record {
      removed = removed;
      gone = λ honest. good_unpacked name _ _ c.requires (change honest) (own honest);
      kept = λ honest map. subst IsRefMap (sym (removed honest)) (IsRefMap-without_ref (refs old) name map);
      rest = λ honest. rest_unpacked name _ _ c.requires (change honest);
      unpacks = λ honest. unpacks_line name _ _ c.requires (change honest);
      err = search rules;
      unchanged = search rules;
    }

pub returns-then-not-loose-clause-wear : goal.returns-then-not-loose-clause-wear
returns-then-not-loose-clause-wear g c =
    wears_then c.in_ok-packed.ensures.wear (search rules) (search rules)
    (wears_then c.in_ok-loose.ensures.wear (search rules) (search rules) (writes_told c.in_ok-unpack.ensures.wear (search rules) (search rules)))

pub returns-clause-removes : goal.returns-clause-removes
returns-clause-removes g c =
    let content = g.F.Files.content in
    let old = content c.args.files.now in
    let name = c.args.name.now in
    let sames = c.in_ok-loose.ensures.same ∙ c.in_ok-packed.ensures.same in
    let between = content c.unpack.new.files in
    let read : g.F.Files.honest → packed_map old ≡ Some c.in_ok-packed.packed = c.in_ok-packed.ensures.found in
    let change : g.F.Files.honest → IsUnpacked name old between = λ honest. rw sames at (c.in_ok-unpack.ensures.unpacked honest (rw sames (read honest))) in
    let said : c.in_ok-loose.loose ≡ true = search rules in
    let told : g.F.Files.honest → c.in_ok-loose.loose ≡ is_taken old name = λ honest. rw c.in_ok-packed.ensures.same at (c.in_ok-loose.ensures.loose honest) in
    let own : g.F.Files.honest → is_taken old name ≡ true = λ honest. sym (told honest) ∙ said in
    let new = content c.take_away.new.files in
    let loose = c.in_ok-take_away.ensures in
    let removed : g.F.Files.honest → refs new ≡ without_ref (refs old) name =
    λ honest. gone_with_file name old between c.requires (change honest) new (loose.removed honest) (loose.gone honest) (loose.only honest) (own honest) in
    record {
      removed = removed;
      gone = λ honest. good_gone name old between c.requires (change honest) new (loose.removed honest) (loose.gone honest) (loose.only honest);
      kept = λ honest map. subst IsRefMap (sym (removed honest)) (IsRefMap-without_ref (refs old) name map);
      rest = λ honest. rest_gone name old between c.requires (change honest) new (loose.only honest) (loose.gone honest);
      unpacks = λ honest. unpacks_gone name old between c.requires (change honest) new (loose.only honest);
      err = search rules;
      unchanged = search rules;
    }

pub returns-clause-wear : goal.returns-clause-wear
returns-clause-wear g c =
    wears_then c.in_ok-packed.ensures.wear (search rules) (search rules)
    (wears_then c.in_ok-loose.ensures.wear (search rules) (search rules)
    (writes_both c.in_ok-unpack.ensures.wear (search rules) (writes_told c.in_ok-take_away.ensures.wear (search rules) (search rules))))

pub returns-then-is_none-clause-wear : goal.returns-then-is_none-clause-wear
returns-then-is_none-clause-wear g c = wears_then c.in_ok-packed.ensures.wear (search rules) (search rules) (writes_told (wears_writes c.in_ok-loose.ensures.wear (search rules)) (search rules) (search rules))
