use Rattle.std.proofs.Common.{rules, ◌≡◌, inl, inr, Err, ◌<◌, length, map, ap, ◌∙◌, subst}
use Rattle.std.specs.FinMap.{insert}
use Rattle.std.specs.Prelude.{codes, string_bytes}
use Rattle.vc_files.specs.FileMap.{paths_under}
use Rattle.vc_files.proofs.WearLemmas.{wears_then, wears_writes, writes_both, writes_told}
use Rattle.vc_refs.specs.Packing.{HasNoLoose, IsMapOf, LosesSome}
use Rattle.vc_refs.specs.RefFault.{BlamesList, BlamesPacking, TellsDevice}
use Rattle.vc_refs.specs.Refs.{packed_path, refs, SpellsRefs}
use Rattle.vc_refs.specs.Packed.{packed_text}
use Rattle.vc_refs.specs.RefMap.{IsRefMap}
use Rattle.vc_refs.proofs.LayeredListingLemmas.{all_packed, folder_no_device, keeps_same, none_listed, packing_blames_folder, packing_blames_list, refs_kept, rest_kept, same_map_of, some_listed}
use Rattle.vc_refs.proofs.LookLemmas.{wears_both}
use Rattle.vc_refs.proofs.layered.packing.pack.Goals as goal

pub returns-in_err-paths-clause-packs : goal.returns-in_err-paths-clause-packs
returns-in_err-paths-clause-packs g c =
    let same = c.in_err-paths.ensures.same in
    record {
      packed = search rules;
      kept = λ honest. ap refs same;
      rest = λ honest. keeps_same _ _ same;
      err = λ honest. search (rules, same);
    }

pub returns-in_err-paths-clause-wear : goal.returns-in_err-paths-clause-wear
returns-in_err-paths-clause-wear g c = writes_told (wears_writes c.in_err-paths.ensures.wear (search rules)) (search rules) (search rules)

pub returns-in_err-refs-clause-refused : goal.returns-in_err-refs-clause-refused
returns-in_err-refs-clause-refused g c = λ honest.
    let content = g.F.Files.content c.args.files.now in
    let listed : map string_bytes c.deref.result.now ≡ paths_under content (codes "refs/") = ap (map string_bytes) c.deref.ensures.value ∙ c.in_ok-paths.ensures.listed honest in
    let blames : BlamesList content c.in_err-refs.field-0.0 = rw c.in_ok-paths.ensures.same at (c.in_err-refs.ensures.refused honest (rw c.in_ok-paths.ensures.same listed)) in
    let told : BlamesPacking content c.in_err-refs.field-0.0 = packing_blames_list content c.in_err-refs.field-0.0 blames in
    search (rules, told)

pub returns-in_err-refs-clause-packs : goal.returns-in_err-refs-clause-packs
returns-in_err-refs-clause-packs g c =
    let same = c.in_err-refs.ensures.same ∙ c.in_ok-paths.ensures.same in
    record {
      packed = search rules;
      kept = λ honest. ap refs same;
      rest = λ honest. keeps_same _ _ same;
      err = λ honest. search (rules, same);
    }

pub returns-in_err-refs-clause-wear : goal.returns-in_err-refs-clause-wear
returns-in_err-refs-clause-wear g c = wears_then c.in_ok-paths.ensures.wear (search rules) (search rules) (writes_told (wears_writes c.in_err-refs.ensures.wear (search rules)) (search rules) (search rules))

pub returns-in_err-refuse_folder-clause-refused : goal.returns-in_err-refuse_folder-clause-refused
returns-in_err-refuse_folder-clause-refused g c = λ honest.
    let content = g.F.Files.content c.args.files.now in
    let listed : map string_bytes c.deref.result.now ≡ paths_under content (codes "refs/") = ap (map string_bytes) c.deref.ensures.value ∙ c.in_ok-paths.ensures.listed honest in
    let good : SpellsRefs content = rw c.in_ok-paths.ensures.same at (c.in_ok-refs.ensures.good honest (rw c.in_ok-paths.ensures.same listed)) in
    let all : IsMapOf (refs content) c.in_ok-refs.refs = rw c.in_ok-paths.ensures.same at (c.in_ok-refs.ensures.found honest (rw c.in_ok-paths.ensures.same listed)) in
    let told : BlamesPacking content c.in_err-refuse_folder.field-0.0 = packing_blames_folder content c.in_ok-refs.refs good all c.in_err-refuse_folder.field-0.0 c.in_err-refuse_folder.ensures.refused in
    search (rules, told)

pub returns-in_err-refuse_folder-clause-packs : goal.returns-in_err-refuse_folder-clause-packs
returns-in_err-refuse_folder-clause-packs g c =
    let same = c.in_ok-refs.ensures.same ∙ c.in_ok-paths.ensures.same in
    record {
      packed = search rules;
      kept = λ honest. ap refs same;
      rest = λ honest. keeps_same _ _ same;
      err = λ honest. search (rules, same);
    }

pub returns-in_err-refuse_folder-clause-wear : goal.returns-in_err-refuse_folder-clause-wear
returns-in_err-refuse_folder-clause-wear g c =
    let from : TellsDevice c.from_residual-in_err-refuse_folder.result → TellsDevice {T = Unit {0}} (Err c.in_err-refuse_folder.field-0.0) = search rules in
    wears_then c.in_ok-paths.ensures.wear (search rules) (search rules)
    (writes_told (wears_writes c.in_ok-refs.ensures.wear (search rules)) (search rules) (λ told. absurd (folder_no_device _ _ c.in_err-refuse_folder.ensures.refused (from told))))

pub returns-in_err-refuse_folder-clause-looks : goal.returns-in_err-refuse_folder-clause-looks
returns-in_err-refuse_folder-clause-looks g c = λ honest.
    let from : TellsDevice c.from_residual-in_err-refuse_folder.result → TellsDevice {T = Unit {0}} (Err c.in_err-refuse_folder.field-0.0) = search rules in
    inr (wears_both c.in_ok-paths.ensures.wear c.in_ok-refs.ensures.wear (λ told. absurd (folder_no_device _ _ c.in_err-refuse_folder.ensures.refused (from told))))

pub returns-then-is_empty-clause-packs : goal.returns-then-is_empty-clause-packs
returns-then-is_empty-clause-packs g c =
    let content = g.F.Files.content c.args.files.now in
    let same = c.in_ok-refs.ensures.same ∙ c.in_ok-paths.ensures.same in
    let none : length c.in_ok-paths.paths.items ≡ 0 = search rules in
    let loose : g.F.Files.honest → HasNoLoose content = λ honest. none_listed content c.in_ok-paths.paths.items (c.in_ok-paths.ensures.listed honest) none in
    let listed : g.F.Files.honest → map string_bytes c.deref.result.now ≡ paths_under content (codes "refs/") = λ honest. ap (map string_bytes) c.deref.ensures.value ∙ c.in_ok-paths.ensures.listed honest in
    let all : g.F.Files.honest → IsMapOf (refs content) c.in_ok-refs.refs = λ honest. rw c.in_ok-paths.ensures.same at (c.in_ok-refs.ensures.found honest (rw c.in_ok-paths.ensures.same (listed honest))) in
    record {
      packed = λ honest. record { apart = subst IsRefMap (same_map_of (refs content) c.in_ok-refs.refs (all honest)) c.in_ok-refuse_folder.ensures.apart; loose = rw same (loose honest); packed = inl same };
      kept = λ honest. ap refs same;
      rest = λ honest. keeps_same _ _ same;
      err = search rules;
    }

pub returns-then-is_empty-clause-good : goal.returns-then-is_empty-clause-good
returns-then-is_empty-clause-good g c = λ honest.
    let content = g.F.Files.content c.args.files.now in
    let listed : map string_bytes c.deref.result.now ≡ paths_under content (codes "refs/") = ap (map string_bytes) c.deref.ensures.value ∙ c.in_ok-paths.ensures.listed honest in
    let good : SpellsRefs content = rw c.in_ok-paths.ensures.same at (c.in_ok-refs.ensures.good honest (rw c.in_ok-paths.ensures.same listed)) in
    good

pub returns-then-is_empty-clause-wear : goal.returns-then-is_empty-clause-wear
returns-then-is_empty-clause-wear g c = wears_then c.in_ok-paths.ensures.wear (search rules) (search rules) (writes_told (wears_writes c.in_ok-refs.ensures.wear (search rules)) (search rules) (search rules))

pub returns-in_err-write_packed-clause-packs : goal.returns-in_err-write_packed-clause-packs
returns-in_err-write_packed-clause-packs g c =
    let content = g.F.Files.content in
    let write : g.F.Files.honest → content c.write_packed.new.files ≡ content c.all_refs.new.files = λ honest. search (rules, c.in_err-write_packed.ensures.err honest) in
    let same : g.F.Files.honest → content c.write_packed.new.files ≡ content c.args.files.now = λ honest. write honest ∙ c.in_ok-refs.ensures.same ∙ c.in_ok-paths.ensures.same in
    record {
      packed = search rules;
      kept = λ honest. ap refs (same honest);
      rest = λ honest. keeps_same _ _ (same honest);
      err = λ honest. search (rules, (same honest));
    }

pub returns-in_err-write_packed-clause-wear : goal.returns-in_err-write_packed-clause-wear
returns-in_err-write_packed-clause-wear g c =
    wears_then c.in_ok-paths.ensures.wear (search rules) (search rules)
    (wears_then c.in_ok-refs.ensures.wear (search rules) (search rules) (writes_told c.in_err-write_packed.ensures.wear (search rules) (search rules)))

pub returns-in_err-write_packed-clause-looks : goal.returns-in_err-write_packed-clause-looks
returns-in_err-write_packed-clause-looks g c = λ honest.
    let some : 0 < length c.in_ok-paths.paths.items = search rules in
    inl (some_listed _ c.in_ok-paths.paths.items (c.in_ok-paths.ensures.listed honest) some)

pub returns-in_err-remove_all-clause-packs : goal.returns-in_err-remove_all-clause-packs
returns-in_err-remove_all-clause-packs g c =
    let content = g.F.Files.content in
    let old = content c.args.files.now in
    let new = content c.remove_all.new.files in
    let paths = map string_bytes c.deref-2.result.now in
    let refs_in = c.in_ok-refs.refs in
    let same = c.in_ok-paths.ensures.same in
    let listed : g.F.Files.honest → map string_bytes c.deref.result.now ≡ paths_under old (codes "refs/") = λ honest. ap (map string_bytes) c.deref.ensures.value ∙ c.in_ok-paths.ensures.listed honest in
    let again : g.F.Files.honest → paths ≡ paths_under old (codes "refs/") = λ honest. ap (map string_bytes) c.deref-2.ensures.value ∙ c.in_ok-paths.ensures.listed honest in
    let all : g.F.Files.honest → IsMapOf (refs old) refs_in = λ honest. rw same at (c.in_ok-refs.ensures.found honest (rw same (listed honest))) in
    let written : g.F.Files.honest → content c.write_packed.new.files ≡ insert old packed_path (packed_text refs_in) = λ honest. rw (c.in_ok-refs.ensures.same ∙ same) at (c.in_ok-write_packed.ensures.written honest) in
    let lost : g.F.Files.honest → LosesSome paths (insert old packed_path (packed_text refs_in)) new = λ honest. rw (written honest) at (c.in_err-remove_all.ensures.lost honest) in
    let read = c.in_ok-write_packed.ensures.read c.in_ok-refuse_folder.ensures.apart in
    record {
      packed = search rules;
      kept = λ honest. refs_kept old refs_in paths new (all honest) read (again honest) (lost honest);
      rest = λ honest. rest_kept old refs_in paths new (all honest) read (again honest) (lost honest);
      err = search rules;
    }

pub returns-in_err-remove_all-clause-wear : goal.returns-in_err-remove_all-clause-wear
returns-in_err-remove_all-clause-wear g c =
    wears_then c.in_ok-paths.ensures.wear (search rules) (search rules)
    (wears_then c.in_ok-refs.ensures.wear (search rules) (search rules)
    (writes_both c.in_ok-write_packed.ensures.wear (search rules) (writes_told c.in_err-remove_all.ensures.wear (search rules) (search rules))))

pub returns-in_err-remove_all-clause-looks : goal.returns-in_err-remove_all-clause-looks
returns-in_err-remove_all-clause-looks g c = λ honest.
    let some : 0 < length c.in_ok-paths.paths.items = search rules in
    inl (some_listed _ c.in_ok-paths.paths.items (c.in_ok-paths.ensures.listed honest) some)

pub returns-clause-packs : goal.returns-clause-packs
returns-clause-packs g c =
    let content = g.F.Files.content in
    let old = content c.args.files.now in
    let new = content c.remove_all.new.files in
    let paths = map string_bytes c.deref-2.result.now in
    let refs_in = c.in_ok-refs.refs in
    let same = c.in_ok-paths.ensures.same in
    let listed : g.F.Files.honest → map string_bytes c.deref.result.now ≡ paths_under old (codes "refs/") = λ honest. ap (map string_bytes) c.deref.ensures.value ∙ c.in_ok-paths.ensures.listed honest in
    let again : g.F.Files.honest → paths ≡ paths_under old (codes "refs/") = λ honest. ap (map string_bytes) c.deref-2.ensures.value ∙ c.in_ok-paths.ensures.listed honest in
    let all : g.F.Files.honest → IsMapOf (refs old) refs_in = λ honest. rw same at (c.in_ok-refs.ensures.found honest (rw same (listed honest))) in
    let written : g.F.Files.honest → content c.write_packed.new.files ≡ insert old packed_path (packed_text refs_in) = λ honest. rw (c.in_ok-refs.ensures.same ∙ same) at (c.in_ok-write_packed.ensures.written honest) in
    let lost : g.F.Files.honest → LosesSome paths (insert old packed_path (packed_text refs_in)) new = λ honest. rw (written honest) at (c.in_ok-remove_all.ensures.lost honest) in
    let read = c.in_ok-write_packed.ensures.read c.in_ok-refuse_folder.ensures.apart in
    record {
      packed = λ honest. all_packed old refs_in paths new (all honest) read (again honest) (lost honest) c.in_ok-refuse_folder.ensures.apart (c.in_ok-remove_all.ensures.gone honest);
      kept = λ honest. refs_kept old refs_in paths new (all honest) read (again honest) (lost honest);
      rest = λ honest. rest_kept old refs_in paths new (all honest) read (again honest) (lost honest);
      err = search rules;
    }

pub returns-clause-good : goal.returns-clause-good
returns-clause-good g c = λ honest.
    let content = g.F.Files.content c.args.files.now in
    let listed : map string_bytes c.deref.result.now ≡ paths_under content (codes "refs/") = ap (map string_bytes) c.deref.ensures.value ∙ c.in_ok-paths.ensures.listed honest in
    let good : SpellsRefs content = rw c.in_ok-paths.ensures.same at (c.in_ok-refs.ensures.good honest (rw c.in_ok-paths.ensures.same listed)) in
    good

pub returns-clause-wear : goal.returns-clause-wear
returns-clause-wear g c =
    wears_then c.in_ok-paths.ensures.wear (search rules) (search rules)
    (wears_then c.in_ok-refs.ensures.wear (search rules) (search rules)
    (writes_both c.in_ok-write_packed.ensures.wear (search rules) (writes_told c.in_ok-remove_all.ensures.wear (search rules) (search rules))))

pub returns-clause-looks : goal.returns-clause-looks
returns-clause-looks g c = λ honest.
    let some : 0 < length c.in_ok-paths.paths.items = search rules in
    inl (some_listed _ c.in_ok-paths.paths.items (c.in_ok-paths.ensures.listed honest) some)
