use Rattle.std.proofs.Common.{rules, ◌≡◌, Some, ap, sym, ◌∙◌, subst}
use Rattle.vc_files.proofs.WearLemmas.{wears_writes, wears_then, writes_told}
use Rattle.vc_refs.specs.RefFault.{BlamesRemove, BlamesSet, BlamesObstacle, HasExpected}
use Rattle.vc_refs.specs.Refs.{loose_refs, packed_map, refs, ChangesOnly}
use Rattle.vc_refs.specs.Obstacle.{IsFree}
use Rattle.vc_refs.specs.RefMap.{IsRefMap, with_ref}
use Rattle.vc_refs.proofs.LayeredChangeLemmas.{only_same, refs-set, refs_free, rest_same, rest_set, set_blames_value, set_blames_way}
use Rattle.vc_refs.proofs.RefsLemmas.{IsRefMap-with_ref}
use Rattle.vc_refs.proofs.ObstacleLemmas.{no_own_folder}
use Rattle.vc_refs.proofs.layered.setting.set_over.Goals as goal

pub returns-in_err-refuse_beside-clause-refused : goal.returns-in_err-refuse_beside-clause-refused
returns-in_err-refuse_beside-clause-refused g c = λ honest.
    let content = g.F.Files.content c.args.files.now in
    let read : packed_map content ≡ Some c.args.packed.now = c.requires.read honest in
    let blames : BlamesObstacle content c.args.name.now c.in_err-refuse_beside.field-0.0 = c.in_err-refuse_beside.ensures.refused honest read in
    let told : BlamesSet content c.args.name.now c.args.expected c.in_err-refuse_beside.field-0.0 = set_blames_way content c.args.name.now c.args.expected c.in_err-refuse_beside.field-0.0 blames in
    search (rules, told)

pub returns-in_err-refuse_beside-clause-sets : goal.returns-in_err-refuse_beside-clause-sets
returns-in_err-refuse_beside-clause-sets g c =
    let same = c.in_err-refuse_beside.ensures.same in
    record {
      set = search rules;
      kept = λ honest map. subst IsRefMap (ap refs (sym same)) map;
      rest = λ honest. rest_same _ _ _ same;
      only = λ honest. only_same _ _ _ same;
      err = λ honest. search (rules, same);
    }

pub returns-in_err-refuse_beside-clause-wear : goal.returns-in_err-refuse_beside-clause-wear
returns-in_err-refuse_beside-clause-wear g c =
    writes_told (wears_writes c.in_err-refuse_beside.ensures.wear (search rules)) (search rules) (search rules)

pub returns-in_err-expect_value-clause-refused : goal.returns-in_err-expect_value-clause-refused
returns-in_err-expect_value-clause-refused g c = λ honest.
    let content = g.F.Files.content c.args.files.now in
    let read : packed_map content ≡ Some c.args.packed.now = c.requires.read honest in
    let free : IsFree content c.args.name.now = c.in_ok-refuse_beside.ensures.free honest read in
    let blames : BlamesRemove content c.args.name.now c.args.expected c.in_err-expect_value.field-0.0 =
    rw c.in_ok-refuse_beside.ensures.same at (c.in_err-expect_value.ensures.refused honest (rw c.in_ok-refuse_beside.ensures.same read)) in
    let told : BlamesSet content c.args.name.now c.args.expected c.in_err-expect_value.field-0.0 = set_blames_value content c.args.name.now c.args.expected free c.in_err-expect_value.field-0.0 blames in
    search (rules, told)

pub returns-in_err-expect_value-clause-sets : goal.returns-in_err-expect_value-clause-sets
returns-in_err-expect_value-clause-sets g c =
    let same = c.in_err-expect_value.ensures.same ∙ c.in_ok-refuse_beside.ensures.same in
    record {
      set = search rules;
      kept = λ honest map. subst IsRefMap (ap refs (sym same)) map;
      rest = λ honest. rest_same _ _ _ same;
      only = λ honest. only_same _ _ _ same;
      err = λ honest. search (rules, same);
    }

pub returns-in_err-expect_value-clause-wear : goal.returns-in_err-expect_value-clause-wear
returns-in_err-expect_value-clause-wear g c =
    wears_then c.in_ok-refuse_beside.ensures.wear (search rules) (search rules) (writes_told (wears_writes c.in_err-expect_value.ensures.wear (search rules)) (search rules) (search rules))

pub returns-in_err-put-clause-sets : goal.returns-in_err-put-clause-sets
returns-in_err-put-clause-sets g c =
    let content = g.F.Files.content in
    let put : g.F.Files.honest → content c.put.new.files ≡ content c.expect_value.new.files = λ honest. search (rules, c.in_err-put.ensures.err honest) in
    let same : g.F.Files.honest → content c.put.new.files ≡ content c.args.files.now =
    λ honest. put honest ∙ c.in_ok-expect_value.ensures.same ∙ c.in_ok-refuse_beside.ensures.same in
    record {
      set = search rules;
      kept = λ honest map. subst IsRefMap (ap refs (sym (same honest))) map;
      rest = λ honest. rest_same _ _ _ (same honest);
      only = λ honest. only_same _ _ _ (same honest);
      err = λ honest. search (rules, same honest);
    }

pub returns-in_err-put-clause-wear : goal.returns-in_err-put-clause-wear
returns-in_err-put-clause-wear g c =
    wears_then c.in_ok-refuse_beside.ensures.wear (search rules) (search rules)
    (wears_then c.in_ok-expect_value.ensures.wear (search rules) (search rules) (writes_told c.in_err-put.ensures.wear (search rules) (search rules)))

pub returns-clause-sets : goal.returns-clause-sets
returns-clause-sets g c =
    let content = g.F.Files.content in
    let old = content c.args.files.now in
    let new = content c.put.new.files in
    let name = c.args.name.now in
    let sames = c.in_ok-expect_value.ensures.same ∙ c.in_ok-refuse_beside.ensures.same in
    let own : g.F.Files.honest → loose_refs new ≡ with_ref (loose_refs old) name c.args.new = λ honest. rw sames at (c.in_ok-put.ensures.set honest) in
    let only : g.F.Files.honest → ChangesOnly name old new = λ honest. rw sames at (c.in_ok-put.ensures.only honest) in
    let set : g.F.Files.honest → refs new ≡ with_ref (refs old) name c.args.new = λ honest. refs-set name c.args.new old new c.requires.inside (own honest) (only honest) in
    record {
      set = set;
      kept = λ honest map.
          let read : packed_map old ≡ Some c.args.packed.now = c.requires.read honest in
          let free : IsFree old name = c.in_ok-refuse_beside.ensures.free honest read in
          rw (set honest) (IsRefMap-with_ref (refs old) name c.args.new c.in_ok-put.ensures.legal (refs_free old name free) (no_own_folder name) map);
      rest = λ honest. rest_set name c.args.new old new c.requires.inside (own honest) (only honest);
      only = only;
      err = search rules;
    }

pub returns-clause-allowed : goal.returns-clause-allowed
returns-clause-allowed g c = λ honest.
    let content = g.F.Files.content c.args.files.now in
    let read : packed_map content ≡ Some c.args.packed.now = c.requires.read honest in
    let free : IsFree content c.args.name.now = c.in_ok-refuse_beside.ensures.free honest read in
    let value : HasExpected content c.args.name.now c.args.expected =
    rw c.in_ok-refuse_beside.ensures.same at (c.in_ok-expect_value.ensures.allowed honest (rw c.in_ok-refuse_beside.ensures.same read)) in
    record { free = free; value = value }

pub returns-clause-wear : goal.returns-clause-wear
returns-clause-wear g c =
    wears_then c.in_ok-refuse_beside.ensures.wear (search rules) (search rules)
    (wears_then c.in_ok-expect_value.ensures.wear (search rules) (search rules) (writes_told c.put.ensures.wear (search rules) (search rules)))
