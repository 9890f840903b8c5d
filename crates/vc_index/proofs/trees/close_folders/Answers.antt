use Rattle.std.proofs.Common.{rules, ◌≡◌, ◌-◌, List, ◌++◌, Some, length, refl, sym, ap, ◌∙◌, nat_eq, true, false}
use Rattle.std.specs.Prelude.{slice_get}
use Rattle.std.specs.List.{starts_with}
use Rattle.vc_files.proofs.WearLemmas.{writes_both, writes_told}
use Rattle.vc_files.proofs.FileMapLemmas.{outside_then, outside_same}
use Rattle.vc_object.specs.declared.id.ObjectId.{ObjectId}
use Rattle.vc_object_map.specs.Store.{objects, IsDamaged}
use Rattle.vc_index.specs.FolderTrees.{Fits}
use Rattle.vc_index.specs.WrittenTrees.{IsOfWrite}
use Rattle.vc_index.specs.declared.trees.Part.{Part}
use Rattle.vc_index.proofs.ClosingLemmas.{closes_none, closes_then, inside_last, left_of, handed_on}
use Rattle.vc_index.proofs.StandingLemmas.{closes_stands, stands_then}
use Rattle.vc_index.proofs.DamageLemmas.{damage_same, damage_then}
use Rattle.vc_index.proofs.trees.close_folders.Goals as goal
use Rattle.vc_lemmas.proofs.Lists.{all_append}

pub returns-then-starts_with-clause-inside : goal.returns-then-starts_with-clause-inside
returns-then-starts_with-clause-inside g c =
    let at : slice_get c.loop-last.parts.items (length c.loop-last.parts.items - 1) ≡ Some c.in-Some.last.now = ap (λ (ps : List Part). slice_get ps (length ps - 1)) (sym c.deref.ensures.value) ∙ sym c.in-Some.ensures.value in
    let begun : starts_with nat_eq c.args.next.now c.in-Some.last.now.folder.now ≡ true = sym c.starts_with.ensures.value ∙ c.if-starts_with.true in
    inside_last c.loop-last.parts.items c.in-Some.last.now c.args.next.now at begun

pub returns-then-starts_with-clause-stands : goal.returns-then-starts_with-clause-stands
returns-then-starts_with-clause-stands g c = λ m trees rest n b. closes_stands g.F.Files.honest m rest trees c.loop-last.parts.items (objects (g.F.Files.content c.args.files.now)) (objects (g.F.Files.content c.loop-last.files)) (c.loop-last.invariant.closes m trees rest n b)

pub loop-last-init : goal.loop-last-init
loop-last-init g c = record {
  closes = λ m trees rest n b. closes_none g.F.Files.honest m trees rest c.args.parts.now.items (objects (g.F.Files.content c.args.files.now)) (objects (g.F.Files.content c.args.files.now)) b (λ _. refl);
  outside = λ honest. outside_same _ _;
  undamaged = λ honest. damage_same _ _ refl;
  wear = search rules;
}

pub loop-last-preserved : goal.loop-last-preserved
loop-last-preserved g c =
    let not_in : starts_with nat_eq c.args.next.now c.in-Some.last.now.folder.now ≡ false = sym c.starts_with.ensures.value ∙ c.if-starts_with.false in
    record {
      closes = λ m trees rest n b.
          let first = c.loop-last.invariant.closes m trees rest n b in
          closes_then g.F.Files.honest m trees rest c.loop-last.parts.items c.close_folder.new.parts.items (objects (g.F.Files.content c.args.files.now)) (objects (g.F.Files.content c.loop-last.files)) (objects (g.F.Files.content c.close_folder.new.files)) first
          (c.in_ok-close_folder.ensures.closes m (trees ++ first.more) rest (left_of c.args.next.now c.in-Some.last.now.folder.now rest n not_in) first.building);
      outside = λ honest. outside_then (c.loop-last.invariant.outside honest) (c.in_ok-close_folder.ensures.outside honest);
      undamaged = λ honest. damage_then (c.loop-last.invariant.undamaged honest) (c.in_ok-close_folder.ensures.undamaged honest);
      wear = writes_both c.loop-last.invariant.wear (λ never. never) (writes_told c.in_ok-close_folder.ensures.wear (search rules) (λ never. absurd never));
    }

pub returns-in_err-close_folder-clause-stands : goal.returns-in_err-close_folder-clause-stands
returns-in_err-close_folder-clause-stands g c = λ m trees rest n b.
    let first = c.loop-last.invariant.closes m trees rest n b in
    stands_then g.F.Files.honest m rest trees c.loop-last.parts.items (objects (g.F.Files.content c.args.files.now)) (objects (g.F.Files.content c.loop-last.files)) (objects (g.F.Files.content c.close_folder.new.files)) first
    (c.in_err-close_folder.ensures.stands m (trees ++ first.more) rest (left_of c.args.next.now c.in-Some.last.now.folder.now rest n (sym c.starts_with.ensures.value ∙ c.if-starts_with.false)) first.building)

pub returns-in_err-close_folder-clause-refused : goal.returns-in_err-close_folder-clause-refused
returns-in_err-close_folder-clause-refused g c = λ m trees rest n fits b.
    let first = c.loop-last.invariant.closes m trees rest n b in
    handed_on (IsOfWrite m (λ (id : ObjectId). g.F.Files.honest → IsDamaged (g.F.Files.content c.close_folder.new.files) id)) c.in_err-close_folder.field-0.0 c.from_residual.result c.from_residual.ensures.1
    (c.in_err-close_folder.ensures.refused m (trees ++ first.more) rest (left_of c.args.next.now c.in-Some.last.now.folder.now rest n (sym c.starts_with.ensures.value ∙ c.if-starts_with.false)) (all_append Fits trees first.more fits first.fits) first.building)

pub returns-clause-stands : goal.returns-clause-stands
returns-clause-stands g c = λ m trees rest n b. closes_stands g.F.Files.honest m rest trees c.loop-last.parts.items (objects (g.F.Files.content c.args.files.now)) (objects (g.F.Files.content c.loop-last.files)) (c.loop-last.invariant.closes m trees rest n b)

pub returns-in_err-close_folder-clause-undamaged : goal.returns-in_err-close_folder-clause-undamaged
returns-in_err-close_folder-clause-undamaged g c = λ honest. damage_then (c.loop-last.invariant.undamaged honest) (c.in_err-close_folder.ensures.undamaged honest)

pub returns-in_err-close_folder-clause-wear : goal.returns-in_err-close_folder-clause-wear
returns-in_err-close_folder-clause-wear g c = writes_both c.loop-last.invariant.wear (λ never. never) (writes_told c.in_err-close_folder.ensures.wear (search rules) (search rules))
