use Rattle.std.proofs.Common.{rules, ◌≡◌, List, [], ◌∷◌, ◌++◌, map, ℕ, sym, ap, ◌∙◌, subst, refl, append_assoc}
use Rattle.std.specs.Prelude.{Vec}
use Rattle.std.specs.Global.{Global}
use Rattle.std.specs.FinMap.{entries}
use Rattle.vc_files.proofs.WearLemmas.{writes_both, writes_told}
use Rattle.vc_files.proofs.FileMapLemmas.{outside_then, outside_same}
use Rattle.vc_object.specs.declared.id.ObjectId.{ObjectId}
use Rattle.vc_object_map.specs.Store.{objects, IsDamaged}
use Rattle.vc_index.specs.WrittenTrees.{IsOfWrite}
use Rattle.vc_index.specs.Building.{Building, Closes, IsInside}
use Rattle.vc_index.specs.HeldFiles.{Pair}
use Rattle.vc_index.specs.IndexMap.{index_of}
use Rattle.vc_index.specs.declared.entry.IndexEntry.{IndexEntry}
use Rattle.vc_index.specs.declared.trees.Part.{Part}
use Rattle.vc_index.proofs.MapLemmas.{entries-index_of}
use Rattle.vc_index.proofs.ClosingLemmas.{building_starts, closes_none, closes_then, push_step, next_is, handed_on}
use Rattle.vc_index.proofs.StandingLemmas.{stands_then}
use Rattle.vc_index.proofs.DamageLemmas.{damage_same, damage_then}
use Rattle.vc_index.proofs.trees.root_parts.Goals as goal

abbrev view : Vec ℕ Global × IndexEntry → Pair
view e = (e.0.items, e.1)

pub loop-path-init : goal.loop-path-init
loop-path-init g c =
    let m = index_of c.args.map.now in
    let all : entries m ≡ map view c.into_iter-path-iterator.result = entries-index_of c.args.map.now c.into_iter-path-iterator.ensures.into_iter_gives.5 ∙ ap (map view) (sym c.into_iter-path-iterator.ensures.into_iter_gives.0) in
    let b = subst (λ (ps : List Part). Building m [] ps (map view c.into_iter-path-iterator.result)) (sym c.new-parts.ensures.items) (subst (λ (r : List Pair). Building m [] [] r) all (building_starts m c.requires)) in
    record {
      can = tt;
      finite = tt;
      walked = ([], all);
      closes = closes_none g.F.Files.honest m [] (map view c.into_iter-path-iterator.result) c.new-parts.result.items (objects (g.F.Files.content c.args.files.now)) (objects (g.F.Files.content c.args.files.now)) b (λ _. refl);
      outside = λ honest. outside_same _ _;
      undamaged = λ honest. damage_same _ _ refl;
      wear = search rules;
    }

pub returns-in_err-close_folders-clause-stands : goal.returns-in_err-close_folders-clause-stands
returns-in_err-close_folders-clause-stands g c =
    let m = index_of c.args.map.now in
    let path = c.in-Some.path.now.items in
    let entry = c.in-Some.entry.now in
    let more = map view c.next.new.self in
    let front = c.loop-path.invariant.walked.0 in
    let rest_is : map view c.loop-path.path-iterator ≡ (path, entry) ∷ more = ap (map view) c.in-Some.ensures.steps in
    let at : entries m ≡ front ++ (path, entry) ∷ more = c.loop-path.invariant.walked.1 ∙ ap (λ (r : List Pair). front ++ r) rest_is in
    let next = next_is m front more path entry c.deref.result.now c.requires at c.deref.ensures.value in
    let first = subst (λ (r : List Pair). Closes g.F.Files.honest m r [] c.loop-path.parts.items (objects (g.F.Files.content c.args.files.now)) (objects (g.F.Files.content c.loop-path.files))) rest_is c.loop-path.invariant.closes in
    stands_then g.F.Files.honest m ((path, entry) ∷ more) [] c.loop-path.parts.items (objects (g.F.Files.content c.args.files.now)) (objects (g.F.Files.content c.loop-path.files)) (objects (g.F.Files.content c.close_folders.new.files)) first
    (c.in_err-close_folders.ensures.stands m first.more ((path, entry) ∷ more) next first.building)

pub loop-path-preserved : goal.loop-path-preserved
loop-path-preserved g c =
    let m = index_of c.args.map.now in
    let path = c.in-Some.path.now.items in
    let entry = c.in-Some.entry.now in
    let more = map view c.next.new.self in
    let front = c.loop-path.invariant.walked.0 in
    let rest_is : map view c.loop-path.path-iterator ≡ (path, entry) ∷ more = ap (map view) c.in-Some.ensures.steps in
    let at : entries m ≡ front ++ (path, entry) ∷ more = c.loop-path.invariant.walked.1 ∙ ap (λ (r : List Pair). front ++ r) rest_is in
    let next = next_is m front more path entry c.deref.result.now c.requires at c.deref.ensures.value in
    let first = subst (λ (r : List Pair). Closes g.F.Files.honest m r [] c.loop-path.parts.items (objects (g.F.Files.content c.args.files.now)) (objects (g.F.Files.content c.loop-path.files))) rest_is c.loop-path.invariant.closes in
    let part : Part = record { folder = c.split_path.result.0; name = c.split_path.result.1; entry = entry } in
    record {
      can = tt;
      finite = tt;
      walked = (front ++ (path, entry) ∷ [], at ∙ sym (append_assoc front ((path, entry) ∷ []) more));
      closes = push_step g.F.Files.honest m front more path entry c.loop-path.parts.items c.close_folders.new.parts.items c.push.new.self.items part
          (objects (g.F.Files.content c.args.files.now)) (objects (g.F.Files.content c.loop-path.files)) (objects (g.F.Files.content c.close_folders.new.files)) c.requires at first
          (c.in_ok-close_folders.ensures.closes m first.more ((path, entry) ∷ more) next first.building)
          (subst (λ (q : List ℕ). IsInside q c.close_folders.new.parts.items) c.deref.ensures.value c.in_ok-close_folders.ensures.inside)
          (sym c.deref-in-loop-path.ensures.value ∙ c.split_path.ensures.is) c.split_path.ensures.name c.split_path.ensures.folder refl c.in_ok-push.ensures.items;
      outside = λ honest. outside_then (c.loop-path.invariant.outside honest) (c.in_ok-close_folders.ensures.outside honest);
      undamaged = λ honest. damage_then (c.loop-path.invariant.undamaged honest) (c.in_ok-close_folders.ensures.undamaged honest);
      wear = writes_both c.loop-path.invariant.wear (λ never. never) (writes_told c.in_ok-close_folders.ensures.wear (search rules) (λ never. absurd never));
    }

pub returns-in_err-push-clause-stands : goal.returns-in_err-push-clause-stands
returns-in_err-push-clause-stands g c =
    let m = index_of c.args.map.now in
    let path = c.in-Some.path.now.items in
    let entry = c.in-Some.entry.now in
    let more = map view c.next.new.self in
    let front = c.loop-path.invariant.walked.0 in
    let rest_is : map view c.loop-path.path-iterator ≡ (path, entry) ∷ more = ap (map view) c.in-Some.ensures.steps in
    let at : entries m ≡ front ++ (path, entry) ∷ more = c.loop-path.invariant.walked.1 ∙ ap (λ (r : List Pair). front ++ r) rest_is in
    let next = next_is m front more path entry c.deref.result.now c.requires at c.deref.ensures.value in
    let first = subst (λ (r : List Pair). Closes g.F.Files.honest m r [] c.loop-path.parts.items (objects (g.F.Files.content c.args.files.now)) (objects (g.F.Files.content c.loop-path.files))) rest_is c.loop-path.invariant.closes in
    stands_then g.F.Files.honest m ((path, entry) ∷ more) [] c.loop-path.parts.items (objects (g.F.Files.content c.args.files.now)) (objects (g.F.Files.content c.loop-path.files)) (objects (g.F.Files.content c.close_folders.new.files)) first
    (c.in_ok-close_folders.ensures.stands m first.more ((path, entry) ∷ more) next first.building)

pub returns-in_err-close_folders-2-clause-stands : goal.returns-in_err-close_folders-2-clause-stands
returns-in_err-close_folders-2-clause-stands g c =
    let m = index_of c.args.map.now in
    let none : map view c.loop-path.path-iterator ≡ [] = ap (map view) c.in-None.ensures.steps.0 in
    let first = subst (λ (r : List Pair). Closes g.F.Files.honest m r [] c.loop-path.parts.items (objects (g.F.Files.content c.args.files.now)) (objects (g.F.Files.content c.loop-path.files))) none c.loop-path.invariant.closes in
    stands_then g.F.Files.honest m [] [] c.loop-path.parts.items (objects (g.F.Files.content c.args.files.now)) (objects (g.F.Files.content c.loop-path.files)) (objects (g.F.Files.content c.close_folders-2.new.files)) first
    (c.in_err-close_folders-2.ensures.stands m first.more [] tt first.building)

pub returns-clause-closed : goal.returns-clause-closed
returns-clause-closed g c =
    let m = index_of c.args.map.now in
    let none : map view c.loop-path.path-iterator ≡ [] = ap (map view) c.in-None.ensures.steps.0 in
    let first = subst (λ (r : List Pair). Closes g.F.Files.honest m r [] c.loop-path.parts.items (objects (g.F.Files.content c.args.files.now)) (objects (g.F.Files.content c.loop-path.files))) none c.loop-path.invariant.closes in
    closes_then g.F.Files.honest m [] [] c.loop-path.parts.items c.close_folders-2.new.parts.items (objects (g.F.Files.content c.args.files.now)) (objects (g.F.Files.content c.loop-path.files)) (objects (g.F.Files.content c.close_folders-2.new.files)) first
    (c.in_ok-close_folders-2.ensures.closes m first.more [] tt first.building)

pub returns-clause-stands : goal.returns-clause-stands
returns-clause-stands g c =
    let m = index_of c.args.map.now in
    let none : map view c.loop-path.path-iterator ≡ [] = ap (map view) c.in-None.ensures.steps.0 in
    let first = subst (λ (r : List Pair). Closes g.F.Files.honest m r [] c.loop-path.parts.items (objects (g.F.Files.content c.args.files.now)) (objects (g.F.Files.content c.loop-path.files))) none c.loop-path.invariant.closes in
    stands_then g.F.Files.honest m [] [] c.loop-path.parts.items (objects (g.F.Files.content c.args.files.now)) (objects (g.F.Files.content c.loop-path.files)) (objects (g.F.Files.content c.close_folders-2.new.files)) first
    (c.in_ok-close_folders-2.ensures.stands m first.more [] tt first.building)

pub returns-in_err-close_folders-clause-refused : goal.returns-in_err-close_folders-clause-refused
returns-in_err-close_folders-clause-refused g c =
    let m = index_of c.args.map.now in
    let path = c.in-Some.path.now.items in
    let entry = c.in-Some.entry.now in
    let more = map view c.next.new.self in
    let front = c.loop-path.invariant.walked.0 in
    let rest_is : map view c.loop-path.path-iterator ≡ (path, entry) ∷ more = ap (map view) c.in-Some.ensures.steps in
    let at : entries m ≡ front ++ (path, entry) ∷ more = c.loop-path.invariant.walked.1 ∙ ap (λ (r : List Pair). front ++ r) rest_is in
    let next = next_is m front more path entry c.deref.result.now c.requires at c.deref.ensures.value in
    let first = subst (λ (r : List Pair). Closes g.F.Files.honest m r [] c.loop-path.parts.items (objects (g.F.Files.content c.args.files.now)) (objects (g.F.Files.content c.loop-path.files))) rest_is c.loop-path.invariant.closes in
    handed_on (IsOfWrite m (λ (id : ObjectId). g.F.Files.honest → IsDamaged (g.F.Files.content c.close_folders.new.files) id)) c.in_err-close_folders.field-0.0 c.from_residual.result c.from_residual.ensures.1
    (c.in_err-close_folders.ensures.refused m first.more ((path, entry) ∷ more) next first.fits first.building)

pub returns-in_err-close_folders-2-clause-refused : goal.returns-in_err-close_folders-2-clause-refused
returns-in_err-close_folders-2-clause-refused g c =
    let m = index_of c.args.map.now in
    let none : map view c.loop-path.path-iterator ≡ [] = ap (map view) c.in-None.ensures.steps.0 in
    let first = subst (λ (r : List Pair). Closes g.F.Files.honest m r [] c.loop-path.parts.items (objects (g.F.Files.content c.args.files.now)) (objects (g.F.Files.content c.loop-path.files))) none c.loop-path.invariant.closes in
    handed_on (IsOfWrite m (λ (id : ObjectId). g.F.Files.honest → IsDamaged (g.F.Files.content c.close_folders-2.new.files) id)) c.in_err-close_folders-2.field-0.0 c.from_residual-in_err-close_folders-2.result c.from_residual-in_err-close_folders-2.ensures.1
    (c.in_err-close_folders-2.ensures.refused m first.more [] tt first.fits first.building)

pub returns-in_err-close_folders-clause-undamaged : goal.returns-in_err-close_folders-clause-undamaged
returns-in_err-close_folders-clause-undamaged g c = λ honest. damage_then (c.loop-path.invariant.undamaged honest) (c.in_err-close_folders.ensures.undamaged honest)

pub returns-in_err-push-clause-undamaged : goal.returns-in_err-push-clause-undamaged
returns-in_err-push-clause-undamaged g c = λ honest. damage_then (c.loop-path.invariant.undamaged honest) (c.in_ok-close_folders.ensures.undamaged honest)

pub returns-in_err-close_folders-2-clause-undamaged : goal.returns-in_err-close_folders-2-clause-undamaged
returns-in_err-close_folders-2-clause-undamaged g c = λ honest. damage_then (c.loop-path.invariant.undamaged honest) (c.in_err-close_folders-2.ensures.undamaged honest)

pub returns-clause-undamaged : goal.returns-clause-undamaged
returns-clause-undamaged g c = λ honest. damage_then (c.loop-path.invariant.undamaged honest) (c.in_ok-close_folders-2.ensures.undamaged honest)

pub returns-in_err-close_folders-clause-wear : goal.returns-in_err-close_folders-clause-wear
returns-in_err-close_folders-clause-wear g c = writes_both c.loop-path.invariant.wear (λ never. never) (writes_told c.in_err-close_folders.ensures.wear (search rules) (search rules))

pub returns-in_err-push-clause-wear : goal.returns-in_err-push-clause-wear
returns-in_err-push-clause-wear g c = writes_both c.loop-path.invariant.wear (λ never. never) (writes_told c.in_ok-close_folders.ensures.wear (search rules) (search rules))

pub returns-in_err-close_folders-2-clause-wear : goal.returns-in_err-close_folders-2-clause-wear
returns-in_err-close_folders-2-clause-wear g c = writes_both c.loop-path.invariant.wear (λ never. never) (writes_told c.in_err-close_folders-2.ensures.wear (search rules) (search rules))

pub returns-clause-wear : goal.returns-clause-wear
returns-clause-wear g c = writes_both c.loop-path.invariant.wear (λ never. never) (writes_told c.in_ok-close_folders-2.ensures.wear (search rules) (search rules))
