use Rattle.std.proofs.Common.{◌≡◌, ◌≤◌, inr, List, [], ◌∷◌, ◌++◌, map, ℕ, refl, sym, ap, ◌∙◌, subst, append_assoc}
use Rattle.std.specs.Prelude.{Vec}
use Rattle.std.specs.Global.{Global}
use Rattle.std.specs.FinMap.{entries}
use Rattle.vc_index.specs.WrittenTrees.{IsOfJoining, IsOfWrite, IsTooLong}
use Rattle.vc_index.specs.Building.{IsInside, Joins}
use Rattle.vc_index.specs.HeldFiles.{Pair}
use Rattle.vc_index.specs.IndexMap.{index_of}
use Rattle.vc_index.specs.Part.{parts_size}
use Rattle.vc_index.specs.declared.entry.IndexEntry.{IndexEntry}
use Rattle.vc_index.specs.declared.trees.Part.{Part}
use Rattle.vc_index.proofs.MapLemmas.{entries-index_of}
use Rattle.vc_index.proofs.ClosingLemmas.{building_starts, next_is, handed_on}
use Rattle.vc_index.proofs.FittingLemmas.{all_fitting, joins_none, joins_push, joins_then, root_unfit}
use Rattle.vc_index.proofs.trees.check_sizes.Goals as goal

abbrev view : Vec ℕ Global × IndexEntry → Pair
view e = (e.0.items, e.1)

pub loop-path-init : goal.loop-path-init
loop-path-init c =
    let m = index_of c.args.map.now in
    let all : entries m ≡ map view c.into_iter-path-iterator.result = entries-index_of c.args.map.now c.into_iter-path-iterator.ensures.into_iter_gives.5 ∙ ap (map view) (sym c.into_iter-path-iterator.ensures.into_iter_gives.0) in
    record {
      can = tt;
      finite = tt;
      walked = ([], all);
      joins = subst (λ (r : List Pair). Joins m r [] c.new-parts.result.items) all (joins_none m (entries m) [] c.new-parts.result.items [] c.new-parts.ensures.items (building_starts m c.requires));
    }

pub loop-path-preserved : goal.loop-path-preserved
loop-path-preserved c =
    let m = index_of c.args.map.now in
    let path = c.in-Some.path.now.items in
    let entry = c.in-Some.entry.now in
    let more = map view c.next.new.self in
    let front = c.loop-path.invariant.walked.0 in
    let rest_is : map view c.loop-path.path-iterator ≡ (path, entry) ∷ more = ap (map view) c.in-Some.ensures.steps in
    let at : entries m ≡ front ++ (path, entry) ∷ more = c.loop-path.invariant.walked.1 ∙ ap (λ (r : List Pair). front ++ r) rest_is in
    let next = next_is m front more path entry c.deref.result.now c.requires at c.deref.ensures.value in
    let first = subst (λ (r : List Pair). Joins m r [] c.loop-path.parts.items) rest_is c.loop-path.invariant.joins in
    let part : Part = record { folder = c.split_path.result.0; name = c.split_path.result.1; entry = entry } in
    record {
      can = tt;
      finite = tt;
      walked = (front ++ (path, entry) ∷ [], at ∙ sym (append_assoc front ((path, entry) ∷ []) more));
      joins = joins_push m front more path entry c.loop-path.parts.items c.join_folders.new.parts.items c.push.new.self.items part c.requires at first
          (c.in_ok-join_folders.ensures.joins m first.closes.more ((path, entry) ∷ more) first.named next first.same first.closes.building)
          (subst (λ (q : List ℕ). IsInside q c.join_folders.new.parts.items) c.deref.ensures.value c.in_ok-join_folders.ensures.inside)
          (sym c.deref-in-loop-path.ensures.value ∙ c.split_path.ensures.is) c.split_path.ensures.name c.split_path.ensures.folder refl c.in_ok-push.ensures.items;
    }

pub returns-in_err-join_folders-clause-refused : goal.returns-in_err-join_folders-clause-refused
returns-in_err-join_folders-clause-refused c =
    let m = index_of c.args.map.now in
    let path = c.in-Some.path.now.items in
    let entry = c.in-Some.entry.now in
    let more = map view c.next.new.self in
    let front = c.loop-path.invariant.walked.0 in
    let rest_is : map view c.loop-path.path-iterator ≡ (path, entry) ∷ more = ap (map view) c.in-Some.ensures.steps in
    let at : entries m ≡ front ++ (path, entry) ∷ more = c.loop-path.invariant.walked.1 ∙ ap (λ (r : List Pair). front ++ r) rest_is in
    let next = next_is m front more path entry c.deref.result.now c.requires at c.deref.ensures.value in
    let first = subst (λ (r : List Pair). Joins m r [] c.loop-path.parts.items) rest_is c.loop-path.invariant.joins in
    handed_on (IsOfWrite m (λ _. ⊥)) c.in_err-join_folders.field-0.0 c.from_residual.result c.from_residual.ensures.1
    (c.in_err-join_folders.ensures.refused m first.closes.more ((path, entry) ∷ more) first.named next first.closes.fits first.same first.closes.building)

pub returns-in_err-join_folders-2-clause-refused : goal.returns-in_err-join_folders-2-clause-refused
returns-in_err-join_folders-2-clause-refused c =
    let m = index_of c.args.map.now in
    let none : map view c.loop-path.path-iterator ≡ [] = ap (map view) c.in-None.ensures.steps.0 in
    let first = subst (λ (r : List Pair). Joins m r [] c.loop-path.parts.items) none c.loop-path.invariant.joins in
    handed_on (IsOfWrite m (λ _. ⊥)) c.in_err-join_folders-2.field-0.0 c.from_residual-in_err-join_folders-2.result c.from_residual-in_err-join_folders-2.ensures.1
    (c.in_err-join_folders-2.ensures.refused m first.closes.more [] first.named tt first.closes.fits first.same first.closes.building)

pub returns-in_err-check_size-clause-refused : goal.returns-in_err-check_size-clause-refused
returns-in_err-check_size-clause-refused c =
    let m = index_of c.args.map.now in
    let fault = c.in_err-check_size.field-0.0 in
    let none : map view c.loop-path.path-iterator ≡ [] = ap (map view) c.in-None.ensures.steps.0 in
    let first = subst (λ (r : List Pair). Joins m r [] c.loop-path.parts.items) none c.loop-path.invariant.joins in
    let both = joins_then m [] [] c.loop-path.parts.items c.join_folders-2.new.parts.items first (c.in_ok-join_folders-2.ensures.joins m first.closes.more [] first.named tt first.same first.closes.building) in
    handed_on (IsOfWrite m (λ _. ⊥)) fault c.from_residual-in_err-check_size.result c.from_residual-in_err-check_size.ensures.1
    (root_unfit m c.join_folders-2.new.parts.items both c.in_ok-join_folders-2.ensures.inside fault (subst (λ (ps : List Part). IsTooLong ps fault) c.deref-2.ensures.value c.in_err-check_size.ensures.refused))

pub returns-in_err-check_size-clause-fault : goal.returns-in_err-check_size-clause-fault
returns-in_err-check_size-clause-fault c = handed_on IsOfJoining c.in_err-check_size.field-0.0 c.from_residual-in_err-check_size.result c.from_residual-in_err-check_size.ensures.1 (inr c.in_err-check_size.ensures.refused.0)

pub returns-clause-fits : goal.returns-clause-fits
returns-clause-fits c =
    let m = index_of c.args.map.now in
    let none : map view c.loop-path.path-iterator ≡ [] = ap (map view) c.in-None.ensures.steps.0 in
    let first = subst (λ (r : List Pair). Joins m r [] c.loop-path.parts.items) none c.loop-path.invariant.joins in
    let both = joins_then m [] [] c.loop-path.parts.items c.join_folders-2.new.parts.items first (c.in_ok-join_folders-2.ensures.joins m first.closes.more [] first.named tt first.same first.closes.building) in
    all_fitting m c.join_folders-2.new.parts.items both c.in_ok-join_folders-2.ensures.inside (subst (λ (ps : List Part). parts_size ps ≤ 16777216) c.deref-2.ensures.value c.in_ok-check_size.ensures.fits)
