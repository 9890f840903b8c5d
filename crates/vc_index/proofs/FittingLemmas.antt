-- What stands where each tree of an index fits, for whom puts the trees together before anything is stored.
use Rattle.std.proofs.Common.{◌≡◌, ◌≢◌, ℕ, ◌<◌, ◌≤◌, ◌-◌, ◌+◌, List, [], ◌∷◌, ◌++◌, map, None, Some, refl, sym, ap, ◌∙◌, subst, ⊎_elim, length, length-append, take, take-append-drop, drop, arith}
use Rattle.std.specs.Prelude.{Option, slice_get, option_map, replicate}
use Rattle.std.specs.List.{AllByRecursion}
use Rattle.std.specs.FinMap.{entries}
use Rattle.std.proofs.lemmas.List.{take-map, drop-map, length-map}
use Rattle.std.proofs.lemmas.List.Recursion.{is_sum_by}
use Rattle.std.proofs.lemmas.Option.{slice_get-map}
use Rattle.vc_files.specs.declared.faults.Fault.TheVariants.{Device, Memory}
use Rattle.vc_object.proofs.Names.{name_length}
use Rattle.vc_object.specs.Bytes.{Without}
use Rattle.vc_object.specs.Object.{object_bytes, object_name}
use Rattle.vc_object.specs.ObjectFault.{too_large}
use Rattle.vc_object.specs.Tree.{Entry, entry_bytes, mode_text, spelling}
use Rattle.vc_object.specs.declared.fault.ObjectFault.TheVariants.{TooLarge}
use Rattle.vc_object.specs.declared.id.ObjectId.{ObjectId}
use Rattle.vc_object.specs.declared.kind.Kind.TheVariants as kinds
use Rattle.vc_object.specs.declared.mode.Mode.TheVariants as modes
use Rattle.vc_object_map.specs.declared.faults.StoreFault.{StoreFault}
use Rattle.vc_object_map.specs.declared.faults.StoreFault.TheVariants.{BadObject, Absent, Damaged, Fault}
use Rattle.vc_index.specs.Building.{IsLeft, IsSoundPart, Building, Joins, IsInside}
use Rattle.vc_index.specs.FolderTrees.{AllFit, Fits, HasFitting}
use Rattle.vc_index.specs.HeldFiles.{Pair}
use Rattle.vc_index.specs.IndexMap.{IndexMap, IsIndex, index_entry}
use Rattle.vc_index.specs.Part.{EndsInSlash, part_entry, part_size, parts_size, without_id}
use Rattle.vc_index.specs.WrittenTrees.{HasTooLarge, IsOfJoining, IsOfStore, IsOfTrees, IsOfWrite, IsTooLong, MayHaveBegun}
use Rattle.vc_index.specs.declared.entry.IndexEntry.{IndexEntry}
use Rattle.vc_index.specs.declared.faults.IndexFault.{IndexFault}
use Rattle.vc_index.specs.declared.faults.IndexFault.TheVariants.{BadPath, PathConflict, BadIndex, WrongEntry, Missing, Store}
use Rattle.vc_index.specs.declared.trees.Part.{Part}
use Rattle.vc_index.proofs.ClosingLemmas.{closes_none, closes_then, closing, push_step, root_listed}
use Rattle.vc_index.proofs.OneListLemmas.{one_list}
use Rattle.vc_index.proofs.PartLemmas.{all_parts, map_join}
use Rattle.vc_index.proofs.StandingLemmas.{closing_refused, root_refused}
use Rattle.vc_lemmas.proofs.Lists.{all_append, all_map}

-- want of memory is no fault of the device
pub joining_no_device : (fault : IndexFault) → IsOfJoining fault → fault ≡ Store (Fault Device) → ⊥
joining_no_device fault why device = ⊎_elim (λ memory. no_memory (sym memory ∙ device)) (λ large. no_size (sym large ∙ device)) why
  where
    no_memory : Store (Fault Memory) ≡ Store (Fault Device) → ⊥
    no_memory same = cc same

    no_size : Store (BadObject TooLarge) ≡ Store (Fault Device) → ⊥
    no_size same = cc same

-- a cause without damaged files is one whatever is damaged
pub cause_of_any : (files : IndexMap) (IsDamaged : ObjectId → Type 0) (fault : IndexFault) → IsOfWrite files (λ _. ⊥) fault → IsOfWrite files IsDamaged fault
cause_of_any files IsDamaged (Store fault) why = of_store fault why
  where
    of_store : (fault : StoreFault) → IsOfTrees files (λ _. ⊥) fault → IsOfTrees files IsDamaged fault
    of_store (BadObject bad) why = why
    of_store (Absent id) why = why
    of_store (Damaged id) why = absurd why.1
    of_store (Fault bad) why = tt
cause_of_any files IsDamaged BadPath why = why
cause_of_any files IsDamaged PathConflict why = why
cause_of_any files IsDamaged (BadIndex place) why = why
cause_of_any files IsDamaged (WrongEntry at) why = why
cause_of_any files IsDamaged (Missing id) why = why

no_damage : (id : ObjectId) → BadObject TooLarge ≡ Damaged id → ⊥
no_damage id same = cc same

-- ---- parts without their ids
-- the length of an entry's spelling is the part's size
entry_size : (part : Part) → length part.entry.id.0 ≡ 20 → length (entry_bytes (part_entry part)) ≡ part_size part
entry_size part sized =
    let text = mode_text part.entry.mode in
    omega (arith, length-append (text ++ 32 ∷ part.name.now) (0 ∷ part.entry.id.0), length-append text (32 ∷ part.name.now), sized)

total : List Part → ℕ
total [] = 0
total (part ∷ parts) = part_size part + total parts

total_size : (parts : List Part) → AllByRecursion (λ part. length part.entry.id.0 ≡ 20) parts → length (spelling (map part_entry parts)) ≡ total (map without_id parts)
unfolding total
total_size [] sized = refl
total_size (part ∷ parts) sized = omega (arith, length-append (entry_bytes (part_entry part)) (spelling (map part_entry parts)), entry_size part sized.0, total_size parts sized.1)

-- the length of a tree's spelling follows from the parts without their ids
pub size_of_named : (files : IndexMap) (trees : List (List Entry)) (parts named : List Part) → parts ≡ map without_id named → AllByRecursion (IsSoundPart files trees) named → length (spelling (map part_entry named)) ≡ parts_size parts
unfolding total
size_of_named files trees parts named same sound =
    total_size named (all_map (IsSoundPart files trees) (λ part. length part.entry.id.0 ≡ 20) named (λ part s. s.id) sound) ∙ is_sum_by total part_size refl (λ _ _. refl) (map without_id named) ∙ ap parts_size (sym same)

all_named : (P : Part → Type 0) (parts : List Part) → AllByRecursion P (map without_id parts) → AllByRecursion (λ part. P (without_id part)) parts
all_named P [] a = tt
all_named P (part ∷ parts) a = (a.0, all_named P parts a.1)

last_named : (part : Option Part) → option_map (λ (p : Part). p.folder.now) (option_map without_id part) ≡ option_map (λ (p : Part). p.folder.now) part
last_named None = refl
last_named (Some part) = refl

-- the last folder is the same
pub inside_named : (path : List ℕ) (parts named : List Part) → parts ≡ map without_id named → IsInside path parts → IsInside path named
inside_named path parts named same inside = λ front part e. inside (map without_id front) (without_id part) (same ∙ ap (map without_id) e ∙ map_join without_id front (part ∷ []))

unfit_cause : (files : IndexMap) (parts : List Part) (es : List Entry) (fault : IndexFault) → length (spelling es) ≡ parts_size parts → (16777216 < length (spelling es) → IsOfTrees files (λ _. ⊥) (BadObject TooLarge)) → IsTooLong parts fault → IsOfWrite files (λ _. ⊥) fault
unfit_cause files parts es fault size cause why = subst (IsOfWrite files (λ _. ⊥)) (sym why.0) (cause (subst (λ (n : ℕ). 16777216 < n) (sym size) why.1))

fits_named : (parts : List Part) (es : List Entry) → length (spelling es) ≡ parts_size parts → parts_size parts ≤ 16777216 → Fits es
fits_named parts es size fits = subst (λ (n : ℕ). n ≤ 16777216) (sym size) fits

-- one folder's parts, without their ids
module _ (files : IndexMap) (trees : List (List Entry)) (rest : List Pair) (parts named : List Part) (start : ℕ) (folder : List ℕ)
    (same : parts ≡ map without_id named)
    (b : Building files trees named rest)
    (top : option_map (λ (p : Part). p.folder.now) (slice_get parts (length parts - 1)) ≡ Some folder)
    (some : 0 < length folder)
    (inside : AllByRecursion (λ g. length g.folder.now ≡ length folder) (drop start parts))
    (above : (fs : List Part) (g : Part) → take start parts ≡ fs ++ g ∷ [] → length g.folder.now ≢ length folder)
    (left : IsLeft folder rest)
  where
    front_same : take start parts ≡ map without_id (take start named)
    front_same = ap (take start) same ∙ take-map without_id start named

    back_same : drop start parts ≡ map without_id (drop start named)
    back_same = ap (drop start) same ∙ drop-map without_id start named

    back_size : length (spelling (map part_entry (drop start named))) ≡ parts_size (drop start parts)
    back_size = size_of_named files trees (drop start parts) (drop start named) back_same (all_parts (IsSoundPart files trees) (take start named) (drop start named) (subst (AllByRecursion (IsSoundPart files trees)) (sym (take-append-drop start named)) b.each)).1

    top_named : option_map (λ (p : Part). p.folder.now) (slice_get named (length named - 1)) ≡ Some folder
    top_named =
        sym (last_named (slice_get named (length named - 1)))
        ∙ ap (option_map (λ (p : Part). p.folder.now)) (sym (slice_get-map without_id named (length named - 1)))
        ∙ ap (λ n. option_map (λ (p : Part). p.folder.now) (slice_get (map without_id named) (n - 1))) (sym (length-map named without_id))
        ∙ ap (λ (ps : List Part). option_map (λ (p : Part). p.folder.now) (slice_get ps (length ps - 1))) (sym same)
        ∙ top

    inside_folder : AllByRecursion (λ g. length g.folder.now ≡ length folder) (drop start named)
    inside_folder = all_named (λ g. length g.folder.now ≡ length folder) (drop start named) (subst (AllByRecursion (λ (g : Part). length g.folder.now ≡ length folder)) back_same inside)

    above_folder : (fs : List Part) (g : Part) → take start named ≡ fs ++ g ∷ [] → length g.folder.now ≢ length folder
    above_folder fs g e = above (map without_id fs) (without_id g) (front_same ∙ ap (map without_id) e ∙ map_join without_id fs (g ∷ []))

    -- the cause for which a folder's tree is refused
    pub joining_refused : (fault : IndexFault) → AllFit trees → IsTooLong (drop start parts) fault → IsOfWrite files (λ _. ⊥) fault
    joining_refused fault fits = unfit_cause files (drop start parts) (map part_entry (drop start named)) fault back_size
        (λ large. closing_refused files trees rest named start folder b top_named some inside_folder above_folder left (λ _. ⊥) (spelling (map part_entry (drop start named))) (BadObject TooLarge) fits refl (too_large large refl) no_damage)

    -- one part in place of the folder's
    pub joining : (new : Part) (after : List Part) → new.folder.now ++ new.name.now ≡ take (length folder - 1) folder → Without 47 new.name.now → EndsInSlash new.folder.now
        → after ≡ take start parts ++ record { folder = new.folder; name = new.name; entry = record { mode = modes.Tree; id = record { 0 = replicate 20 0 } } } ∷ []
        → parts_size (drop start parts) ≤ 16777216 → Joins files rest trees after
    joining new after is plain ends pushes fits =
        let es = map part_entry (drop start named) in
        let id = object_name kinds.Tree (spelling es) in
        let part : Part = record { folder = new.folder; name = new.name; entry = index_entry modes.Tree id } in
        record {
          named = take start named ++ part ∷ [];
          same = pushes ∙ ap (λ ps. ps ++ without_id part ∷ []) front_same ∙ sym (map_join without_id (take start named) (part ∷ []));
          closes = record {
            more = es ∷ [];
            building = closing files trees rest named start folder b top_named some inside_folder above_folder part id (spelling es) refl is plain ends refl refl (name_length (object_bytes kinds.Tree (spelling es))) left;
            fits = (fits_named (drop start parts) es back_size fits, tt);
            stored = λ never. absurd never;
          };
        }

-- nothing is joined yet
pub joins_none : (files : IndexMap) (rest : List Pair) (trees : List (List Entry)) (parts named : List Part) → parts ≡ map without_id named → Building files trees named rest → Joins files rest trees parts
joins_none files rest trees parts named same b = record { named = named; same = same; closes = closes_none ⊥ files trees rest named (λ _. None) (λ _. None) b (λ never. absurd never) }

-- more folders are joined
pub joins_then : (files : IndexMap) (rest : List Pair) (trees : List (List Entry)) (mid parts : List Part) (first : Joins files rest trees mid) → Joins files rest (trees ++ first.closes.more) parts → Joins files rest trees parts
joins_then files rest trees mid parts first second = record {
  named = second.named;
  same = second.same;
  closes = closes_then ⊥ files trees rest first.named second.named (λ _. None) (λ _. None) (λ _. None) first.closes second.closes;
}

-- a file of the index is taken in, without its id
pub joins_push : (files : IndexMap) (front more : List Pair) (path : List ℕ) (entry : IndexEntry) (parts mid parts' : List Part) (part : Part)
    → IsIndex files → entries files ≡ front ++ (path, entry) ∷ more
    → (first : Joins files ((path, entry) ∷ more) [] parts) → Joins files ((path, entry) ∷ more) first.closes.more mid
    → IsInside path mid → path ≡ part.folder.now ++ part.name.now → Without 47 part.name.now → EndsInSlash part.folder.now → part.entry ≡ entry → parts' ≡ mid ++ without_id part ∷ []
    → Joins files more [] parts'
joins_push files front more path entry parts mid parts' part sound at first second inside is plain ends same pushes = record {
  named = second.named ++ part ∷ [];
  same = pushes ∙ ap (λ ps. ps ++ without_id part ∷ []) second.same ∙ sym (map_join without_id second.named (part ∷ []));
  closes = push_step ⊥ files front more path entry first.named second.named (second.named ++ part ∷ []) part (λ _. None) (λ _. None) (λ _. None) sound at first.closes second.closes
      (inside_named path mid second.named second.same inside) is plain ends same refl;
}

-- the cause for which the root's tree is refused
pub root_unfit : (files : IndexMap) (parts : List Part) → Joins files [] [] parts → IsInside [] parts → (fault : IndexFault) → IsTooLong parts fault → IsOfWrite files (λ _. ⊥) fault
root_unfit files parts j inside fault = unfit_cause files parts (map part_entry j.named) fault (size_of_named files j.closes.more parts j.named j.same j.closes.building.each)
    (λ large. root_refused files j.closes.more j.named j.closes.building (inside_named [] parts j.named j.same inside) (λ _. ⊥) (spelling (map part_entry j.named)) (BadObject TooLarge) j.closes.fits refl (too_large large refl) no_damage)

-- each tree of the index fits
pub all_fitting : (files : IndexMap) (parts : List Part) → Joins files [] [] parts → IsInside [] parts → parts_size parts ≤ 16777216 → HasFitting files
all_fitting files parts j inside fits =
    let root = map part_entry j.named in
    record {
      trees = j.closes.more ++ root ∷ [];
      root = root;
      listed = root_listed files j.closes.more j.named j.closes.building (inside_named [] parts j.named j.same inside);
      fits = all_append Fits j.closes.more (root ∷ []) j.closes.fits (fits_named parts root (size_of_named files j.closes.more parts j.named j.same j.closes.building.each) fits, tt);
    }

-- no tree of the index is too large then
none_large : (files : IndexMap) → IsIndex files → HasFitting files → HasTooLarge files → ⊥
none_large files sound all large =
    let same = (one_list files sound all.trees (large.first.before ++ large.entries ∷ large.first.after) all.root large.first.root all.listed large.first.listed).0 in
    over (length (spelling large.entries)) 16777216 (all_parts Fits large.first.before (large.entries ∷ large.first.after) (subst AllFit same all.fits)).1.0 large.large
  where
    over : (size most : ℕ) → size ≤ most → most < size → ⊥
    over size most low high = omega (arith, low, high)

-- so an error is the store's
pub no_size_left : (files : IndexMap) → IsIndex files → HasFitting files → (IsDamaged : ObjectId → Type 0) (fault : IndexFault) → IsOfWrite files IsDamaged fault → MayHaveBegun fault
no_size_left files sound all IsDamaged (Store fault) why = of_store fault why
  where
    of_store : (fault : StoreFault) → IsOfTrees files IsDamaged fault → IsOfStore fault
    of_store (BadObject bad) why = none_large files sound all why.1
    of_store (Absent id) why = why
    of_store (Damaged id) why = tt
    of_store (Fault bad) why = tt
no_size_left files sound all IsDamaged BadPath why = why
no_size_left files sound all IsDamaged PathConflict why = why
no_size_left files sound all IsDamaged (BadIndex place) why = why
no_size_left files sound all IsDamaged (WrongEntry at) why = why
no_size_left files sound all IsDamaged (Missing id) why = why
