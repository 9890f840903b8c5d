-- What the closing of a folder and the end of an index leave, for whom writes trees.
use Rattle.std.proofs.Common.{◌≡◌, ◌≢◌, ℕ, zero, suc, ◌<◌, ◌≤◌, ◌-◌, List, ◌∷◌, ◌++◌, map, Option, Some, None, refl, ap, sym, ◌∙◌, subst, ⊎_elim, inl, inr, append_assoc, append-nil, length, take, drop, arith, length-append, ◌↔◌, []}
use Rattle.std.proofs.Common.{true, false, cond}
use Rattle.std.specs.Prelude.{slice_get, option_map, Result, Ok, Err, IfErr}
use Rattle.std.specs.Result.{IsErrAnd}
use Rattle.std.specs.Option.{option_map_or}
use Rattle.std.specs.Ordering.{nat_cmp, is_eq}
use Rattle.std.specs.Cmp.Lexicographic.{slice_cmp}
use Rattle.std.specs.FinMap.{get, find, entries, get-entries}
use Rattle.std.specs.List.{AllByRecursion, starts_with}
use Rattle.std.specs.Prelude.{nat_eq}
use Rattle.std.proofs.lemmas.Slice.Eq.{starts_is}
use Rattle.std.proofs.lemmas.Bool.Decides.{Decides-eqb}
use Rattle.std.proofs.lemmas.List.{take-append-drop, take_at, length-take-le, same_from_push}
use Rattle.vc_object.specs.Bytes.{Without}
use Rattle.vc_object.specs.Decoding.{StoredObject, stored_object}
use Rattle.vc_object.specs.Object.{object_name}
use Rattle.vc_object.specs.ObjectMap.{ObjectMap}
use Rattle.vc_object.specs.Tree.{Entry, IsTree, IsName, spelling}
use Rattle.vc_object.specs.declared.id.ObjectId.{ObjectId}
use Rattle.vc_object.specs.declared.kind.Kind.TheVariants as kinds
use Rattle.vc_object.specs.declared.mode.Mode.{Mode}
use Rattle.vc_object.specs.declared.mode.Mode.TheVariants as modes
use Rattle.vc_object.proofs.IdLemmas.{IsId-from_is_id}
use Rattle.vc_object_map.specs.Store.{IsDamaged, with_object, with_objects}
use Rattle.vc_object_map.specs.StoreFault.{IsOfDamage}
use Rattle.vc_files.specs.FileMap.{FileMap}
use Rattle.vc_object_map.specs.declared.faults.StoreFault.{StoreFault}
use Rattle.vc_object_map.specs.declared.faults.StoreFault.TheVariants.{Damaged}
use Rattle.vc_index.specs.Building.{Begins, Nested, InPlaces, IsNext, IsLeft, IsSoundPart, HasOver, ArePartTrees, Building, Closes, IsInside, open_length}
use Rattle.vc_index.specs.FolderTrees.{AreJoined, AreIndexTrees, Fits}
use Rattle.vc_index.specs.HeldFiles.{Pair, HasFile, placed}
use Rattle.vc_index.specs.IndexMap.{IndexMap, IsIndex, IsFile, index_entry}
use Rattle.vc_index.specs.Part.{EndsInSlash, part_entry, part_pair}
use Rattle.vc_index.specs.Path.{names_in}
use Rattle.vc_index.specs.TreeFiles.{IsTreeAt, IsFileOfTree}
use Rattle.vc_index.specs.WrittenTrees.{tree_object, Holds, IsPart, AreLowerTrees, AreTreesOf, IsWritten, IsOfFolder}
use Rattle.vc_index.specs.declared.entry.IndexEntry.{IndexEntry}
use Rattle.vc_index.specs.declared.faults.IndexFault.{IndexFault}
use Rattle.vc_index.specs.declared.trees.Part.{Part}
use Rattle.vc_index.proofs.CoverLemmas.{over_entries, over_named}
use Rattle.vc_index.proofs.EntriesLemmas.{get_mid}
use Rattle.vc_index.proofs.FileLemmas.{opened, closed}
use Rattle.vc_index.proofs.FolderLemmas.{joined_push, joined_entries}
use Rattle.vc_index.proofs.MapLemmas.{same_text}
use Rattle.vc_index.proofs.PlaceLemmas.{file_place, front_places, files_order}
use Rattle.vc_index.proofs.PartLemmas.{by_last, last_get, got_last, folder_begins, nested_push, nested_last, holds_parts, run_tree, placed_run, all_parts, all_over, map_join, begins_trans, tree, run_of_folder, of_one_folder, below_new, building_new}
use Rattle.vc_lemmas.proofs.Lists.{all_append, all_map}

pub open_length-push : (parts : List Part) (part : Part) → open_length (parts ++ part ∷ []) ≡ length part.folder.now
open_length-push parts part = ap (λ (o : Option Part). option_map_or (λ (p : Part). length p.folder.now) o 0) (last_get parts part)

folder_got : (o : Option Part) (f : List ℕ) → option_map (λ (p : Part). p.folder.now) o ≡ Some f → (p : Part) × (o ≡ Some p) × (p.folder.now ≡ f)
folder_got None f e = absurd (cc e)
folder_got (Some p) f e = (p, refl, cc e)

-- the last of the parts, in the folder that is looked up
pub last_part : (parts : List Part) (f : List ℕ) → option_map (λ (p : Part). p.folder.now) (slice_get parts (length parts - 1)) ≡ Some f → (front : List Part) × (last : Part) × (parts ≡ front ++ last ∷ []) × (last.folder.now ≡ f)
last_part parts f e =
    let p = folder_got (slice_get parts (length parts - 1)) f e in
    let l = got_last parts p.0 p.1 in
    (l.0, p.0, l.1, p.2)

-- ---- more trees stored
with_objects-append : (old : ObjectMap) (a b : List StoredObject) → with_objects old (a ++ b) ≡ with_objects (with_objects old a) b
with_objects-append old [] b = refl
with_objects-append old (x ∷ a) b = with_objects-append (with_object old (object_name x.kind x.body) x) a b

pub stored_then : (old mid new : ObjectMap) (a b : List (List Entry)) → mid ≡ with_objects old (map tree_object a) → new ≡ with_objects mid (map tree_object b) → new ≡ with_objects old (map tree_object (a ++ b))
stored_then old mid new a b p q =
    q ∙ ap (λ o. with_objects o (map tree_object b)) p ∙ sym (with_objects-append old (map tree_object a) (map tree_object b)) ∙ ap (with_objects old) (sym (map_join tree_object a b))

pub stored_one : (old new : ObjectMap) (id : ObjectId) (body : List ℕ) (es : List Entry) → body ≡ spelling es → id ≡ object_name kinds.Tree body → new ≡ with_object old id (stored_object kinds.Tree body) → new ≡ with_objects old (map tree_object (es ∷ []))
stored_one old new id body es is named put = put ∙ ap (λ i. with_object old i (stored_object kinds.Tree body)) named ∙ ap (λ b. with_object old (object_name kinds.Tree b) (stored_object kinds.Tree b)) is

module _ (honest : Type 0) (files : IndexMap) (trees : List (List Entry)) where
  module _ (rest : List Pair) where
    pub closes_none : (parts : List Part) (old new : ObjectMap) → Building files trees parts rest → (honest → new ≡ old) → Closes honest files rest trees parts old new
    closes_none parts old new b same = record { more = []; building = subst (λ (ts : List (List Entry)). Building files ts parts rest) (sym (append-nil trees)) b; fits = tt; stored = same }

    pub closes_then : (mid parts : List Part) (old now new : ObjectMap) (first : Closes honest files rest trees mid old now) → Closes honest files rest (trees ++ first.more) parts now new → Closes honest files rest trees parts old new
    closes_then mid parts old now new first second = record {
      more = first.more ++ second.more;
      building = subst (λ (ts : List (List Entry)). Building files ts parts rest) (append_assoc trees first.more second.more) second.building;
      fits = all_append Fits first.more second.more first.fits second.fits;
      stored = λ h. stored_then old now new first.more second.more (first.stored h) (second.stored h);
    }

-- ---- one folder closed
module _ (files : IndexMap) (trees : List (List Entry)) (rest : List Pair) (parts : List Part) (start : ℕ) (folder : List ℕ)
    (b : Building files trees parts rest)
    (top : option_map (λ (p : Part). p.folder.now) (slice_get parts (length parts - 1)) ≡ Some folder)
    (some : 0 < length folder)
    (inside : AllByRecursion (λ g. length g.folder.now ≡ length folder) (drop start parts))
    (above : (fs : List Part) (g : Part) → take start parts ≡ fs ++ g ∷ [] → length g.folder.now ≢ length folder)
  where
    abbrev pub last : (front : List Part) × (last : Part) × (parts ≡ front ++ last ∷ []) × (last.folder.now ≡ folder)
    last = last_part parts folder top

    ends : (front : List Part) × (drop start parts ≡ front ++ last.1 ∷ [])
    ends = ⊎_elim
        (λ none.
        let all : take start parts ≡ last.0 ++ last.1 ∷ [] = sym (append-nil (take start parts)) ∙ ap (λ r. take start parts ++ r) (sym none) ∙ take-append-drop start parts ∙ last.2 in
        absurd (above last.0 last.1 all (ap length last.3)))
        (λ l.
        let same : l.1 ≡ last.1 = (same_from_push (take start parts ++ l.0) last.0 l.1 last.1 (append_assoc (take start parts) l.0 (l.1 ∷ []) ∙ ap (λ r. take start parts ++ r) (sym l.2) ∙ take-append-drop start parts ∙ last.2)).1 in
        (l.0, l.2 ∙ ap (λ x. l.0 ++ x ∷ []) same))
        (by_last (drop start parts))

    last_sound : IsSoundPart files trees last.1
    last_sound = (all_parts (IsSoundPart files trees) last.0 (last.1 ∷ []) (subst (AllByRecursion (IsSoundPart files trees)) last.2 b.each)).1.0

    -- the folder's path
    pub path : (d : List ℕ) × (folder ≡ d ++ 47 ∷ [])
    path = ⊎_elim (λ none. absurd (let z = ap length (sym last.3 ∙ none) in omega (arith, z))) (λ s. (s.0, sym last.3 ∙ s.1)) last_sound.ends

    pub path_is : take (length folder - 1) folder ≡ path.0
    path_is =
        let e = path.1 in
        let n : length path.0 ≡ length folder - 1 = omega (arith, ap length e, length-append path.0 (47 ∷ [])) in
        ap (take (length folder - 1)) e ∙ take_at path.0 (47 ∷ []) (length folder - 1) n

    parted : Building files trees (take start parts ++ drop start parts) rest
    parted = subst (λ (ps : List Part). Building files trees ps rest) (sym (take-append-drop start parts)) b

    inside_d : AllByRecursion (λ g. length g.folder.now ≡ length (path.0 ++ 47 ∷ [])) (drop start parts)
    inside_d = subst (λ (f : List ℕ). AllByRecursion (λ g. length g.folder.now ≡ length f) (drop start parts)) path.1 inside

    above_d : (fs : List Part) (g : Part) → take start parts ≡ fs ++ g ∷ [] → length g.folder.now ≢ length (path.0 ++ 47 ∷ [])
    above_d fs g e = subst (λ (f : List ℕ). length g.folder.now ≢ length f) path.1 (above fs g e)

    pub closing_below : AreLowerTrees files [] (trees ++ map part_entry (drop start parts) ∷ [])
    closing_below = below_new files trees rest (take start parts) (drop start parts) ends.0 last.1 path.0 parted ends.1 (last.3 ∙ path.1) inside_d above_d

    pub closing_tree : IsTree (map part_entry (drop start parts))
    closing_tree = tree files trees rest (take start parts) (drop start parts) ends.0 last.1 path.0 parted ends.1 (last.3 ∙ path.1) inside_d above_d

    pub closing_each : AllByRecursion (IsOfFolder files (path.0 ++ 47 ∷ [])) (map part_entry (drop start parts))
    closing_each = run_of_folder files trees rest (take start parts) (drop start parts) ends.0 last.1 path.0 parted ends.1 (last.3 ∙ path.1) inside_d above_d

    module _ (new : Part) (id : ObjectId) (body : List ℕ)
        (is : body ≡ spelling (map part_entry (drop start parts)))
        (is_new : new.folder.now ++ new.name.now ≡ take (length folder - 1) folder)
        (plain_new : Without 47 new.name.now)
        (ends_new : EndsInSlash new.folder.now)
        (entry_new : new.entry ≡ index_entry modes.Tree id)
        (named : id ≡ object_name kinds.Tree body)
        (sized : length id.0 ≡ 20)
        (left : IsLeft folder rest)
      where
        entry_is : new.entry ≡ index_entry modes.Tree (object_name kinds.Tree (spelling (map part_entry (drop start parts))))
        entry_is = entry_new ∙ ap (index_entry modes.Tree) (named ∙ ap (object_name kinds.Tree) is)

        pub closing : Building files (trees ++ map part_entry (drop start parts) ∷ []) (take start parts ++ new ∷ []) rest
        closing = building_new files trees rest (take start parts) (drop start parts) ends.0 last.1 path.0 parted ends.1 (last.3 ∙ path.1) inside_d above_d new
            (is_new ∙ path_is) plain_new ends_new entry_is (subst (λ (e : IndexEntry). length e.id.0 ≡ 20) (sym entry_new) sized)
            (subst (λ (f : List ℕ). IsLeft f rest) path.1 left)

-- the folder that is open now is shorter
pub closing_shorter : (parts : List Part) (new : Part) (folder : List ℕ) → 0 < length folder → new.folder.now ++ new.name.now ≡ take (length folder - 1) folder → open_length (parts ++ new ∷ []) < length folder
closing_shorter parts new folder some is =
    let o = open_length-push parts new in
    let t = length-take-le (length folder - 1) folder (omega arith) in
    omega (arith, o, t, ap length is, length-append new.folder.now new.name.now)

-- ---- a file of the index taken in
pub pushed : (files : IndexMap) (trees : List (List Entry)) (front : List Pair) (parts : List Part) (new : Part) (path : List ℕ) (entry : IndexEntry) (more : List Pair)
    → IsIndex files → entries files ≡ front ++ (path, entry) ∷ more → Building files trees parts ((path, entry) ∷ more) → IsInside path parts
    → path ≡ new.folder.now ++ new.name.now → Without 47 new.name.now → EndsInSlash new.folder.now → new.entry ≡ entry
    → Building files trees (parts ++ new ∷ []) more
pushed files trees front parts new path entry more sound at b inside is plain ends same = record {
  same_files = λ objects held q mode id. subst (λ (l : List Pair). HasFile objects l q mode id ↔ (get files q ≡ Some (index_entry mode id))) (sym regrouped) (b.same_files objects held q mode id);
  below = b.below;
  each = all_append (IsSoundPart files trees) parts (new ∷ []) b.each (
    record {
      names = subst (λ (p : List ℕ). AllByRecursion IsName (names_in p)) is file.legal.names;
      plain = plain;
      ends = ends;
      id = subst (λ (e : IndexEntry). length e.id.0 ≡ 20) (sym same) (IsId-from_is_id entry.id file.id).sized;
      of_folder = inl of_new;
      leads = inr (subst (λ (e : IndexEntry). (e.mode ≢ modes.Tree) × ((p : List ℕ) × (get files p ≡ Some (index_entry e.mode e.id)))) (sym same) (file.mode, (path, there)));
    },
    tt,
  );
  nested = nested_push parts new b.nested (⊎_elim
      (λ none. subst (AllByRecursion (λ (g : Part). Begins g.folder.now new.folder.now)) (sym none) tt)
      (λ l.
      let last_ends = (all_parts (IsSoundPart files trees) l.0 (l.1 ∷ []) (subst (AllByRecursion (IsSoundPart files trees)) l.2 b.each)).1.0.ends in
      let into = inside l.0 l.1 l.2 in
      let first : Begins l.1.folder.now new.folder.now = folder_begins l.1.folder.now into.0 new.folder.now new.name.now last_ends (sym into.1 ∙ is) plain in
      subst (AllByRecursion (λ (g : Part). Begins g.folder.now new.folder.now)) (sym l.2)
      (all_append (λ (g : Part). Begins g.folder.now new.folder.now) l.0 (l.1 ∷ [])
      (all_map (λ g. Begins g.folder.now l.1.folder.now) (λ g. Begins g.folder.now new.folder.now) l.0 (λ g h. begins_trans g.folder.now l.1.folder.now new.folder.now h first) (nested_last l.0 l.1 (subst Nested l.2 b.nested)))
      (first, tt)))
      (by_last parts));
  order = subst InPlaces (sym regrouped) b.order;
  levels = b.levels;
  listed = subst (λ (ts : List (List Entry)). AreJoined (ArePartTrees files b.levels) (parts ++ new ∷ []) ts) (append-nil trees) (joined_push (ArePartTrees files b.levels) parts new trees [] b.listed (inl (of_new.0, of_new.1, refl)));
  covers = λ q some. subst (λ (l : List Pair). HasOver l q) (sym regrouped) (b.covers q some);
  index = sound;
  walked = (front ++ (path, entry) ∷ [], at ∙ sym (append_assoc front ((path, entry) ∷ []) more));
}
  where
    there : get files path ≡ Some entry
    there = get_mid files front more path entry at

    file : IsFile path entry
    file = sound.file path entry there

    of_new : (new.entry.mode ≢ modes.Tree) × (get files (new.folder.now ++ new.name.now) ≡ Some (index_entry new.entry.mode new.entry.id))
    of_new = (subst (λ (e : IndexEntry). e.mode ≢ modes.Tree) (sym same) file.mode, ap (get files) (sym is) ∙ there ∙ ap (λ e. Some e) (sym same))

    regrouped : map part_pair (parts ++ new ∷ []) ++ more ≡ map part_pair parts ++ (path, entry) ∷ more
    regrouped = ap (λ l. l ++ more) (map_join part_pair parts (new ∷ [])) ∙ append_assoc (map part_pair parts) (part_pair new ∷ []) more ∙ ap (λ (p : Pair). map part_pair parts ++ p ∷ more) (λ i. (sym is i, same i))

-- ---- where the index begins
has_get : (objects : ObjectMap) (files : IndexMap) → IsIndex files → (path : List ℕ) (mode : Mode) (id : ObjectId) (front es : List Pair) → entries files ≡ front ++ es → HasFile objects es path mode id → get files path ≡ Some (index_entry mode id)
has_get objects files sound path mode id front [] at h = absurd h
has_get objects files sound path mode id front (e ∷ es) at h =
    let there : get files e.0 ≡ Some e.1 = get_mid files front es e.0 e.1 at in
    ⊎_elim
    (λ x. ⊎_elim
    (λ file. ap (get files) (sym file.1) ∙ there ∙ ap (λ k. Some k) (λ i. index_entry (file.2 i) (file.3 i)))
    (λ tree. absurd ((sound.file e.0 e.1 there).mode tree.0))
    x)
    (λ x. has_get objects files sound path mode id (front ++ e ∷ []) es (at ∙ sym (append_assoc front (e ∷ []) es)) x)
    h

find_has : (objects : ObjectMap) (path : List ℕ) (mode : Mode) (id : ObjectId) → mode ≢ modes.Tree → (es : List Pair) → find (slice_cmp nat_cmp) path es ≡ Some (index_entry mode id) → HasFile objects es path mode id
find_has objects path mode id file [] is = absurd (cc is)
find_has objects path mode id file (e ∷ es) is =
    elim (is_eq (slice_cmp nat_cmp path e.0)) as (λ b. is_eq (slice_cmp nat_cmp path e.0) ≡ b → cond b (Some e.1) (find (slice_cmp nat_cmp) path es) ≡ Some (index_entry mode id) → HasFile objects (e ∷ es) path mode id) [
      | true ↦ λ same found.
          let value : e.1 ≡ index_entry mode id = cc found in
          inl (inl ((λ tree. file (sym (ap (λ (k : IndexEntry). k.mode) value) ∙ tree)), sym (same_text path e.0 same), ap (λ (k : IndexEntry). k.mode) value, ap (λ (k : IndexEntry). k.id) value))
      | false ↦ λ _ later. inr (find_has objects path mode id file es later)
    ] refl is

pub building_starts : (files : IndexMap) → IsIndex files → Building files [] [] (entries files)
building_starts files sound = record {
  same_files = λ objects held path mode id. (
    has_get objects files sound path mode id [] (entries files) refl,
    λ at. find_has objects path mode id (sound.file path (index_entry mode id) at).mode (entries files) (sym (get-entries files path) ∙ at),
  );
  below = tt;
  each = tt;
  nested = tt;
  order = files_order files sound;
  levels = zero;
  listed = refl;
  covers = over_entries files;
  index = sound;
  walked = ([], refl);
}

-- ---- the root
pub root_folders : (parts : List Part) → Nested parts → IsInside [] parts → AllByRecursion (λ g. g.folder.now ≡ []) parts
root_folders parts nested inside = ⊎_elim
    (λ none. subst (AllByRecursion (λ (g : Part). g.folder.now ≡ [])) (sym none) tt)
    (λ l.
    let top : l.1.folder.now ≡ [] = nothing_begins l.1.folder.now [] (inside l.0 l.1 l.2) refl in
    subst (AllByRecursion (λ (g : Part). g.folder.now ≡ [])) (sym l.2)
    (all_append (λ (g : Part). g.folder.now ≡ []) l.0 (l.1 ∷ [])
    (all_map (λ g. Begins g.folder.now l.1.folder.now) (λ g. g.folder.now ≡ []) l.0 (λ g h. nothing_begins g.folder.now l.1.folder.now h top) (nested_last l.0 l.1 (subst Nested l.2 nested)))
    (top, tt)))
    (by_last parts)
  where
    nothing_begins : (a b : List ℕ) → Begins a b → b ≡ [] → a ≡ []
    nothing_begins [] b h e = refl
    nothing_begins (x ∷ a) b h e = absurd (let z : [] ≡ x ∷ (a ++ h.0) = sym e ∙ h.1 in cc z)

module _ (files : IndexMap) (lower : List (List Entry)) (parts : List Part) (b : Building files lower parts []) (inside : IsInside [] parts) where
  pub root_tree : IsTree (map part_entry parts)
  root_tree = run_tree files lower [] parts b.each (root_folders parts b.nested inside) (front_places (map part_pair parts) [] b.order)

  root_parts : AllByRecursion (IsPart files lower) (map part_entry parts)
  root_parts = all_over part_entry (IsPart files lower) parts (all_map (IsSoundPart files lower) (λ g. IsPart files lower (part_entry g)) parts (λ g s. s.leads) b.each)

  pub root_each : AllByRecursion (IsOfFolder files []) (map part_entry parts)
  root_each = of_one_folder files lower [] parts b.each (root_folders parts b.nested inside)

  root_pairs : map part_pair parts ++ [] ≡ map (placed []) (map part_entry parts)
  root_pairs = append-nil (map part_pair parts) ∙ placed_run [] parts (root_folders parts b.nested inside)

  -- the trees stored and the root's are those of the index
  pub root_listed : AreIndexTrees files (lower ++ map part_entry parts ∷ []) (map part_entry parts)
  root_listed = record {
    levels = suc b.levels;
    is = record {
      below = lower;
      is = refl;
      tree = root_tree;
      names = λ path name some first. over_named [] path name (map part_entry parts) root_tree.legal first (subst (λ (l : List Pair). HasOver l path) root_pairs (b.covers path some));
      joined = joined_entries files b.levels [] parts lower (root_folders parts b.nested inside) b.listed;
    };
  }

  root_files : (objects : ObjectMap) → Holds objects (lower ++ map part_entry parts ∷ []) → (path : List ℕ) (mode : Mode) (id : ObjectId)
      → IsFileOfTree objects (object_name kinds.Tree (spelling (map part_entry parts))) path mode id ↔ (get files path ≡ Some (index_entry mode id))
  root_files objects held path mode id =
      let parted = holds_parts objects lower (map part_entry parts ∷ []) held in
      let there : IsTreeAt objects (object_name kinds.Tree (spelling (map part_entry parts))) (map part_entry parts) = record { stored = parted.1.0; tree = root_tree } in
      let all = b.same_files objects parted.0 path mode id in (
        λ f. all.0 (subst (λ (l : List Pair). HasFile objects l path mode id) (sym root_pairs) (opened objects path mode id [] (object_name kinds.Tree (spelling (map part_entry parts))) (map part_entry parts) there (inr (refl, (path, refl, f))))),
        λ g. ⊎_elim
            (λ file. absurd (file.0 refl))
            (λ tree. subst (λ (p : List ℕ). IsFileOfTree objects (object_name kinds.Tree (spelling (map part_entry parts))) p mode id) (sym tree.1.1) tree.1.2)
            (closed objects path mode id [] (object_name kinds.Tree (spelling (map part_entry parts))) (map part_entry parts) there (subst (λ (l : List Pair). HasFile objects l path mode id) root_pairs (all.1 g))),
      )

  pub root_trees : AreTreesOf files lower (map part_entry parts)
  root_trees = record {
    below = b.below;
    tree = root_tree;
    parts = root_parts;
    same_files = root_files;
  }

-- ---- the last part, as the loop that closes folders sees it
pub inside_last : (parts : List Part) (last : Part) (next : List ℕ) → slice_get parts (length parts - 1) ≡ Some last → starts_with nat_eq next last.folder.now ≡ true → IsInside next parts
inside_last parts last next at begun front part is =
    let same : Some part ≡ Some last = sym (last_get front part) ∙ ap (λ (l : List Part). slice_get l (length l - 1)) (sym is) ∙ at in
    let eq : part ≡ last = cc same in
    let begins = (starts_is Decides-eqb next last.folder.now true (sym begun)).0 refl in
    subst (λ (p : Part). Begins p.folder.now next) (sym eq) (drop (length last.folder.now) next, begins)

pub not_begun : (next folder : List ℕ) → starts_with nat_eq next folder ≡ false → 0 < length folder
not_begun next [] e = absurd (cc e)
not_begun next (x ∷ folder) e = omega arith

-- ---- one path more
pub push_step : (honest : Type 0) (files : IndexMap) (front more : List Pair) (path : List ℕ) (entry : IndexEntry) (parts mid parts' : List Part) (part : Part) (old now new : ObjectMap)
    → IsIndex files → entries files ≡ front ++ (path, entry) ∷ more
    → (first : Closes honest files ((path, entry) ∷ more) [] parts old now) → Closes honest files ((path, entry) ∷ more) first.more mid now new
    → IsInside path mid → path ≡ part.folder.now ++ part.name.now → Without 47 part.name.now → EndsInSlash part.folder.now → part.entry ≡ entry → parts' ≡ mid ++ part ∷ []
    → Closes honest files more [] parts' old new
push_step honest files front more path entry parts mid parts' part old now new sound at first second inside is plain ends same pushes =
    let both = closes_then honest files [] ((path, entry) ∷ more) parts mid old now new first second in
    record {
      more = both.more;
      building = subst (λ (ps : List Part). Building files both.more ps more) (sym pushes) (pushed files both.more front mid part path entry more sound at both.building inside is plain ends same);
      fits = both.fits;
      stored = both.stored;
    }

pub written : (honest : Type 0) (files : IndexMap) (parts : List Part) (old mid new : ObjectMap) (id : ObjectId) (body : List ℕ)
    → Closes honest files [] [] parts old mid → IsInside [] parts → body ≡ spelling (map part_entry parts) → id ≡ object_name kinds.Tree body → length body ≤ 16777216
    → (honest → new ≡ with_object mid id (stored_object kinds.Tree body)) → IsWritten honest files old new id
written honest files parts old mid new id body closes inside is named size put = record {
  lower = closes.more;
  root = map part_entry parts;
  trees = root_trees files closes.more parts closes.building inside;
  is = named ∙ ap (object_name kinds.Tree) is;
  listed = root_listed files closes.more parts closes.building inside;
  fits = all_append Fits closes.more (map part_entry parts ∷ []) closes.fits (subst (λ (t : List ℕ). length t ≤ 16777216) is size, tt);
  stored = λ h. stored_then old mid new closes.more (map part_entry parts ∷ []) (closes.stored h) (stored_one mid new id body (map part_entry parts) is named (put h));
}

-- the next path, where it begins not with the folder, lies not in it
pub left_of : (next folder : List ℕ) (rest : List Pair) → IsNext next rest → starts_with nat_eq next folder ≡ false → IsLeft folder rest
left_of next folder [] is not_in = tt
left_of next folder (e ∷ rest) is not_in = λ begins. false≢true ((starts_is Decides-eqb next folder false (sym not_in)).1 begins.0 (sym is ∙ begins.1))
  where
    false≢true : false ≡ true → ⊥
    false≢true z = cc z

-- what is damaged still is where nothing changed
pub still_damaged : (old new : FileMap) (fault : StoreFault) (id : ObjectId) → new ≡ old → IsOfDamage old fault → fault ≡ Damaged id → IsDamaged new id
still_damaged old new fault id same damage is = subst (λ (content : FileMap). IsDamaged content id) (sym same) (subst (IsOfDamage old) is damage)

-- a refusal that is handed on
pub handed_on : {T : Type 0} (Reason : IndexFault → Type 0) (fault : IndexFault) (r : Result T IndexFault) → IsErrAnd r (λ e. e ≡ fault) → Reason fault → IfErr r Reason
handed_on Reason fault (Ok x) is reason = tt
handed_on Reason fault (Err e) is reason = subst Reason (sym is) reason

-- the first path of what is left is the next
pub next_is : (files : IndexMap) (front more : List Pair) (path : List ℕ) (entry : IndexEntry) (next : List ℕ) → IsIndex files → entries files ≡ front ++ (path, entry) ∷ more → next ≡ path → IsNext next ((path, entry) ∷ more)
next_is files front more path entry next sound at is = file_place (path, entry) (sound.file path entry (get_mid files front more path entry at)).mode ∙ sym is
