-- How parts of folders become a tree.
use Rattle.std.proofs.Common.{◌≡◌, ◌≢◌, ℕ, suc, ◌<◌, ◌≤◌, ◌-◌, ◌+◌, List, ◌∷◌, ◌++◌, map, Some, refl, ap, sym, ◌∙◌, subst, ⊎_elim, ◌⊎◌, inl, inr, append_assoc, append-nil, length, drop, get_or, arith, length-append, ◌↔◌, true, false, cond, ◌==◌, []}
use Rattle.std.specs.Prelude.{slice_get, IsSome, is_some}
use Rattle.std.specs.List.{AllByRecursion, onto_first}
use Rattle.std.proofs.lemmas.List.{drop_more}
use Rattle.std.specs.FinMap.{get}
use Rattle.vc_object.specs.Bytes.{Without}
use Rattle.vc_object.specs.Object.{object_name}
use Rattle.vc_object.specs.ObjectMap.{ObjectMap}
use Rattle.vc_object.specs.Tree.{Entry, IsEntry, IsTree, IsName, key, spelling}
use Rattle.vc_object.specs.declared.id.ObjectId.{ObjectId}
use Rattle.vc_object.specs.declared.kind.Kind.TheVariants as kinds
use Rattle.vc_object.specs.declared.mode.Mode.{Mode}
use Rattle.vc_object.specs.declared.mode.Mode.TheVariants as modes
use Rattle.vc_object.proofs.Texts.{agreeing, ne-eqb, no_cut}
use Rattle.vc_index.specs.Building.{Begins, Nested, place, ComesFirst, InPlaces, IsLeft, IsSoundPart, HasOver, ArePartTrees, Building}
use Rattle.vc_index.specs.FolderTrees.{NamesAll, AreJoined, AreFolderTrees}
use Rattle.vc_index.specs.HeldFiles.{Pair, under, HasFile, placed}
use Rattle.vc_index.specs.IndexMap.{IndexMap, index_entry}
use Rattle.vc_index.specs.Part.{EndsInSlash, part_entry, part_pair}
use Rattle.vc_index.specs.Path.{names_in, IsAbove}
use Rattle.vc_index.specs.TreeFiles.{IsTreeAt}
use Rattle.vc_index.specs.WrittenTrees.{tree_object, Holds, IsTreeOf, IsOfFolder, IsPart, AreLowerTrees}
use Rattle.vc_index.specs.declared.trees.Part.{Part}
use Rattle.vc_index.proofs.CoverLemmas.{over_front, over_back, over_parts, over_before, over_after, over_named, over_closed}
use Rattle.vc_index.proofs.FileLemmas.{has_front, has_back, has_parts, opened, closed}
use Rattle.vc_index.proofs.FolderLemmas.{joined_parts, joined_push, joined_entries, parts_more}
use Rattle.vc_index.proofs.PlaceLemmas.{entries_order, places_closed, places_parts, part_place, front_places, back_places}
use Rattle.vc_lemmas.proofs.Lists.{all_append, all_map}

-- ---- lists
pub more_inside : {X : Type 0} (P : X → Type 0) (xs : List X) (n : ℕ) (d : X) → 0 < n → n ≤ length xs → P (get_or xs (n - 1) d) → AllByRecursion P (drop n xs) → AllByRecursion P (drop (n - 1) xs)
more_inside P xs n d some fits p all =
    let next : n - 1 + 1 ≡ n = omega arith in
    subst (AllByRecursion P) (sym (drop_more xs (n - 1) d (omega arith) ∙ ap (λ k. get_or xs (n - 1) d ∷ drop k xs) next)) (p, all)

pub all_parts : {X : Type 0} (P : X → Type 0) (xs ys : List X) → AllByRecursion P (xs ++ ys) → AllByRecursion P xs × AllByRecursion P ys
all_parts P [] ys a = (tt, a)
all_parts P (x ∷ xs) ys a = let r = all_parts P xs ys a.1 in ((a.0, r.0), r.1)

all_both : {X : Type 0} (P Q : X → Type 0) (xs : List X) → AllByRecursion P xs → AllByRecursion Q xs → AllByRecursion (λ x. P x × Q x) xs
all_both P Q [] a b = tt
all_both P Q (x ∷ xs) a b = ((a.0, b.0), all_both P Q xs a.1 b.1)

pub all_over : {X Y : Type 0} (f : X → Y) (P : Y → Type 0) (xs : List X) → AllByRecursion (λ x. P (f x)) xs → AllByRecursion P (map f xs)
all_over f P [] a = tt
all_over f P (x ∷ xs) a = (a.0, all_over f P xs a.1)

pub map_join : {X Y : Type 0} (f : X → Y) (xs ys : List X) → map f (xs ++ ys) ≡ map f xs ++ map f ys
map_join f [] ys = refl
map_join f (x ∷ xs) ys = ap (λ r. f x ∷ r) (map_join f xs ys)

-- a list is empty, or has a last element
pub by_last : {X : Type 0} (xs : List X) → (xs ≡ []) ⊎ ((front : List X) × (x : X) × (xs ≡ front ++ x ∷ []))
by_last [] = inl refl
by_last (x ∷ xs) = inr (⊎_elim (λ none. ([], x, ap (λ r. x ∷ r) none)) (λ l. (x ∷ l.0, l.1, ap (λ r. x ∷ r) l.2)) (by_last xs))

get_at : {X : Type 0} (xs : List X) (x : X) (n : ℕ) → n ≡ length xs → slice_get (xs ++ x ∷ []) n ≡ Some x
get_at [] x n e = ap (slice_get (x ∷ [])) e
get_at (y ∷ xs) x n e = ap (slice_get (y ∷ (xs ++ x ∷ []))) e ∙ get_at xs x (length xs) refl

pub last_get : {X : Type 0} (xs : List X) (x : X) → slice_get (xs ++ x ∷ []) (length (xs ++ x ∷ []) - 1) ≡ Some x
last_get xs x = get_at xs x (length (xs ++ x ∷ []) - 1) (omega (arith, length-append xs (x ∷ [])))

-- the last element, as it is looked up
pub got_last : {X : Type 0} (xs : List X) (x : X) → slice_get xs (length xs - 1) ≡ Some x → (front : List X) × (xs ≡ front ++ x ∷ [])
got_last xs x e = ⊎_elim
    (λ none. absurd (let z = ap (λ (l : List _). slice_get l (length l - 1)) (sym none) ∙ e in cc z))
    (λ l.
    let same : Some l.1 ≡ Some x = sym (last_get l.0 l.1) ∙ ap (λ (k : List _). slice_get k (length k - 1)) (sym l.2) ∙ e in
    let eq : l.1 ≡ x = cc same in
    (l.0, l.2 ∙ ap (λ y. l.0 ++ y ∷ []) eq))
    (by_last xs)

-- ---- texts that begin texts
same_end : (f z front : List ℕ) → f ++ z ≡ front ++ 47 ∷ [] → z ≢ [] → (y : List ℕ) × (z ≡ y ++ 47 ∷ [])
same_end [] z front e some = (front, e)
same_end (x ∷ f) z [] e some = absurd (some (no_rest f z (let t : f ++ z ≡ [] = cc e in t)))
  where
    no_rest : (a b : List ℕ) → a ++ b ≡ [] → b ≡ []
    no_rest [] b e = e
    no_rest (x ∷ a) b e = absurd (cc e)
same_end (x ∷ f) z (y ∷ front) e some = let t : f ++ z ≡ front ++ 47 ∷ [] = cc e in same_end f z front t some

is_nothing : (z : List ℕ) → (z ≡ []) ⊎ (z ≢ [])
is_nothing [] = inl refl
is_nothing (x ∷ z) = inr (λ e. cc e)

-- a text that ends in a slash and begins a path begins the path's folder
pub folder_begins : (f t folder name : List ℕ) → EndsInSlash f → f ++ t ≡ folder ++ name → Without 47 name → Begins f folder
folder_begins f t folder name ends e plain = ⊎_elim
    (λ h. ⊎_elim
    (λ none. ([], sym (h.1 ∙ ap (λ z. folder ++ z) none ∙ append-nil folder) ∙ sym (append-nil f)))
    (λ some. ⊎_elim
    (λ empty. (folder, ap (λ x. x ++ folder) (sym empty)))
    (λ slash.
    let y = same_end folder h.0 slash.0 (sym h.1 ∙ slash.1) some in
    absurd (no_cut 47 _ y.0 t plain (h.2 ∙ ap (λ z. z ++ t) y.1 ∙ append_assoc y.0 (47 ∷ []) t)))
    ends)
    (is_nothing h.0))
    (λ h. (h.0, h.1))
    (agreeing f folder t name e)

-- a text that begins a folder and is shorter begins the folder's path
pub shorter_begins : (f d : List ℕ) → Begins f (d ++ 47 ∷ []) → length f < length (d ++ 47 ∷ []) → Begins f d
shorter_begins f d b short = ⊎_elim
    (λ h.
    let none : length h.0 ≡ 0 = omega (arith, short, ap length h.1, length-append d h.0, length-append d (47 ∷ [])) in
    ([], sym (h.1 ∙ ap (λ z. d ++ z) (empty h.0 none) ∙ append-nil d) ∙ sym (append-nil f)))
    (λ h. (h.0, h.1))
    (agreeing f d b.0 (47 ∷ []) (sym b.1))
  where
    empty : (z : List ℕ) → length z ≡ 0 → z ≡ []
    empty [] e = refl
    empty (x ∷ z) e = absurd (omega arith)

pub begins_trans : (a b c : List ℕ) → Begins a b → Begins b c → Begins a c
begins_trans a b c p q = (p.0 ++ q.0, q.1 ∙ ap (λ x. x ++ q.0) p.1 ∙ append_assoc a p.0 q.0)

begins_length : (a b : List ℕ) → Begins a b → length a ≤ length b
begins_length a b p = omega (arith, ap length p.1, length-append a p.0)

begins_same : (a b : List ℕ) → Begins a b → length a ≡ length b → a ≡ b
begins_same a b p e =
    let none : length p.0 ≡ 0 = omega (arith, e, ap length p.1, length-append a p.0) in
    sym (p.1 ∙ ap (λ z. a ++ z) (empty p.0 none) ∙ append-nil a)
  where
    empty : (z : List ℕ) → length z ≡ 0 → z ≡ []
    empty [] e = refl
    empty (x ∷ z) e = absurd (omega arith)

-- ---- names
split_some : (path : List ℕ) → (part : List ℕ) × (parts : List (List ℕ)) × (names_in path ≡ part ∷ parts)
split_some [] = ([], [], refl)
split_some (x ∷ path) = elim (x == 47) as (λ b. (part : List ℕ) × (parts : List (List ℕ)) × (cond b ([] ∷ names_in path) (onto_first x (names_in path)) ≡ part ∷ parts)) [
  | true ↦ ([], names_in path, refl)
  | false ↦ let r = split_some path in (x ∷ r.0, r.1, ap (onto_first x) r.2)
]

onto_join : (x : ℕ) (ps qs : List (List ℕ)) → (part : List ℕ) × (parts : List (List ℕ)) × (ps ≡ part ∷ parts) → onto_first x (ps ++ qs) ≡ onto_first x ps ++ qs
onto_join x ps qs s = ap (λ l. onto_first x (l ++ qs)) s.2 ∙ ap (λ l. onto_first x l ++ qs) (sym s.2)

-- the names before and after a slash
pub names_cut : (a b : List ℕ) → names_in (a ++ 47 ∷ b) ≡ names_in a ++ names_in b
names_cut [] b = refl
names_cut (x ∷ a) b =
    ap (λ l. cond (x == 47) ([] ∷ l) (onto_first x l)) (names_cut a b)
    ∙ elim (x == 47) as (λ t. cond t ([] ∷ (names_in a ++ names_in b)) (onto_first x (names_in a ++ names_in b)) ≡ cond t ([] ∷ names_in a) (onto_first x (names_in a)) ++ names_in b) [
      | true ↦ refl
      | false ↦ onto_join x (names_in a) (names_in b) (split_some a)
    ]

pub names_plain : (n : List ℕ) → Without 47 n → names_in n ≡ n ∷ []
names_plain [] w = refl
names_plain (x ∷ n) w = ap (λ b. cond b ([] ∷ names_in n) (onto_first x (names_in n))) (ne-eqb x 47 w.0) ∙ ap (onto_first x) (names_plain n w.1)

-- the names of a folder's path, and the name in it
pub names_parted : (d n : List ℕ) → Without 47 n → names_in ((d ++ 47 ∷ []) ++ n) ≡ names_in d ++ n ∷ []
names_parted d n w = ap names_in (append_assoc d (47 ∷ []) n) ∙ names_cut d n ∙ ap (λ l. names_in d ++ l) (names_plain n w)

pub last_name : (folder n : List ℕ) → EndsInSlash folder → Without 47 n → AllByRecursion IsName (names_in (folder ++ n)) → IsName n
last_name folder n ends w all = ⊎_elim
    (λ none. let l = subst (AllByRecursion IsName) (ap (λ f. names_in (f ++ n)) none ∙ names_plain n w) all in l.0)
    (λ s. let l = subst (AllByRecursion IsName) (ap (λ f. names_in (f ++ n)) s.1 ∙ names_parted s.0 n w) all in (all_parts IsName (names_in s.0) (n ∷ []) l).1.0)
    ends

folder_names : (d n : List ℕ) → Without 47 n → AllByRecursion IsName (names_in ((d ++ 47 ∷ []) ++ n)) → AllByRecursion IsName (names_in d)
folder_names d n w all = (all_parts IsName (names_in d) (n ∷ []) (subst (AllByRecursion IsName) (names_parted d n w) all)).0

-- ---- nested folders
pub nested_last : (front : List Part) (last : Part) → Nested (front ++ last ∷ []) → AllByRecursion (λ g. Begins g.folder.now last.folder.now) front
nested_last [] last n = tt
nested_last (g ∷ front) last n = ((all_parts (λ (h : Part). Begins g.folder.now h.folder.now) front (last ∷ []) n.0).1.0, nested_last front last n.1)

nested_front : (xs ys : List Part) → Nested (xs ++ ys) → Nested xs
nested_front [] ys n = tt
nested_front (g ∷ xs) ys n = ((all_parts (λ (h : Part). Begins g.folder.now h.folder.now) xs ys n.0).0, nested_front xs ys n.1)

pub nested_push : (front : List Part) (part : Part) → Nested front → AllByRecursion (λ g. Begins g.folder.now part.folder.now) front → Nested (front ++ part ∷ [])
nested_push [] part n a = (tt, tt)
nested_push (g ∷ front) part n a = (all_append (λ (h : Part). Begins g.folder.now h.folder.now) front (part ∷ []) n.0 (a.0, tt), nested_push front part n.1 a.1)

-- ---- trees that are stored
pub tree_more : (trees more : List (List Entry)) (id : ObjectId) → IsTreeOf trees id → IsTreeOf (trees ++ more) id
tree_more [] more id h = absurd h
tree_more (t ∷ trees) more id h = ⊎_elim (λ x. inl x) (λ x. inr (tree_more trees more id x)) h

tree_last : (trees : List (List Entry)) (es : List Entry) → IsTreeOf (trees ++ es ∷ []) (object_name kinds.Tree (spelling es))
tree_last [] es = inl refl
tree_last (t ∷ trees) es = inr (tree_last trees es)

part_more : (files : IndexMap) (trees more : List (List Entry)) (e : Entry) → IsPart files trees e → IsPart files (trees ++ more) e
part_more files trees more e h = ⊎_elim (λ t. inl (t.0, tree_more trees more e.id t.1)) (λ f. inr f) h

pub holds_parts : (objects : ObjectMap) (trees more : List (List Entry)) → Holds objects (trees ++ more) → Holds objects trees × Holds objects more
holds_parts objects trees more h = all_parts (λ (es : List Entry). objects (object_name kinds.Tree (spelling es)) ≡ Some (tree_object es)) trees more h

lower_more : (files : IndexMap) (before trees : List (List Entry)) (es : List Entry) → AreLowerTrees files before trees → es ≢ [] → IsTree es → AllByRecursion (IsPart files (before ++ trees)) es → AreLowerTrees files before (trees ++ es ∷ [])
lower_more files before [] es h some tree parts = (some, tree, subst (λ (b : List (List Entry)). AllByRecursion (IsPart files b) es) (append-nil before) parts, tt)
lower_more files before (t ∷ trees) es h some tree parts = (h.0, h.1, h.2, lower_more files (before ++ t ∷ []) trees es h.3 some tree (subst (λ (b : List (List Entry)). AllByRecursion (IsPart files b) es) (sym (append_assoc before (t ∷ []) trees)) parts))

-- ---- a folder is closed
pub part_IsEntry : (files : IndexMap) (trees : List (List Entry)) (g : Part) → IsSoundPart files trees g → IsEntry (part_entry g)
part_IsEntry files trees g s = record { name = last_name g.folder.now g.name.now s.ends s.plain s.names; id = s.id }

sound_more : (files : IndexMap) (trees more : List (List Entry)) (g : Part) → IsSoundPart files trees g → IsSoundPart files (trees ++ more) g
sound_more files trees more g s = record { names = s.names; plain = s.plain; ends = s.ends; id = s.id; of_folder = s.of_folder; leads = part_more files trees more (part_entry g) s.leads }

pub placed_run : (folder : List ℕ) (run : List Part) → AllByRecursion (λ g. g.folder.now ≡ folder) run → map part_pair run ≡ map (placed folder) (map part_entry run)
placed_run folder [] a = refl
placed_run folder (g ∷ run) a = λ i. (a.0 i ++ g.name.now, g.entry) ∷ placed_run folder run a.1 i

pub under_some : (d : List ℕ) → d ≢ [] → under d ≡ d ++ 47 ∷ []
under_some [] n = absurd (n refl)
under_some (x ∷ d) n = refl

-- the parts of one folder are a tree's entries
pub run_tree : (files : IndexMap) (trees : List (List Entry)) (folder : List ℕ) (run : List Part) → AllByRecursion (IsSoundPart files trees) run → AllByRecursion (λ g. g.folder.now ≡ folder) run → InPlaces (map part_pair run) → IsTree (map part_entry run)
run_tree files trees folder run sound at order = record {
  legal = all_over part_entry IsEntry run (all_map (IsSoundPart files trees) (λ g. IsEntry (part_entry g)) run (part_IsEntry files trees) sound);
  order = entries_order folder run at order;
}

pub of_one_folder : (files : IndexMap) (trees : List (List Entry)) (folder : List ℕ) (run : List Part) → AllByRecursion (IsSoundPart files trees) run → AllByRecursion (λ g. g.folder.now ≡ folder) run → AllByRecursion (IsOfFolder files folder) (map part_entry run)
of_one_folder files trees folder run sound at = all_over part_entry (IsOfFolder files folder) run
    (all_map (λ g. IsSoundPart files trees g × (g.folder.now ≡ folder)) (λ g. IsOfFolder files folder (part_entry g)) run (λ g h. subst (λ (f : List ℕ). IsOfFolder files f (part_entry g)) h.1 h.0.of_folder) (all_both (IsSoundPart files trees) (λ g. g.folder.now ≡ folder) run sound at))

module _ (files : IndexMap) (trees : List (List Entry)) (rest : List Pair) (before run : List Part) (front : List Part) (last : Part) (d : List ℕ)
    (b : Building files trees (before ++ run) rest)
    (ends : run ≡ front ++ last ∷ [])
    (folder : last.folder.now ≡ d ++ 47 ∷ [])
    (inside : AllByRecursion (λ g. length g.folder.now ≡ length (d ++ 47 ∷ [])) run)
    (above : (fs : List Part) (g : Part) → before ≡ fs ++ g ∷ [] → length g.folder.now ≢ length (d ++ 47 ∷ []))
  where
    abbrev es : List Entry
    es = map part_entry run

    whole : Nested ((before ++ front) ++ last ∷ [])
    whole = subst Nested (ap (λ r. before ++ r) ends ∙ sym (append_assoc before front (last ∷ []))) b.nested

    -- all parts begin the folder that is closed
    fronts : AllByRecursion (λ g. Begins g.folder.now (d ++ 47 ∷ [])) (before ++ run)
    fronts =
        let f = subst (λ (t : List ℕ). AllByRecursion (λ (g : Part). Begins g.folder.now t) (before ++ front)) folder (nested_last (before ++ front) last whole) in
        let l = subst (λ (gs : List Part). AllByRecursion (λ (g : Part). Begins g.folder.now (d ++ 47 ∷ [])) gs) (append_assoc before front (last ∷ []) ∙ ap (λ r. before ++ r) (sym ends)) (all_append (λ (g : Part). Begins g.folder.now (d ++ 47 ∷ [])) (before ++ front) (last ∷ []) f (([], sym folder ∙ sym (append-nil last.folder.now)), tt)) in
        l

    in_folder : AllByRecursion (λ g. g.folder.now ≡ d ++ 47 ∷ []) run
    in_folder = all_map (λ g. Begins g.folder.now (d ++ 47 ∷ []) × (length g.folder.now ≡ length (d ++ 47 ∷ []))) (λ g. g.folder.now ≡ d ++ 47 ∷ []) run
        (λ g h. begins_same g.folder.now (d ++ 47 ∷ []) h.0 h.1)
        (all_both (λ g. Begins g.folder.now (d ++ 47 ∷ [])) (λ g. length g.folder.now ≡ length (d ++ 47 ∷ [])) run (all_parts (λ (g : Part). Begins g.folder.now (d ++ 47 ∷ [])) before run fronts).1 inside)

    before_fronts : AllByRecursion (λ g. Begins g.folder.now (d ++ 47 ∷ [])) before
    before_fronts = (all_parts (λ (g : Part). Begins g.folder.now (d ++ 47 ∷ [])) before run fronts).0

    -- what lies before lies in folders above
    pub shorter : AllByRecursion (λ g. length g.folder.now < length (d ++ 47 ∷ [])) before
    shorter = ⊎_elim
        (λ none. subst (AllByRecursion (λ g. length g.folder.now < length (d ++ 47 ∷ []))) (sym none) tt)
        (λ l.
        let at = subst (λ (gs : List Part). AllByRecursion (λ (g : Part). Begins g.folder.now (d ++ 47 ∷ [])) gs) l.2 before_fronts in
        let lb = (all_parts (λ (g : Part). Begins g.folder.now (d ++ 47 ∷ [])) l.0 (l.1 ∷ []) at).1.0 in
        let apart = above l.0 l.1 l.2 in
        let less : length l.1.folder.now < length (d ++ 47 ∷ []) = let k = begins_length l.1.folder.now (d ++ 47 ∷ []) lb in omega (arith, k, apart) in
        let nest = nested_last l.0 l.1 (subst Nested l.2 (nested_front before run b.nested)) in
        subst (AllByRecursion (λ g. length g.folder.now < length (d ++ 47 ∷ []))) (sym l.2)
        (all_append (λ (g : Part). length g.folder.now < length (d ++ 47 ∷ [])) l.0 (l.1 ∷ [])
        (all_map (λ g. Begins g.folder.now l.1.folder.now) (λ g. length g.folder.now < length (d ++ 47 ∷ [])) l.0 (λ g h. let k = begins_length g.folder.now l.1.folder.now h in omega (arith, k, less)) nest)
        (less, tt)))
        (by_last before)

    each_before : AllByRecursion (IsSoundPart files trees) before
    each_before = (all_parts (IsSoundPart files trees) before run b.each).0

    each_run : AllByRecursion (IsSoundPart files trees) run
    each_run = (all_parts (IsSoundPart files trees) before run b.each).1

    last_sound : IsSoundPart files trees last
    last_sound = (all_parts (IsSoundPart files trees) front (last ∷ []) (subst (AllByRecursion (IsSoundPart files trees)) ends each_run)).1.0

    d_names : AllByRecursion IsName (names_in d)
    d_names = folder_names d last.name.now last_sound.plain (subst (λ (f : List ℕ). AllByRecursion IsName (names_in (f ++ last.name.now))) folder last_sound.names)

    d_some : d ≢ []
    d_some none = let n : AllByRecursion IsName (names_in []) = subst (λ (p : List ℕ). AllByRecursion IsName (names_in p)) none d_names in n.0.some refl

    grouped : InPlaces (map part_pair before ++ (map part_pair run ++ rest))
    grouped = subst InPlaces (ap (λ l. l ++ rest) (map_join part_pair before run) ∙ append_assoc (map part_pair before) (map part_pair run) rest) b.order

    run_some : es ≢ []
    run_some e = let z : map part_entry front ++ part_entry last ∷ [] ≡ [] = sym (map_join part_entry front (last ∷ [])) ∙ ap (map part_entry) (sym ends) ∙ e in not_push (map part_entry front) (part_entry last) z
      where
        not_push : (xs : List Entry) (x : Entry) → xs ++ x ∷ [] ≡ [] → ⊥
        not_push [] x e = cc e
        not_push (y ∷ xs) x e = cc e

    run_order : InPlaces (map part_pair run)
    run_order = front_places (map part_pair run) rest (back_places (map part_pair before) (map part_pair run ++ rest) grouped)

    -- the parts are a tree's entries
    pub tree : IsTree es
    tree = run_tree files trees (d ++ 47 ∷ []) run each_run in_folder run_order

    pub run_of_folder : AllByRecursion (IsOfFolder files (d ++ 47 ∷ [])) es
    run_of_folder = of_one_folder files trees (d ++ 47 ∷ []) run each_run in_folder

    -- a file of the index lies in the folder
    has_file : (path : List ℕ) × IsSome (get files path) × IsAbove d path
    has_file = ⊎_elim
        (λ file. ((d ++ 47 ∷ []) ++ last.name.now, ap is_some (ap (λ f. get files (f ++ last.name.now)) (sym folder) ∙ file.1), (last.name.now, append_assoc d (47 ∷ []) last.name.now)))
        (λ tree.
        let above = tree.1.2 in
        (tree.1.0, tree.1.1, (last.name.now ++ 47 ∷ above.0, above.1 ∙ ap (λ f. (f ++ last.name.now) ++ 47 ∷ above.0) folder ∙ append_assoc (d ++ 47 ∷ []) last.name.now (47 ∷ above.0) ∙ append_assoc d (47 ∷ []) (last.name.now ++ 47 ∷ above.0))))
        last_sound.of_folder

    pub run_parts : AllByRecursion (IsPart files trees) es
    run_parts = all_over part_entry (IsPart files trees) run (all_map (IsSoundPart files trees) (λ g. IsPart files trees (part_entry g)) run (λ g s. s.leads) each_run)

    pub below_new : AreLowerTrees files [] (trees ++ map part_entry run ∷ [])
    below_new = lower_more files [] trees es b.below run_some tree run_parts

    pairs : map part_pair run ≡ map (placed (under d)) es
    pairs = placed_run (d ++ 47 ∷ []) run in_folder ∙ ap (λ f. map (placed f) es) (sym (under_some d d_some))

    -- the tree in place of the parts
    module _ (new : Part)
        (is_new : new.folder.now ++ new.name.now ≡ d)
        (plain_new : Without 47 new.name.now)
        (ends_new : EndsInSlash new.folder.now)
        (entry_new : new.entry ≡ index_entry modes.Tree (object_name kinds.Tree (spelling (map part_entry run))))
        (long : length new.entry.id.0 ≡ 20)
        (left : IsLeft (d ++ 47 ∷ []) rest)
      where
        new_sound : IsSoundPart files (trees ++ es ∷ []) new
        new_sound = record {
          names = subst (λ (p : List ℕ). AllByRecursion IsName (names_in p)) (sym is_new) d_names;
          plain = plain_new;
          ends = ends_new;
          id = long;
          of_folder = inr (ap (λ e. e.mode) entry_new, (has_file.0, has_file.1, subst (λ (p : List ℕ). IsAbove p has_file.0) (sym is_new) has_file.2));
          leads = inl (ap (λ e. e.mode) entry_new, subst (λ (i : ObjectId). IsTreeOf (trees ++ es ∷ []) i) (sym (ap (λ e. e.id) entry_new)) (tree_last trees es));
        }

        nested_new : Nested (before ++ new ∷ [])
        nested_new = nested_push before new (nested_front before run b.nested)
            (all_map (λ g. (Begins g.folder.now (d ++ 47 ∷ []) × (length g.folder.now < length (d ++ 47 ∷ []))) × IsSoundPart files trees g) (λ g. Begins g.folder.now new.folder.now) before
            (λ g h.
            let short = shorter_begins g.folder.now d h.0.0 h.0.1 in
            folder_begins g.folder.now short.0 new.folder.now new.name.now h.1.ends (sym short.1 ∙ sym is_new) plain_new)
            (all_both (λ g. Begins g.folder.now (d ++ 47 ∷ []) × (length g.folder.now < length (d ++ 47 ∷ []))) (IsSoundPart files trees) before (all_both (λ g. Begins g.folder.now (d ++ 47 ∷ [])) (λ g. length g.folder.now < length (d ++ 47 ∷ [])) before before_fronts shorter) each_before))

        pair_new : part_pair new ≡ (d, index_entry modes.Tree (object_name kinds.Tree (spelling es)))
        pair_new i = (is_new i, entry_new i)

        grouped_pairs : map part_pair (before ++ new ∷ []) ++ rest ≡ map part_pair before ++ ((d, index_entry modes.Tree (object_name kinds.Tree (spelling es))) ∷ rest)
        grouped_pairs = ap (λ l. l ++ rest) (map_join part_pair before (new ∷ []) ∙ ap (λ p. map part_pair before ++ p ∷ []) pair_new) ∙ append_assoc (map part_pair before) ((d, index_entry modes.Tree (object_name kinds.Tree (spelling es))) ∷ []) rest

        -- what lies before lies not in the folder
        outside : AllByRecursion (λ g. Begins (d ++ 47 ∷ []) (g.folder.now ++ g.name.now) → ⊥) before
        outside = all_map (λ g. (length g.folder.now < length (d ++ 47 ∷ [])) × IsSoundPart files trees g) (λ g. Begins (d ++ 47 ∷ []) (g.folder.now ++ g.name.now) → ⊥) before
            (λ g h begins.
            let into = folder_begins (d ++ 47 ∷ []) begins.0 g.folder.now g.name.now (inr (d, refl)) (sym begins.1) h.1.plain in
            let n = begins_length (d ++ 47 ∷ []) g.folder.now into in
            omega (arith, n, h.0))
            (all_both (λ g. length g.folder.now < length (d ++ 47 ∷ [])) (IsSoundPart files trees) before shorter each_before)

        place_last : place (part_pair last) ≡ (d ++ 47 ∷ []) ++ key last.entry.mode last.name.now
        place_last = part_place last ∙ ap (λ f. f ++ key last.entry.mode last.name.now) folder

        by_place : InPlaces (map part_pair before ++ (map part_pair front ++ part_pair last ∷ rest))
        by_place = subst (λ (l : List Pair). InPlaces (map part_pair before ++ l)) (ap (λ l. map part_pair l ++ rest) ends ∙ ap (λ l. l ++ rest) (map_join part_pair front (last ∷ [])) ∙ append_assoc (map part_pair front) (part_pair last ∷ []) rest) grouped

        closed_order : InPlaces (map part_pair before ++ (d, index_entry modes.Tree (object_name kinds.Tree (spelling es))) ∷ rest)
        closed_order = places_closed d (part_pair last) (key last.entry.mode last.name.now) place_last (object_name kinds.Tree (spelling es)) (map part_pair before) (map part_pair front) rest by_place (all_over part_pair (λ (a : Pair). Begins (d ++ 47 ∷ []) a.0 → ⊥) before outside) left

        -- under which pairs the files of the index stand
        covered : (path : List ℕ) → IsSome (get files path) → HasOver (map part_pair before) path ⊎ HasOver (map part_pair run ++ rest) path
        covered path some = over_parts (map part_pair before) (map part_pair run ++ rest) path
            (subst (λ (l : List Pair). HasOver l path) (ap (λ l. l ++ rest) (map_join part_pair before run) ∙ append_assoc (map part_pair before) (map part_pair run) rest) (b.covers path some))

        placed_in : map part_pair run ≡ map (placed (d ++ 47 ∷ [])) es
        placed_in = placed_run (d ++ 47 ∷ []) run in_folder

        by_new : InPlaces (map part_pair before) × AllByRecursion (λ a. AllByRecursion (ComesFirst a) ((d, index_entry modes.Tree (object_name kinds.Tree (spelling es))) ∷ rest)) (map part_pair before) × InPlaces ((d, index_entry modes.Tree (object_name kinds.Tree (spelling es))) ∷ rest)
        by_new = places_parts (map part_pair before) ((d, index_entry modes.Tree (object_name kinds.Tree (spelling es))) ∷ rest) closed_order

        -- the files in the folder stand under its entries
        names_new : NamesAll files (d ++ 47 ∷ []) es
        names_new path name some first = ⊎_elim
            (λ x. absurd (over_before d (object_name kinds.Tree (spelling es)) path (map part_pair before) rest by_new.1 (all_over part_pair (λ (a : Pair). Begins (d ++ 47 ∷ []) a.0 → ⊥) before outside) x))
            (λ x. ⊎_elim
            (λ y. over_named (d ++ 47 ∷ []) path name es tree.legal first (subst (λ (l : List Pair). HasOver l ((d ++ 47 ∷ []) ++ path)) placed_in y))
            (λ y. absurd (over_after d (object_name kinds.Tree (spelling es)) path rest by_new.2.0 y))
            (over_parts (map part_pair run) rest ((d ++ 47 ∷ []) ++ path) x))
            (covered ((d ++ 47 ∷ []) ++ path) some)

        covers_new : (path : List ℕ) → IsSome (get files path) → HasOver (map part_pair (before ++ new ∷ []) ++ rest) path
        covers_new path some = subst (λ (l : List Pair). HasOver l path) (sym grouped_pairs) (⊎_elim
            (λ x. over_front (map part_pair before) _ path x)
            (λ x. over_back (map part_pair before) _ path (⊎_elim
            (λ y. inl (inr (over_closed d path es (subst (λ (l : List Pair). HasOver l path) placed_in y))))
            (λ y. inr y)
            (over_parts (map part_pair run) rest path x)))
            (covered path some))

        -- the trees of the folder: those of its parts, and its own
        folder_new : (own : List (List Entry)) → AreJoined (ArePartTrees files b.levels) run own → AreFolderTrees (suc b.levels) files ((new.folder.now ++ new.name.now) ++ 47 ∷ []) (own ++ es ∷ []) es
        folder_new own joined = subst (λ (p : List ℕ). AreFolderTrees (suc b.levels) files (p ++ 47 ∷ []) (own ++ es ∷ []) es) (sym is_new)
            (record { below = own; is = refl; tree = tree; names = names_new; joined = joined_entries files b.levels (d ++ 47 ∷ []) run own in_folder joined })

        listed_new : AreJoined (ArePartTrees files (suc b.levels)) (before ++ new ∷ []) (trees ++ es ∷ [])
        listed_new =
            let j = joined_parts (ArePartTrees files b.levels) before run trees b.listed in
            subst (λ (ts : List (List Entry)). AreJoined (ArePartTrees files (suc b.levels)) (before ++ new ∷ []) ts) (sym (append_assoc j.0 j.1 (es ∷ [])) ∙ ap (λ l. l ++ es ∷ []) (sym j.2))
            (joined_push (ArePartTrees files (suc b.levels)) before new j.0 (j.1 ++ es ∷ []) (parts_more files b.levels before j.0 j.3)
            (inr (ap (λ e. e.mode) entry_new, (es, run_some, ap (λ e. e.id) entry_new, folder_new j.1 j.4))))

        module _ (objects : ObjectMap) (held : Holds objects (trees ++ es ∷ [])) (path : List ℕ) (mode : Mode) (id : ObjectId) where
          there : IsTreeAt objects (object_name kinds.Tree (spelling es)) es
          there = record { stored = (holds_parts objects trees (es ∷ []) held).1.0; tree = tree }

          old_files : HasFile objects (map part_pair (before ++ run) ++ rest) path mode id ↔ (get files path ≡ Some (index_entry mode id))
          old_files = b.same_files objects (holds_parts objects trees (es ∷ []) held).0 path mode id

          grouped_old : map part_pair (before ++ run) ++ rest ≡ map part_pair before ++ (map (placed (under d)) es ++ rest)
          grouped_old = ap (λ l. l ++ rest) (map_join part_pair before run ∙ ap (λ l. map part_pair before ++ l) pairs) ∙ append_assoc (map part_pair before) (map (placed (under d)) es) rest

          forth : HasFile objects (map part_pair (before ++ new ∷ []) ++ rest) path mode id → HasFile objects (map part_pair (before ++ run) ++ rest) path mode id
          forth h = subst (λ (l : List Pair). HasFile objects l path mode id) (sym grouped_old) (⊎_elim
              (λ x. has_front objects path mode id (map part_pair before) _ x)
              (λ x. has_back objects path mode id (map part_pair before) _ (⊎_elim
              (λ y. has_front objects path mode id (map (placed (under d)) es) rest (opened objects path mode id d (object_name kinds.Tree (spelling es)) es there y))
              (λ y. has_back objects path mode id (map (placed (under d)) es) rest y)
              x))
              (has_parts objects path mode id (map part_pair before) _ (subst (λ (l : List Pair). HasFile objects l path mode id) grouped_pairs h)))

          back : HasFile objects (map part_pair (before ++ run) ++ rest) path mode id → HasFile objects (map part_pair (before ++ new ∷ []) ++ rest) path mode id
          back h = subst (λ (l : List Pair). HasFile objects l path mode id) (sym grouped_pairs) (⊎_elim
              (λ x. has_front objects path mode id (map part_pair before) _ x)
              (λ x. has_back objects path mode id (map part_pair before) _ (⊎_elim
              (λ y. inl (closed objects path mode id d (object_name kinds.Tree (spelling es)) es there y))
              (λ y. inr y)
              (has_parts objects path mode id (map (placed (under d)) es) rest x)))
              (has_parts objects path mode id (map part_pair before) _ (subst (λ (l : List Pair). HasFile objects l path mode id) grouped_old h)))

          new_files : HasFile objects (map part_pair (before ++ new ∷ []) ++ rest) path mode id ↔ (get files path ≡ Some (index_entry mode id))
          new_files = (λ h. old_files.0 (forth h), λ g. back (old_files.1 g))

        -- the folder is closed: its tree stands in place of its parts
        pub building_new : Building files (trees ++ map part_entry run ∷ []) (before ++ new ∷ []) rest
        building_new = record {
          same_files = new_files;
          below = below_new;
          each = all_append (IsSoundPart files (trees ++ es ∷ [])) before (new ∷ []) (all_map (IsSoundPart files trees) (IsSoundPart files (trees ++ es ∷ [])) before (λ g s. sound_more files trees (es ∷ []) g s) each_before) (new_sound, tt);
          nested = nested_new;
          order = subst InPlaces (sym grouped_pairs) closed_order;
          levels = suc b.levels;
          listed = listed_new;
          covers = covers_new;
          index = b.index;
          walked = b.walked;
        }
