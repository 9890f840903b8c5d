-- The trees of an index are as the machine asks of its rules.
use Rattle.std.proofs.Common.{◌≡◌, ◌≢◌, ◌⊎◌, inl, inr, ℕ, zero, suc, Bool, true, false, cond, List, ◌∷◌, ◌++◌, map, Option, Some, None, Ok, Err, ◌==◌, if◌then◌else◌, refl, sym, ap, ◌∙◌, subst, Contains, arith, []}
use Rattle.std.specs.Prelude.{option_map, IsSome, unwrap_or, bytes_eq}
use Rattle.std.specs.FinMap.{get, same_map, slice_cmp-IsAntisymmetric, nat_cmp-IsAntisymmetric}
use Rattle.std.specs.Cmp.Lexicographic.{nat_list_cmp_total}
use Rattle.std.specs.List.{AllByRecursion}
use Rattle.std.proofs.lemmas.List.Elements.{Contains-append_right, Contains-append_cases, Contains-push_cases}
use Rattle.std.proofs.lemmas.Slice.Eq.{bytes_eq-Decides}
use Rattle.vc_format.specs.Git.{kind_of, id_of_bytes, bytes_of_id}
use Rattle.vc_index.specs.FolderTrees.{AllFit, AreIndexTrees, AreJoined, AreEntryTrees, AreFolderTrees}
use Rattle.vc_index.specs.IndexMap.{IndexMap, index_entry}
use Rattle.vc_index.specs.TreeFiles.{HasEntry}
use Rattle.vc_index.specs.WrittenTrees.{IsTreeOf, IsPart, tree_object}
use Rattle.vc_index.specs.declared.entry.IndexEntry.{IndexEntry}
use Rattle.vc_index.proofs.OneListLemmas.{one_list}
use Rattle.vc_index.proofs.PartLemmas.{tree_more}
use Rattle.vc_lemmas.proofs.Lists.{all_append}
use Rattle.vc_model.specs.Object.{Object, Objects, Id, Kind as MachineKind, Lookup}
use Rattle.vc_model.specs.Object.Kind.{Blob, Tree, Commit, Tag}
use Rattle.vc_model.specs.Reach.{Path, Links, IsClosed}
use Rattle.vc_model.specs.Repository.{Index, Entry as MachineEntry}
use Rattle.vc_model.specs.Rules.{AreEntriesClosed, AreFound}
use Rattle.vc_object.specs.Decoding.{StoredObject}
use Rattle.vc_object.specs.Links.{entry_links, links_of}
use Rattle.vc_object.specs.Object.{object_name, IsObject}
use Rattle.vc_object.specs.ObjectMap.{ObjectMap}
use Rattle.vc_object.specs.Tree.{Entry, IsTree, spelling}
use Rattle.vc_object.specs.declared.id.ObjectId.{ObjectId}
use Rattle.vc_object.specs.declared.kind.Kind.TheVariants as kinds
use Rattle.vc_object.specs.declared.mode.Mode.{Mode}
use Rattle.vc_object.specs.declared.mode.Mode.TheVariants as modes
use Rattle.vc_object.proofs.Reading.{entries_again}
use Rattle.vc_object.proofs.IdLemmas.{id_eq-same}
use Rattle.vc_object_map.specs.Store.{with_object, with_objects}
use Rattle.vc_rules.specs.Git.{git, machine_object, stored_of, mode_number, no_objects}
use Rattle.vc_values.specs.Trees.{machine_entry, ListsTrees, HoldsTrees, ShowsIndex}
use Rattle.vc_values.specs.Laws.{IndexTreesGiveOne, IndexTreesAreNamed, IndexTreesAreFormed, IndexTreesAreClosed}
use Rattle.vc_values.proofs.TreeLaws.{IsLinked, linked}

-- ---- one answer

back_again : {X Y : Type 0} (f : X → Y) (g : Y → X) → ((x : X) → g (f x) ≡ x) → (o : Option X) → option_map g (option_map f o) ≡ o
back_again f g inverse None = refl
back_again f g inverse (Some x) = ap Some (inverse x)

-- two that are mapped to the same are the same, where there is a way back
one_before : {X Y : Type 0} (f : X → Y) (g : Y → X) → ((x : X) → g (f x) ≡ x) → (a b : Option X) → option_map f a ≡ option_map f b → a ≡ b
one_before f g inverse a b e = sym (back_again f g inverse a) ∙ ap (option_map g) e ∙ back_again f g inverse b

mode_of : ℕ → Mode
mode_of n = if n == 16384 then modes.Tree else if n == 33188 then modes.File else if n == 33204 then modes.SharedFile else if n == 33261 then modes.Executable else if n == 40960 then modes.Link else modes.Commit

mode_back : (mode : Mode) → mode_of (mode_number mode) ≡ mode
unfolding mode_of
mode_back modes.Tree = refl
mode_back modes.File = refl
mode_back modes.SharedFile = refl
mode_back modes.Executable = refl
mode_back modes.Link = refl
mode_back modes.Commit = refl

entry_of : MachineEntry → IndexEntry
entry_of e = index_entry (mode_of e.mode) (id_of_bytes e.id)

entry_back : (e : IndexEntry) → entry_of (machine_entry e) ≡ e
unfolding entry_of
entry_back e = ap (λ (mode : Mode). index_entry mode e.id) (mode_back e.mode)

object_of : StoredObject → Object
object_of q = machine_object q.kind q.body

object_back : (o : Object) → object_of (stored_of o) ≡ o
unfolding object_of
object_back o = by o.kind o.body
  where
    by : (k : MachineKind) (body : List ℕ) → machine_object (kind_of k) body ≡ record { kind = k; body = body }
    by Blob body = refl
    by Tree body = refl
    by Commit body = refl
    by Tag body = refl

-- the index of the layers is one
pub one_map : (i : Index) (m n : IndexMap) → ShowsIndex i m → ShowsIndex i n → m ≡ n
one_map i m n a b = same_map nat_list_cmp_total (slice_cmp-IsAntisymmetric nat_cmp-IsAntisymmetric) m n (λ p. one_before machine_entry entry_of entry_back (get m p) (get n p) (sym (a p) ∙ b p))

-- so are its trees
pub one_listing : (i : Index) (m n : IndexMap) (trees others : List (List Entry)) (root other : List Entry) → ListsTrees i m trees root → ListsTrees i n others other → (trees ≡ others) × (root ≡ other)
one_listing i m n trees others root other a b =
    one_list m a.sound trees others root other a.listed (subst (λ (k : IndexMap). AreIndexTrees k others other) (one_map i n m b.shows a.shows) b.listed)

pub index_trees_give_one : IndexTreesGiveOne
index_trees_give_one i (Ok t) (Ok u) a b =
    let one = one_listing i a.0 b.0 a.1 b.1 a.2 b.2 a.3 b.3 in
    let held : (x : Id) → get t.0 x ≡ get u.0 x =
    λ x. one_before stored_of object_of object_back (get t.0 x) (get u.0 x) (a.5 x ∙ ap (λ (ts : List (List Entry)). with_objects no_objects (map tree_object ts) (id_of_bytes x)) one.0 ∙ sym (b.5 x)) in
    let objects : t.0 ≡ u.0 = same_map nat_list_cmp_total (slice_cmp-IsAntisymmetric nat_cmp-IsAntisymmetric) t.0 u.0 held in
    let root : t.1 ≡ u.1 = a.6 ∙ ap (λ (es : List Entry). (object_name kinds.Tree (spelling es)).0) one.1 ∙ sym b.6 in
    λ j. Ok (objects j, root j)
index_trees_give_one i (Ok t) (Err n) a b = absurd (let one = one_listing i a.0 b.0 a.1 b.1 a.2 b.2 a.3 b.3 in b.4 (subst AllFit one.0 a.4))
index_trees_give_one i (Err n) (Ok t) a b = absurd (let one = one_listing i a.0 b.0 a.1 b.1 a.2 b.2 a.3 b.3 in a.4 (subst AllFit (sym one.0) b.4))
index_trees_give_one i (Err n) (Err k) a b = ap Err (a.5 ∙ sym b.5)

-- ---- objects that are put one after another

-- what holds of objects under their names, and of one that is put with them, holds of all
module _ (P : ObjectId → StoredObject → Type 0) where
  AllStored : ObjectMap → Type 0
  AllStored o = (id : ObjectId) (q : StoredObject) → o id ≡ Some q → P id q

  put_stored : (o : ObjectMap) (name : ObjectId) (q : StoredObject) → AllStored o → P name q → AllStored (with_object o name q)
  unfolding with_object AllStored
  put_stored o name q all p id r = by (bytes_eq id.0 name.0) refl (o name) refl
    where
      by : (b : Bool) → bytes_eq id.0 name.0 ≡ b → (found : Option StoredObject) → o name ≡ found → cond b (Some (unwrap_or found q)) (o id) ≡ Some r → P id r
      by true same None e h = subst (λ (i : ObjectId). P i r) (sym (id_eq-same id name same)) (subst (P name) (let is : q ≡ r = cc in is) p)
      by true same (Some s) e h = subst (λ (i : ObjectId). P i r) (sym (id_eq-same id name same)) (all name r (e ∙ h))
      by false other found e h = all id r h

  put_trees : (trees : List (List Entry)) (o : ObjectMap) → AllStored o → AllByRecursion (λ (es : List Entry). P (object_name kinds.Tree (spelling es)) (tree_object es)) trees → AllStored (with_objects o (map tree_object trees))
  put_trees [] o all ps = all
  put_trees (es ∷ trees) o all ps = put_trees trees (with_object o (object_name kinds.Tree (spelling es)) (tree_object es)) (put_stored o (object_name kinds.Tree (spelling es)) (tree_object es) all ps.0) ps.1

-- one that is there stays there
put_keeps : (o : ObjectMap) (name : ObjectId) (q : StoredObject) (id : ObjectId) → (IsSome (o id)) ⊎ (id ≡ name) → IsSome (with_object o name q id)
unfolding with_object
put_keeps o name q id there = by (bytes_eq id.0 name.0) refl there
  where
    by : (b : Bool) → bytes_eq id.0 name.0 ≡ b → (IsSome (o id)) ⊎ (id ≡ name) → IsSome (cond b (Some (unwrap_or (o name) q)) (o id))
    by true e h = refl
    by false e (inl h) = h
    by false e (inr h) = absurd (let yes : bytes_eq id.0 name.0 ≡ true = (bytes_eq-Decides id.0 name.0).1 (ap bytes_of_id h) in let bad : true ≡ false = sym yes ∙ e in cc)

trees_there : (trees : List (List Entry)) (o : ObjectMap) (id : ObjectId) → (IsSome (o id)) ⊎ IsTreeOf trees id → IsSome (with_objects o (map tree_object trees) id)
trees_there [] o id (inl h) = h
trees_there [] o id (inr h) = absurd h
trees_there (es ∷ trees) o id (inl h) = let name = object_name kinds.Tree (spelling es) in trees_there trees (with_object o name (tree_object es)) id (inl (put_keeps o name (tree_object es) id (inl h)))
trees_there (es ∷ trees) o id (inr (inl h)) = let name = object_name kinds.Tree (spelling es) in trees_there trees (with_object o name (tree_object es)) id (inl (put_keeps o name (tree_object es) id (inr h)))
trees_there (es ∷ trees) o id (inr (inr h)) = let name = object_name kinds.Tree (spelling es) in trees_there trees (with_object o name (tree_object es)) id (inr h)

-- ---- each is under its name

all_named : (trees : List (List Entry)) → AllByRecursion (λ (es : List Entry). (object_name kinds.Tree (spelling es)).0 ≡ (object_name kinds.Tree (spelling es)).0) trees
all_named [] = tt
all_named (es ∷ trees) = (refl, all_named trees)

IsUnderName : ObjectId → StoredObject → Type 0
IsUnderName id q = (object_name q.kind q.body).0 ≡ id.0

pub index_trees_are_named : IndexTreesAreNamed
unfolding IsUnderName AllStored
index_trees_are_named i t given = record {
  named = λ x o found. put_trees IsUnderName given.1 no_objects (λ id q h. cc h) (all_named given.1) (id_of_bytes x) (stored_of o) (sym (given.5 x) ∙ ap (option_map stored_of) found);
}

-- ---- what the root reaches is there

in_back : (a b : List (List Entry)) (id : ObjectId) → IsTreeOf b id → IsTreeOf (a ++ b) id
in_back [] b id h = h
in_back (es ∷ a) b id h = inr (in_back a b id h)

module _ (m : IndexMap) (all : List (List Entry)) where
  -- a tree whose entries lead to files of the index and to trees among these
  IsMade : List Entry → Type 0
  IsMade es = IsTree es × AllByRecursion (IsPart m all) es

  Within : List (List Entry) → Type 0
  Within trees = (id : ObjectId) → IsTreeOf trees id → IsTreeOf all id

  root_of : (levels : ℕ) (folder : List ℕ) (trees : List (List Entry)) (es : List Entry) → AreFolderTrees levels m folder trees es → IsTreeOf trees (object_name kinds.Tree (spelling es))
  root_of zero folder trees es h = absurd h
  root_of (suc levels) folder trees es h = subst (λ (ts : List (List Entry)). IsTreeOf ts (object_name kinds.Tree (spelling es))) (sym h.is) (in_back h.below (es ∷ []) (object_name kinds.Tree (spelling es)) (inl refl))

  -- what is known of the folders in a folder
  Below : ℕ → Type 0
  Below levels = (folder : List ℕ) (own : List (List Entry)) (inner : List Entry) → AreFolderTrees levels m folder own inner → Within own → AllByRecursion IsMade own

  entry_made : (levels : ℕ) (folder : List ℕ) → Below levels → (e : Entry) (own : List (List Entry)) → AreEntryTrees m (AreFolderTrees levels m) folder e own → Within own → AllByRecursion IsMade own × IsPart m all e
  unfolding Within Below
  entry_made levels folder known e own (inl file) below = (subst (AllByRecursion IsMade) (sym file.2) tt, inr (file.0, (folder ++ e.name, file.1)))
  entry_made levels folder known e own (inr tree) below =
      let inner = tree.1.0 in
      let inside = tree.1.3 in
      let path = (folder ++ e.name) ++ 47 ∷ [] in
      (known path own inner inside below, inl (tree.0, below e.id (subst (IsTreeOf own) (sym tree.1.2) (root_of levels path own inner inside))))

  joined_made : (levels : ℕ) (folder : List ℕ) → Below levels → (rest : List Entry) (below : List (List Entry)) → AreJoined (AreEntryTrees m (AreFolderTrees levels m) folder) rest below → Within below
      → AllByRecursion IsMade below × AllByRecursion (IsPart m all) rest
  unfolding Within
  joined_made levels folder known [] below j within = (subst (AllByRecursion IsMade) (sym j) tt, tt)
  joined_made levels folder known (e ∷ rest) below j within =
      let own = j.0 in
      let more = j.1 in
      let first = entry_made levels folder known e own j.3 (λ id h. within id (subst (λ (ts : List (List Entry)). IsTreeOf ts id) (sym j.2) (tree_more own more id h))) in
      let later = joined_made levels folder known rest more j.4 (λ id h. within id (subst (λ (ts : List (List Entry)). IsTreeOf ts id) (sym j.2) (in_back own more id h))) in
      (subst (AllByRecursion IsMade) (sym j.2) (all_append IsMade own more first.0 later.0), (first.1, later.1))

  folder_made : (levels : ℕ) (folder : List ℕ) (trees : List (List Entry)) (es : List Entry) → AreFolderTrees levels m folder trees es → Within trees → AllByRecursion IsMade trees
  unfolding IsMade Within Below
  folder_made zero folder trees es h within = absurd h
  folder_made (suc levels) folder trees es h within =
      let parts = joined_made levels folder (folder_made levels) es h.below h.joined (λ id k. within id (subst (λ (ts : List (List Entry)). IsTreeOf ts id) (sym h.is) (tree_more h.below (es ∷ []) id k))) in
      subst (AllByRecursion IsMade) (sym h.is) (all_append IsMade h.below (es ∷ []) parts.0 ((h.tree, parts.1), tt))

module _ (i : Index) (m : IndexMap) (shows : ShowsIndex i m) (trees : List (List Entry)) (s : Objects) (holds : HoldsTrees s trees) (made : AllByRecursion (IsMade m trees) trees)
    (at : Lookup) (found : AreFound at s) (closed : AreEntriesClosed git at i) where
  -- a name of one of the trees, or of what is closed
  IsGood : Id → Type 0
  IsGood y = IsTreeOf trees (id_of_bytes y) ⊎ IsClosed git at y

  IsTreeObject : ObjectId → StoredObject → Type 0
  IsTreeObject id q = (es : List Entry) × IsMade m trees es × (q ≡ tree_object es)

  each_tree : (ts : List (List Entry)) → AllByRecursion (IsMade m trees) ts → AllByRecursion (λ (es : List Entry). IsTreeObject (object_name kinds.Tree (spelling es)) (tree_object es)) ts
  unfolding IsTreeObject
  each_tree [] all = tt
  each_tree (es ∷ ts) all = ((es, all.0, refl), each_tree ts all.1)

  some_object : (o : Option Object) → IsSome (option_map stored_of o) → (p : Object) × (o ≡ Some p)
  some_object None h = absurd (cc h)
  some_object (Some p) h = (p, refl)

  -- the object of a tree's name
  tree_at : (y : Id) → IsTreeOf trees (id_of_bytes y) → (p : Object) × (at y ≡ Some p) × IsTreeObject (id_of_bytes y) (stored_of p)
  unfolding AllStored
  tree_at y h =
      let p = some_object (get s y) (subst (λ (o : Option StoredObject). IsSome o) (sym (holds y)) (trees_there trees no_objects (id_of_bytes y) (inr h))) in
      (p.0, found y p.0 p.1, put_trees IsTreeObject trees no_objects (λ id q e. cc e) (each_tree trees made) (id_of_bytes y) (stored_of p.0) (sym (holds y) ∙ ap (option_map stored_of) p.1))

  -- one of the ids is this one's
  id_in : (ids : List ObjectId) (z : Id) → Contains (map bytes_of_id ids) z → Contains ids (id_of_bytes z)
  id_in [] z h = absurd (let k = h.1 in omega arith)
  id_in (a ∷ ids) z h = elim (Contains-append_cases (bytes_of_id a ∷ []) (map bytes_of_id ids) z h) [
    | inl first ↦ elim (Contains-push_cases [] (bytes_of_id a) z first) [
      | inl none ↦ absurd (let k = none.1 in omega arith)
      | inr same ↦ subst (λ (w : Id). Contains (a ∷ ids) (id_of_bytes w)) same (0, omega arith, refl)
    ]
    | inr later ↦ Contains-append_right (a ∷ []) ids (id_of_bytes z) (id_in ids z later)
  ]

  -- an entry of a tree leads to what is good
  entry_good : (es : List Entry) (mode : Mode) (name : List ℕ) (z : Id) → AllByRecursion (IsPart m trees) es → HasEntry es mode name (id_of_bytes z) → mode ≢ modes.Commit → IsGood z
  unfolding IsGood
  entry_good [] mode name z parts has other = absurd has
  entry_good (e ∷ es) mode name z parts (inl here) other = elim (parts.0) [
    | inl tree ↦ inl (subst (IsTreeOf trees) here.2 tree.1)
    | inr file ↦ inr
        (let same : index_entry e.mode e.id ≡ index_entry mode (id_of_bytes z) = ap (λ (md : Mode). index_entry md e.id) here.0 ∙ ap (index_entry mode) here.2 in
        closed file.1.0 (machine_entry (index_entry mode (id_of_bytes z))) (shows file.1.0 ∙ ap (option_map machine_entry) (file.1.1 ∙ ap Some same)) (λ k. no_link mode other k))
  ]
    where
      no_link : (md : Mode) → md ≢ modes.Commit → mode_number md ≡ 57344 → ⊥
      no_link modes.Tree o k = let bad : ◌≡◌ {A = ℕ} 16384 57344 = k in omega arith
      no_link modes.File o k = let bad : ◌≡◌ {A = ℕ} 33188 57344 = k in omega arith
      no_link modes.SharedFile o k = let bad : ◌≡◌ {A = ℕ} 33204 57344 = k in omega arith
      no_link modes.Executable o k = let bad : ◌≡◌ {A = ℕ} 33261 57344 = k in omega arith
      no_link modes.Link o k = let bad : ◌≡◌ {A = ℕ} 40960 57344 = k in omega arith
      no_link modes.Commit o k = o refl
  entry_good (e ∷ es) mode name z parts (inr there) other = entry_good es mode name z parts.1 there other

  closed_step : (y z : Id) → IsClosed git at y → Links git at y z → IsClosed git at z
  closed_step y z c l = record { there = λ w r. c.there w (z ∷ r.0, (l, r.1)) }

  step_good : (y z : Id) → IsGood y → Links git at y z → IsGood z
  unfolding IsGood IsTreeObject IsMade IsLinked
  step_good y z (inr c) l = inr (closed_step y z c l)
  step_good y z (inl t) l =
      let a = tree_at y t in
      let es = a.2.0 in
      let same : l.object ≡ a.0 = (let e : Some l.object ≡ Some a.0 = sym l.found ∙ a.1 in cc) in
      let links : links_of (kind_of l.object.kind) l.object.body ≡ entry_links es =
      ap (λ (p : Object). links_of (kind_of p.kind) p.body) same ∙ ap (λ (q : StoredObject). links_of q.kind q.body) a.2.2 ∙ ap entry_links (entries_again es a.2.1.0.legal) in
      let c = linked (id_of_bytes z) es (subst (λ (ids : List ObjectId). Contains ids (id_of_bytes z)) links (id_in (links_of (kind_of l.object.kind) l.object.body) z l.link)) in
      entry_good es c.0 c.1 z a.2.1.1 c.2 c.3

  good_there : (y : Id) → IsGood y → (o : Object) × (at y ≡ Some o)
  unfolding IsGood
  good_there y (inl t) = let a = tree_at y t in (a.0, a.1)
  good_there y (inr c) = c.there y ([], refl)

  path_good : (zs : List Id) (x y : Id) → IsGood x → Path (Links git at) zs x y → IsGood y
  path_good [] x y h p = subst IsGood p h
  path_good (z ∷ zs) x y h p = path_good zs z y (step_good x z h p.0) p.1

  root_whole : (x : Id) → IsTreeOf trees (id_of_bytes x) → IsClosed git at x
  unfolding IsGood
  root_whole x h = record { there = λ y r. good_there y (path_good r.0 x y (inl h) r.1) }

pub index_trees_are_closed : IndexTreesAreClosed
unfolding Within
index_trees_are_closed i t at given found closed =
    let m = given.0 in
    let trees = given.1 in
    let lists = given.3 in
    let made = folder_made m trees lists.listed.levels [] trees given.2 lists.listed.is (λ id h. h) in
    let root = root_of m trees lists.listed.levels [] trees given.2 lists.listed.is in
    root_whole i m lists.shows trees t.0 given.5 made at found closed t.1 (subst (IsTreeOf trees) (ap id_of_bytes (sym given.6)) root)

-- ---- each is a tree's body

IsFormed : ObjectId → StoredObject → Type 0
IsFormed id q = IsObject q.kind q.body

all_formed : (m : IndexMap) (all trees : List (List Entry)) → AllByRecursion (IsMade m all) trees → AllFit trees → AllByRecursion (λ (es : List Entry). IsFormed (object_name kinds.Tree (spelling es)) (tree_object es)) trees
unfolding IsMade IsFormed
all_formed m all [] made fit = tt
all_formed m all (es ∷ trees) made fit = (record { grammar = (es, made.0.0, refl); size = fit.0 }, all_formed m all trees made.1 fit.1)

pub index_trees_are_formed : IndexTreesAreFormed
unfolding IsFormed AllStored Within
index_trees_are_formed i t given x o found =
    let m = given.0 in
    let trees = given.1 in
    let listed = given.3.listed in
    let made = folder_made m trees listed.levels [] trees given.2 listed.is (λ id h. h) in
    put_trees IsFormed trees no_objects (λ id q h. cc h) (all_formed m trees trees made given.4) (id_of_bytes x) (stored_of o) (sym (given.5 x) ∙ ap (option_map stored_of) found)
