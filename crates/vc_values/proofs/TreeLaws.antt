-- What a tree gives is as the machine asks of its rules.
use Rattle.std.proofs.Common.{◌≡◌, ◌≢◌, ◌⊎◌, inl, inr, ℕ, List, ◌∷◌, ◌++◌, Option, Some, None, Result, Ok, Err, refl, sym, ap, ◌∙◌, subst, ⊎_elim, Contains, arith, []}
use Rattle.std.specs.Prelude.{option_map, unwrap_or}
use Rattle.std.specs.FinMap.{get, same_map, slice_cmp-IsAntisymmetric, nat_cmp-IsAntisymmetric}
use Rattle.std.specs.Cmp.Lexicographic.{nat_list_cmp_total}
use Rattle.std.proofs.lemmas.List.Elements.{Contains-append_right, Contains-append_cases, Contains-push_cases}
use Rattle.vc_format.specs.Git.{id_of_bytes}
use Rattle.vc_object_map.specs.Graph as graph
use Rattle.vc_object_map.specs.Graph.Reaches.{itself, onward}
use Rattle.vc_index.specs.HeldFiles.{under}
use Rattle.vc_index.specs.IndexMap.{IndexMap}
use Rattle.vc_index.specs.Loading.{IsEntryOfTree, IsDue}
use Rattle.vc_index.specs.TreeFiles.{IsTreeAt, HasEntry, LeadsTo, IsFileOfTree}
use Rattle.vc_index.specs.TreeReading.{TreeFault, IsComplete}
use Rattle.vc_index.specs.declared.entry.IndexEntry.{IndexEntry}
use Rattle.vc_index.proofs.LoadLemmas.{entry_below}
use Rattle.vc_index.proofs.ReadingLemmas.{one_reading}
use Rattle.vc_lemmas.proofs.Lists.{some_of}
use Rattle.vc_model.specs.Object.{stored}
use Rattle.vc_model.specs.Reach.{Reaches, Links}
use Rattle.vc_model.specs.Repository.{Entry as MachineEntry}
use Rattle.vc_object.specs.Decoding.{stored_object}
use Rattle.vc_object.specs.Links.{entry_links, with_link}
use Rattle.vc_object.specs.ObjectMap.{ObjectMap, links_in}
use Rattle.vc_object.specs.Tree.{Entry, spelling}
use Rattle.vc_object.specs.declared.id.ObjectId.{ObjectId}
use Rattle.vc_object.specs.declared.kind.Kind.TheVariants as kinds
use Rattle.vc_object.specs.declared.mode.Mode.{Mode}
use Rattle.vc_object.specs.declared.mode.Mode.TheVariants as modes
use Rattle.vc_object.proofs.ObjectMaps.{links_in-some}
use Rattle.vc_object.proofs.Reading.{entries_again}
use Rattle.vc_rules.specs.Git.{git, mode_number, layer_objects}
use Rattle.vc_values.specs.Trees.{machine_entry, tree_number}
use Rattle.vc_values.specs.Laws.{TreesGiveOne, GivenTreesAreClosed}
use Rattle.vc_rules.proofs.ReachLemmas.{closed_from, path_from}

-- ---- one answer

pub trees_give_one : TreesGiveOne
trees_give_one s x (Ok i) (Ok j) a b =
    let same : ◌≡◌ {A = Result IndexMap TreeFault} (Ok a.0) (Ok b.0) = one_reading (layer_objects s) (id_of_bytes x) (Ok a.0) (Ok b.0) a.1 b.1 in
    let maps : a.0 ≡ b.0 = ap (index_in a.0) same in
    ap Ok (same_map nat_list_cmp_total (slice_cmp-IsAntisymmetric nat_cmp-IsAntisymmetric) i j (λ q. a.2 q ∙ ap (λ (m : IndexMap). option_map machine_entry (get m q)) maps ∙ sym (b.2 q)))
  where
    index_in : IndexMap → Result IndexMap TreeFault → IndexMap
    index_in m (Ok n) = n
    index_in m (Err f) = m
trees_give_one s x (Ok i) (Err n) a b = absurd (let e : ◌≡◌ {A = Result IndexMap TreeFault} (Ok a.0) (Err b.0) = one_reading (layer_objects s) (id_of_bytes x) (Ok a.0) (Err b.0) a.1 b.1 in cc e)
trees_give_one s x (Err n) (Ok i) a b = absurd (let e : ◌≡◌ {A = Result IndexMap TreeFault} (Err a.0) (Ok b.0) = one_reading (layer_objects s) (id_of_bytes x) (Err a.0) (Ok b.0) a.1 b.1 in cc e)
trees_give_one s x (Err n) (Err k) a b =
    let same : ◌≡◌ {A = Result IndexMap TreeFault} (Err a.0) (Err b.0) = one_reading (layer_objects s) (id_of_bytes x) (Err a.0) (Err b.0) a.1 b.1 in
    ap Err (a.2 ∙ ap (number_in n) same ∙ sym b.2)
  where
    number_in : ℕ → Result IndexMap TreeFault → ℕ
    number_in n (Ok m) = n
    number_in n (Err f) = tree_number f

-- ---- links of a tree are entries of it

none_in : {X : Type 0} (x : X) → Contains [] x → ⊥
none_in x h = let k = h.1 in omega arith

first_or_later : (y : ObjectId) (ys : List ObjectId) (x : ObjectId) → Contains (y ∷ ys) x → (y ≡ x) ⊎ Contains ys x
first_or_later y ys x h = elim (Contains-append_cases (y ∷ []) ys x h) [
  | inl first ↦ elim (Contains-push_cases [] y x first) [ inl none ↦ absurd (none_in x none) | inr same ↦ inl same ]
  | inr later ↦ inr later
]

module _ (y : ObjectId) where
  -- an entry of this id that is no commit of another repository
  unfoldable pub IsLinked : List Entry → Type 0
  IsLinked es = (mode : Mode) × (name : List ℕ) × HasEntry es mode name y × (mode ≢ modes.Commit)

  later_linked : (e : Entry) (es : List Entry) → IsLinked es → IsLinked (e ∷ es)
  unfolding IsLinked
  later_linked e es l = (l.0, l.1, inr l.2, l.3)

  first_linked : (e : Entry) (es : List Entry) (m : Mode) → (Contains (entry_links es) y → IsLinked es) → e.mode ≡ m → m ≢ modes.Commit → Contains (e.id ∷ entry_links es) y → IsLinked (e ∷ es)
  unfolding IsLinked
  first_linked e es m rest is other c = elim (first_or_later e.id (entry_links es) y c) [ inl same ↦ (m, e.name, inl (is, refl, same), other) | inr later ↦ later_linked e es (rest later) ]

  by_mode : (e : Entry) (es : List Entry) (m : Mode) → (Contains (entry_links es) y → IsLinked es) → e.mode ≡ m → Contains (with_link m e.id (entry_links es)) y → IsLinked (e ∷ es)
  by_mode e es modes.Tree rest is c = first_linked e es modes.Tree rest is (λ k. cc k) c
  by_mode e es modes.File rest is c = first_linked e es modes.File rest is (λ k. cc k) c
  by_mode e es modes.SharedFile rest is c = first_linked e es modes.SharedFile rest is (λ k. cc k) c
  by_mode e es modes.Executable rest is c = first_linked e es modes.Executable rest is (λ k. cc k) c
  by_mode e es modes.Link rest is c = first_linked e es modes.Link rest is (λ k. cc k) c
  by_mode e es modes.Commit rest is c = later_linked e es (rest c)

  pub linked : (es : List Entry) → Contains (entry_links es) y → IsLinked es
  linked [] h = absurd (none_in y h)
  linked (e ∷ es) h = by_mode e es e.mode (λ c. linked es c) refl h

  later_link : (m : Mode) (id : ObjectId) (ids : List ObjectId) → Contains ids y → Contains (with_link m id ids) y
  later_link modes.Tree id ids c = Contains-append_right (id ∷ []) ids y c
  later_link modes.File id ids c = Contains-append_right (id ∷ []) ids y c
  later_link modes.SharedFile id ids c = Contains-append_right (id ∷ []) ids y c
  later_link modes.Executable id ids c = Contains-append_right (id ∷ []) ids y c
  later_link modes.Link id ids c = Contains-append_right (id ∷ []) ids y c
  later_link modes.Commit id ids c = c

  this_link : (m : Mode) (ids : List ObjectId) → m ≢ modes.Commit → Contains (with_link m y ids) y
  this_link modes.Tree ids other = (0, omega arith, refl)
  this_link modes.File ids other = (0, omega arith, refl)
  this_link modes.SharedFile ids other = (0, omega arith, refl)
  this_link modes.Executable ids other = (0, omega arith, refl)
  this_link modes.Link ids other = (0, omega arith, refl)
  this_link modes.Commit ids other = absurd (other refl)

  entry_linked : (es : List Entry) (mode : Mode) (name : List ℕ) → HasEntry es mode name y → mode ≢ modes.Commit → Contains (entry_links es) y
  entry_linked [] mode name h other = absurd h
  entry_linked (e ∷ es) mode name h other = ⊎_elim
      (λ here. subst (λ (i : ObjectId). Contains (with_link e.mode i (entry_links es)) y) (sym here.2) (this_link e.mode (entry_links es) (λ k. other (sym here.0 ∙ k))))
      (λ there. later_link e.mode e.id (entry_links es) (entry_linked es mode name there other))
      h

module _ (objects : ObjectMap) where
  -- what a tree links to
  tree_links : (id : ObjectId) (es : List Entry) → IsTreeAt objects id es → links_in objects id ≡ Some (entry_links es)
  tree_links id es at = links_in-some objects id (stored_object kinds.Tree (spelling es)) at.stored ∙ ap (λ (gs : List Entry). Some (entry_links gs)) (entries_again es at.tree.legal)

  same_ids : (a b : List ObjectId) → ◌≡◌ {A = Option (List ObjectId)} (Some a) (Some b) → a ≡ b
  same_ids a b e = ap (λ (o : Option (List ObjectId)). unwrap_or o a) e

  module _ (root : ObjectId) (whole : IsComplete objects root) where
    IsPart : ObjectId → Type 0
    IsPart y = (path : List ℕ) × (mode : Mode) × IsEntryOfTree objects root path mode y × (mode ≢ modes.Commit)

    is_file : (mode : Mode) → mode ≢ modes.Tree → mode ≢ modes.Commit → IsDue mode kinds.Blob
    is_file modes.Tree tree commit = absurd (tree refl)
    is_file modes.File tree commit = refl
    is_file modes.SharedFile tree commit = refl
    is_file modes.Executable tree commit = refl
    is_file modes.Link tree commit = refl
    is_file modes.Commit tree commit = absurd (commit refl)

    is_tree : (mode : Mode) → (mode ≡ modes.Tree) ⊎ (mode ≢ modes.Tree)
    is_tree modes.Tree = inl refl
    is_tree modes.File = inr (λ k. cc k)
    is_tree modes.SharedFile = inr (λ k. cc k)
    is_tree modes.Executable = inr (λ k. cc k)
    is_tree modes.Link = inr (λ k. cc k)
    is_tree modes.Commit = inr (λ k. cc k)

    -- the links of a part are there, and lead to parts
    part_links : (y : ObjectId) → IsPart y → (ids : List ObjectId) × (links_in objects y ≡ Some ids) × ((z : ObjectId) → Contains ids z → IsPart z)
    unfolding IsPart IsLinked
    part_links y (path, mode, entry, no_commit) = by (is_tree mode)
      where
        by : (mode ≡ modes.Tree) ⊎ (mode ≢ modes.Tree) → (ids : List ObjectId) × (links_in objects y ≡ Some ids) × ((z : ObjectId) → Contains ids z → IsPart z)
        by (inl tree) =
            let t = (whole path mode y entry).tree tree in (
              entry_links t.0,
              tree_links y t.0 t.1,
              λ z c.
                  let l = linked z t.0 c in
                  (under path ++ l.1, l.0, entry_below objects root path y t.0 l.0 l.1 z (subst (λ (m : Mode). IsEntryOfTree objects root path m y) tree entry) t.1 l.2, l.3),
            )
        by (inr file) =
            let b = (whole path mode y entry).object kinds.Blob (is_file mode file no_commit) in
            ([], links_in-some objects y (stored_object kinds.Blob b.0) b.1, λ z c. absurd (none_in z c))

    reached_part : (y : ObjectId) → graph.Reaches (links_in objects) root y → IsPart y
    unfolding IsPart
    reached_part y itself = ([], modes.Tree, inl (refl, refl, refl), λ k. cc k)
    reached_part y (onward {y = z} h l) =
        let p = part_links z (reached_part z h) in
        p.2 y (subst (λ (ids : List ObjectId). Contains ids y) (same_ids l.0 p.0 (sym l.1 ∙ p.1)) l.2)

    tree_closed : graph.IsClosed (links_in objects) root
    tree_closed y h = let p = part_links y (reached_part y h) in some_of (links_in objects y) p.0 p.1

    -- a file of the tree is reached
    file_reached : (id : ObjectId) (es : List Entry) (names : List (List ℕ)) (mode : Mode) (file : ObjectId) → graph.Reaches (links_in objects) root id → IsTreeAt objects id es → LeadsTo objects es names mode file → mode ≢ modes.Commit → graph.Reaches (links_in objects) root file
    file_reached id es [] mode file h at leads other = absurd leads
    file_reached id es (name ∷ []) mode file h at leads other = onward h (entry_links es, tree_links id es at, entry_linked file es mode name leads.0 other)
    file_reached id es (name ∷ next ∷ names) mode file h at leads other =
        file_reached leads.0 leads.1 (next ∷ names) mode file (onward h (entry_links es, tree_links id es at, entry_linked leads.0 es modes.Tree name leads.2 (λ k. cc k))) leads.3 leads.4 other

some_entry : (o : Option IndexEntry) (e : MachineEntry) → option_map machine_entry o ≡ Some e → (v : IndexEntry) × (o ≡ Some v) × (machine_entry v ≡ e)
some_entry None e h = absurd (cc h)
some_entry (Some v) e h = (v, refl, ap (λ (o : Option MachineEntry). unwrap_or o e) h)

pub given_trees_are_closed : GivenTreesAreClosed
given_trees_are_closed s x i given =
    let o = layer_objects s in
    let root = id_of_bytes x in (
      closed_from o (stored s) (λ y. refl) x (tree_closed o root given.1.0),
      λ p e at other.
          let v = some_entry (get given.0 p) e (sym (given.2 p) ∙ at) in
          let f : IsFileOfTree o root p v.0.mode v.0.id = (given.1.1 p v.0.mode v.0.id).1 v.1 in
          let no_commit : v.0.mode ≢ modes.Commit = λ k. other (ap (λ (e : MachineEntry). e.mode) (sym v.2) ∙ ap mode_number k) in
          let reached = path_from o (stored s) (λ y. refl) root v.0.id (file_reached o root given.1.0 root f.entries f.names v.0.mode v.0.id itself f.at f.leads no_commit) in
          subst (λ (e : MachineEntry). Reaches (Links git (stored s)) x e.id) v.2 reached,
    )
