-- The trees of an index as one list.
use Rattle.std.proofs.Common.{◌≡◌, ℕ, zero, suc, List, [], ◌∷◌, ◌++◌, map, refl, ap, sym, ◌∙◌, subst, ⊎_elim, inl, inr, append_assoc, append-nil}
use Rattle.std.specs.List.{AllByRecursion}
use Rattle.vc_object.specs.Tree.{Entry}
use Rattle.vc_index.specs.Building.{ArePartTrees}
use Rattle.vc_index.specs.FolderTrees.{AreJoined, AreTreesOver, AreFolderTrees, AreEntryTrees}
use Rattle.vc_index.specs.IndexMap.{IndexMap}
use Rattle.vc_index.specs.Part.{part_entry}
use Rattle.vc_index.specs.declared.trees.Part.{Part}

-- ---- lists of elements, one after another
pub joined_parts : {X : Type 0} (Has : X → List (List Entry) → Type 0) (xs ys : List X) (trees : List (List Entry)) → AreJoined Has (xs ++ ys) trees
    → (front : List (List Entry)) × (back : List (List Entry)) × (trees ≡ front ++ back) × AreJoined Has xs front × AreJoined Has ys back
joined_parts Has [] ys trees j = ([], trees, refl, refl, j)
joined_parts Has (x ∷ xs) ys trees (own, rest, is, has, others) =
    let r = joined_parts Has xs ys rest others in
    (own ++ r.0, r.1, is ∙ ap (λ l. own ++ l) r.2 ∙ sym (append_assoc own r.0 r.1), (own, r.0, refl, has, r.3), r.4)

pub joined_join : {X : Type 0} (Has : X → List (List Entry) → Type 0) (xs ys : List X) (front back : List (List Entry)) → AreJoined Has xs front → AreJoined Has ys back → AreJoined Has (xs ++ ys) (front ++ back)
joined_join Has [] ys front back none j = subst (λ (l : List (List Entry)). AreJoined Has ys (l ++ back)) (sym none) j
joined_join Has (x ∷ xs) ys front back (own, rest, is, has, others) j =
    (own, rest ++ back, ap (λ l. l ++ back) is ∙ append_assoc own rest back, has, joined_join Has xs ys rest back others j)

pub joined_map : {X : Type 0} (Has Other : X → List (List Entry) → Type 0) → ((x : X) (own : List (List Entry)) → Has x own → Other x own) → (xs : List X) (trees : List (List Entry)) → AreJoined Has xs trees → AreJoined Other xs trees
joined_map Has Other f [] trees j = j
joined_map Has Other f (x ∷ xs) trees (own, rest, is, has, others) = (own, rest, is, f x own has, joined_map Has Other f xs rest others)

-- one element more, with no list
pub joined_push : {X : Type 0} (Has : X → List (List Entry) → Type 0) (xs : List X) (x : X) (trees own : List (List Entry)) → AreJoined Has xs trees → Has x own → AreJoined Has (xs ++ x ∷ []) (trees ++ own)
joined_push Has xs x trees own j has = joined_join Has xs (x ∷ []) trees own j (own, [], sym (append-nil own), has, refl)

-- ---- more levels
module _ (files : IndexMap) (Inner Other : List ℕ → List (List Entry) → List Entry → Type 0) (over : (folder : List ℕ) (trees : List (List Entry)) (entries : List Entry) → Inner folder trees entries → Other folder trees entries) where
  pub entry_over : (folder : List ℕ) (e : Entry) (own : List (List Entry)) → AreEntryTrees files Inner folder e own → AreEntryTrees files Other folder e own
  entry_over folder e own has = ⊎_elim
      (λ file. inl file)
      (λ tree. inr (tree.0, (tree.1.0, tree.1.1, tree.1.2, over ((folder ++ e.name) ++ 47 ∷ []) own tree.1.0 tree.1.3)))
      has

  trees_over : (folder : List ℕ) (trees : List (List Entry)) (entries : List Entry) → AreTreesOver files Inner folder trees entries → AreTreesOver files Other folder trees entries
  trees_over folder trees entries h = record {
    below = h.below;
    is = h.is;
    tree = h.tree;
    names = h.names;
    joined = joined_map (AreEntryTrees files Inner folder) (AreEntryTrees files Other folder) (entry_over folder) entries h.below h.joined;
  }

pub folder_more : (files : IndexMap) (levels : ℕ) (folder : List ℕ) (trees : List (List Entry)) (entries : List Entry) → AreFolderTrees levels files folder trees entries → AreFolderTrees (suc levels) files folder trees entries
folder_more files zero folder trees entries h = absurd h
folder_more files (suc levels) folder trees entries h = trees_over files (AreFolderTrees levels files) (AreFolderTrees (suc levels) files) (folder_more files levels) folder trees entries h

-- ---- the trees of parts
pub parts_more : (files : IndexMap) (levels : ℕ) (parts : List Part) (trees : List (List Entry)) → AreJoined (ArePartTrees files levels) parts trees → AreJoined (ArePartTrees files (suc levels)) parts trees
parts_more files levels parts trees j = joined_map (ArePartTrees files levels) (ArePartTrees files (suc levels)) (λ g own has. entry_over files (AreFolderTrees levels files) (AreFolderTrees (suc levels) files) (folder_more files levels) g.folder.now (part_entry g) own has) parts trees j

-- the parts of one folder have the trees that its entries have
pub joined_entries : (files : IndexMap) (levels : ℕ) (folder : List ℕ) (run : List Part) (trees : List (List Entry)) → AllByRecursion (λ g. g.folder.now ≡ folder) run → AreJoined (ArePartTrees files levels) run trees → AreJoined (AreEntryTrees files (AreFolderTrees levels files) folder) (map part_entry run) trees
joined_entries files levels folder [] trees at j = j
joined_entries files levels folder (g ∷ run) trees at (own, rest, is, has, others) =
    (own, rest, is, subst (λ (f : List ℕ). AreEntryTrees files (AreFolderTrees levels files) f (part_entry g) own) at.0 has, joined_entries files levels folder run rest at.1 others)
