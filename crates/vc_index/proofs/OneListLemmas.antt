-- The trees of an index are one list at most.
use Rattle.std.proofs.Common.{◌≡◌, ◌≢◌, ℕ, zero, suc, List, [], ◌∷◌, ◌++◌, Some, refl, ap, sym, ◌∙◌, subst, ⊎_elim, inl, inr, append_assoc, arith}
use Rattle.std.specs.Prelude.{IsSome, is_some}
use Rattle.std.specs.FinMap.{get}
use Rattle.std.specs.List.{AllByRecursion, Contains}
use Rattle.std.proofs.lemmas.List.Elements.{All-contains, All-from_recursion}
use Rattle.vc_object.specs.Object.{object_name}
use Rattle.vc_object.specs.Tree.{Entry, IsEntry, HasName, HasSameEntries, IsTree, SpellsTree, spelling}
use Rattle.vc_object.specs.declared.kind.Kind.TheVariants as kinds
use Rattle.vc_object.proofs.Reading.{read_again}
use Rattle.vc_object.proofs.Uniqueness.{trees_unique}
use Rattle.vc_index.specs.FolderTrees.{NamesAll, AreJoined, AreEntryTrees, AreTreesOver, AreFolderTrees, AreIndexTrees}
use Rattle.vc_index.specs.IndexMap.{IndexMap, IsIndex, index_entry}
use Rattle.vc_index.specs.declared.entry.IndexEntry.{IndexEntry}
use Rattle.vc_index.proofs.MapLemmas.{same_some}

-- ---- entries of trees
named_one : (fs : List Entry) (name : List ℕ) → HasName fs name → (f : Entry) × Contains fs f × (f.name ≡ name)
named_one [] name h = absurd h
named_one (f ∷ fs) name h = ⊎_elim
    (λ is. (f, (0, omega arith, refl), is))
    (λ later. let r = named_one fs name later in (r.0, (suc r.1.0, let low = r.1.1 in omega (arith, low), r.1.2), r.2))
    h

spells_itself : (es : List Entry) → IsTree es → SpellsTree (spelling es) es
spells_itself es tree = record { entries = es; tree = tree; is = refl; same = λ e. (λ c. c, λ c. c) }

-- trees with the same entries are the same
same_tree : (es fs : List Entry) → IsTree es → IsTree fs → HasSameEntries es fs → es ≡ fs
same_tree es fs tree other same =
    let spelled : spelling es ≡ spelling fs = trees_unique (spelling es) (spelling fs) es fs (spells_itself es tree) (spells_itself fs other) same in
    sym (read_again es (spelling es) tree refl) ∙ read_again fs (spelling es) other spelled

has_own : (Has : Entry → List (List Entry) → Type 0) (es : List Entry) (trees : List (List Entry)) → AreJoined Has es trees → AllByRecursion (λ e. (own : List (List Entry)) × Has e own) es
has_own Has [] trees j = tt
has_own Has (e ∷ es) trees (own, rest, is, has, others) = ((own, has), has_own Has es rest others)

-- ---- files in folders
abbrev IsFilled : IndexMap → (List ℕ → List (List Entry) → List Entry → Type 0) → Type 0
IsFilled files Inner = (folder : List ℕ) (trees : List (List Entry)) (entries : List Entry) → Inner folder trees entries → entries ≢ [] → (q : List ℕ) × IsSome (get files (folder ++ q))

inner_path : (folder name q : List ℕ) → ((folder ++ name) ++ 47 ∷ []) ++ q ≡ folder ++ (name ++ 47 ∷ q)
inner_path folder name q = append_assoc (folder ++ name) (47 ∷ []) q ∙ append_assoc folder name (47 ∷ q)

-- a file under an entry
entry_filled : (files : IndexMap) (Inner : List ℕ → List (List Entry) → List Entry → Type 0) → IsFilled files Inner → (folder : List ℕ) (e : Entry) (own : List (List Entry)) → AreEntryTrees files Inner folder e own → (q : List ℕ) × IsSome (get files (folder ++ q))
entry_filled files Inner filled folder e own has = ⊎_elim
    (λ file. (e.name, ap is_some file.1))
    (λ tree.
    let q = filled ((folder ++ e.name) ++ 47 ∷ []) own tree.1.0 tree.1.3 tree.1.1 in
    (e.name ++ 47 ∷ q.0, subst (λ (p : List ℕ). IsSome (get files p)) (inner_path folder e.name q.0) q.1))
    has

folder_filled : (files : IndexMap) (levels : ℕ) → IsFilled files (AreFolderTrees levels files)
folder_filled files zero folder trees entries h some = absurd h
folder_filled files (suc levels) folder trees [] h some = absurd (some refl)
folder_filled files (suc levels) folder trees (e ∷ entries) h some = entry_filled files (AreFolderTrees levels files) (folder_filled files levels) folder e h.joined.0 h.joined.3

abbrev Agree : (Inner Other : List ℕ → List (List Entry) → List Entry → Type 0) → Type 0
Agree Inner Other = (folder : List ℕ) (trees others : List (List Entry)) (es fs : List Entry) → Inner folder trees es → Other folder others fs → (trees ≡ others) × (es ≡ fs)

-- ---- one folder
module _ (files : IndexMap) (sound : IsIndex files) (Inner Other : List ℕ → List (List Entry) → List Entry → Type 0) (filled : IsFilled files Inner) (also : IsFilled files Other) (agree : Agree Inner Other) (folder : List ℕ) where
  -- no file has the path of a folder that has one
  file_apart : (name other : List ℕ) (entry : IndexEntry) (own : List (List Entry)) (inner : List Entry) (Within : List ℕ → List (List Entry) → List Entry → Type 0) → IsFilled files Within → name ≡ other
      → get files (folder ++ name) ≡ Some entry → inner ≢ [] → Within ((folder ++ other) ++ 47 ∷ []) own inner → ⊥
  file_apart name other entry own inner Within within same at some trees =
      let q = within ((folder ++ other) ++ 47 ∷ []) own inner trees some in
      sound.apart (folder ++ name) (((folder ++ other) ++ 47 ∷ []) ++ q.0) (ap is_some at) q.1
      (q.0, append_assoc (folder ++ other) (47 ∷ []) q.0 ∙ ap (λ n. (folder ++ n) ++ 47 ∷ q.0) (sym same))

  same_own : (e : Entry) (own other : List (List Entry)) → AreEntryTrees files Inner folder e own → AreEntryTrees files Other folder e other → own ≡ other
  same_own e own other has too = ⊎_elim
      (λ file. ⊎_elim
      (λ second. file.2 ∙ sym second.2)
      (λ second. absurd (file.0 second.0))
      too)
      (λ tree. ⊎_elim
      (λ second. absurd (second.0 tree.0))
      (λ second. (agree ((folder ++ e.name) ++ 47 ∷ []) own other tree.1.0 second.1.0 tree.1.3 second.1.3).0)
      too)
      has

  same_entry : (e f : Entry) (own other : List (List Entry)) → e.name ≡ f.name → AreEntryTrees files Inner folder e own → AreEntryTrees files Other folder f other → e ≡ f
  same_entry e f own other same has too = ⊎_elim
      (λ file. ⊎_elim
      (λ second.
      let entry : index_entry e.mode e.id ≡ index_entry f.mode f.id = same_some _ _ (sym file.1 ∙ ap (λ n. get files (folder ++ n)) same ∙ second.1) in
      λ i. record { mode = ap (λ (k : IndexEntry). k.mode) entry i; name = same i; id = ap (λ (k : IndexEntry). k.id) entry i })
      (λ second. absurd (file_apart e.name f.name (index_entry e.mode e.id) other second.1.0 Other also same file.1 second.1.1 second.1.3))
      too)
      (λ tree. ⊎_elim
      (λ second. absurd (file_apart f.name e.name (index_entry f.mode f.id) own tree.1.0 Inner filled (sym same) second.1 tree.1.1 tree.1.3))
      (λ second.
      let inner = (agree ((folder ++ e.name) ++ 47 ∷ []) own other tree.1.0 second.1.0 tree.1.3 (subst (λ (n : List ℕ). Other ((folder ++ n) ++ 47 ∷ []) other second.1.0) (sym same) second.1.3)).1 in
      let id = tree.1.2 ∙ ap (λ es. object_name kinds.Tree (spelling es)) inner ∙ sym second.1.2 in
      let mode = tree.0 ∙ sym second.0 in
      λ i. record { mode = mode i; name = same i; id = id i })
      too)
      has

  joined_same : (es : List Entry) (trees others : List (List Entry)) → AreJoined (AreEntryTrees files Inner folder) es trees → AreJoined (AreEntryTrees files Other folder) es others → trees ≡ others
  joined_same [] trees others j k = j ∙ sym k
  joined_same (e ∷ es) trees others (own, rest, is, has, more) (other, left, also_is, too, much) =
      is ∙ (λ i. same_own e own other has too i ++ joined_same es rest left more much i) ∙ sym also_is

  -- an entry's name stands in each list that names all files
  name_there : (e : Entry) (own : List (List Entry)) (fs : List Entry) → IsEntry e → NamesAll files folder fs → AreEntryTrees files Inner folder e own → HasName fs e.name
  name_there e own fs legal names has = ⊎_elim
      (λ file. names e.name e.name (ap is_some file.1) (legal.name.no_slash, inl refl))
      (λ tree.
      let q = filled ((folder ++ e.name) ++ 47 ∷ []) own tree.1.0 tree.1.3 tree.1.1 in
      names (e.name ++ 47 ∷ q.0) e.name (subst (λ (p : List ℕ). IsSome (get files p)) (inner_path folder e.name q.0) q.1) (legal.name.no_slash, inr (q.0, refl)))
      has

  entry_there : (es fs : List Entry) (trees others : List (List Entry)) → AllByRecursion IsEntry es → NamesAll files folder fs → AreJoined (AreEntryTrees files Inner folder) es trees → AreJoined (AreEntryTrees files Other folder) fs others
      → (e : Entry) → Contains es e → Contains fs e
  entry_there es fs trees others legal names j k e c =
      let own = All-contains (λ (x : Entry). (own : List (List Entry)) × AreEntryTrees files Inner folder x own) es e (All-from_recursion (λ (x : Entry). (own : List (List Entry)) × AreEntryTrees files Inner folder x own) es (has_own (AreEntryTrees files Inner folder) es trees j)) c in
      let entry = All-contains IsEntry es e (All-from_recursion IsEntry es legal) c in
      let f = named_one fs e.name (name_there e own.0 fs entry names own.1) in
      let other = All-contains (λ (x : Entry). (own : List (List Entry)) × AreEntryTrees files Other folder x own) fs f.0 (All-from_recursion (λ (x : Entry). (own : List (List Entry)) × AreEntryTrees files Other folder x own) fs (has_own (AreEntryTrees files Other folder) fs others k)) f.1 in
      subst (λ (x : Entry). Contains fs x) (sym (same_entry e f.0 own.0 other.0 (sym f.2) own.1 other.1)) f.1

module _ (files : IndexMap) (sound : IsIndex files) where
  trees_agree : (Inner Other : List ℕ → List (List Entry) → List Entry → Type 0) → IsFilled files Inner → IsFilled files Other → Agree Inner Other → Agree (AreTreesOver files Inner) (AreTreesOver files Other)
  trees_agree Inner Other filled also agree folder trees others es fs h k =
      let same : es ≡ fs = same_tree es fs h.tree k.tree (λ e. (
        entry_there files sound Inner Other filled also agree folder es fs h.below k.below h.tree.legal k.names h.joined k.joined e,
        entry_there files sound Other Inner also filled (λ f ts os xs ys p q. let r = agree f os ts ys xs q p in (sym r.0, sym r.1)) folder fs es k.below h.below k.tree.legal h.names k.joined h.joined e,
      )) in
      let below : h.below ≡ k.below = joined_same files sound Inner Other filled also agree folder es h.below k.below h.joined (subst (λ (xs : List Entry). AreJoined (AreEntryTrees files Other folder) xs k.below) (sym same) k.joined) in
      (h.is ∙ (λ i. below i ++ same i ∷ []) ∙ sym k.is, same)

  folders_agree : (levels others : ℕ) → Agree (AreFolderTrees levels files) (AreFolderTrees others files)
  folders_agree zero others folder trees more es fs h k = absurd h
  folders_agree (suc levels) zero folder trees more es fs h k = absurd k
  folders_agree (suc levels) (suc others) folder trees more es fs h k =
      trees_agree (AreFolderTrees levels files) (AreFolderTrees others files) (folder_filled files levels) (folder_filled files others) (folders_agree levels others) folder trees more es fs h k

  -- an index has one list of trees at most
  pub one_list : (trees others : List (List Entry)) (root other : List Entry) → AreIndexTrees files trees root → AreIndexTrees files others other → (trees ≡ others) × (root ≡ other)
  one_list trees others root other h k = folders_agree h.levels k.levels [] trees others root other h.is k.is
