-- The trees of an index as one list, whatever their names: folder by folder, the trees of the folders in it, in the order
-- of its entries, and then its own.
use Rattle.std.specs.Prelude.{◌≡◌, ◌≢◌, ◌≤◌, ◌<◌, ◌⊎◌, ℕ, zero, suc, List, [], ◌∷◌, ◌++◌, length, IsSome, Some}
use Rattle.std.specs.FinMap.{get}
use Rattle.std.specs.List.{AllByRecursion}
use Rattle.vc_object.specs.Bytes.{Without}
use Rattle.vc_object.specs.Object.{object_name, max_body}
use Rattle.vc_object.specs.Tree.{Entry, HasName, IsTree, spelling}
use Rattle.vc_object.specs.declared.id.ObjectId.{ObjectId}
use Rattle.vc_object.specs.declared.kind.Kind.TheVariants as kinds
use Rattle.vc_object.specs.declared.mode.Mode.TheVariants as modes
use Rattle.vc_index.specs.IndexMap.{IndexMap, IsIndex, index_entry}
use Rattle.vc_index.specs.Path.{IsAbove}

-- the path's first name: all of it, or what stands before its first `/`
abbrev pub IsFirstName : List ℕ → List ℕ → Type 0
IsFirstName name path = Without 47 name × ((path ≡ name) ⊎ IsAbove name path)

-- each file in the folder, whose path ends in `/` or is empty, stands under an entry: the one with the first name of what
-- follows the folder in its path
abbrev pub NamesAll : IndexMap → List ℕ → List Entry → Type 0
NamesAll files folder entries = (path name : List ℕ) → IsSome (get files (folder ++ path)) → IsFirstName name path → HasName entries name

-- the lists that the elements have, one after another
abbrev pub AreJoined : {X : Type 0} → (X → List (List Entry) → Type 0) → List X → List (List Entry) → Type 0
AreJoined Has [] trees = trees ≡ []
AreJoined Has (x ∷ xs) trees = (own : List (List Entry)) × (rest : List (List Entry)) × (trees ≡ own ++ rest) × Has x own × AreJoined Has xs rest

-- the trees that an entry of a folder has: a file of the index none, and a folder, which is not empty, those that lie in
-- it, its own among them, and that one's name is the entry's
abbrev pub AreEntryTrees : IndexMap → (List ℕ → List (List Entry) → List Entry → Type 0) → List ℕ → Entry → List (List Entry) → Type 0
AreEntryTrees files Inner folder entry own =
    ((entry.mode ≢ modes.Tree) × (get files (folder ++ entry.name) ≡ Some (index_entry entry.mode entry.id)) × (own ≡ []))
    ⊎ ((entry.mode ≡ modes.Tree) × ((inner : List Entry) × (inner ≢ []) × (entry.id ≡ object_name kinds.Tree (spelling inner)) × Inner ((folder ++ entry.name) ++ 47 ∷ []) own inner))

-- the trees of a folder, from those of the folders in it: theirs, in the order of its entries, and then its own tree, of
-- these entries
pub record AreTreesOver (files : IndexMap) (Inner : List ℕ → List (List Entry) → List Entry → Type 0) (folder : List ℕ) (trees : List (List Entry)) (entries : List Entry) : Type 0 where
  pub below : List (List Entry)
  pub is : trees ≡ below ++ entries ∷ []
  pub tree : IsTree entries
  pub names : NamesAll files folder entries
  pub joined : AreJoined (AreEntryTrees files Inner folder) entries below

-- the trees of a folder with at most so many levels of folders, itself the first; its path ends in `/` or is empty
abbrev pub AreFolderTrees : ℕ → IndexMap → List ℕ → List (List Entry) → List Entry → Type 0
AreFolderTrees zero files folder trees entries = ⊥
AreFolderTrees (suc levels) files folder trees entries = AreTreesOver files (AreFolderTrees levels files) folder trees entries

-- the trees of an index, the lower ones first: those of its root, whose own tree, of these entries, is the last
pub record AreIndexTrees (files : IndexMap) (trees : List (List Entry)) (root : List Entry) : Type 0 where
  pub levels : ℕ
  pub is : AreFolderTrees levels files [] trees root

-- the tree's spelling is no longer than a body may be
abbrev pub Fits : List Entry → Type 0
Fits entries = length (spelling entries) ≤ max_body

-- each of the trees fits
abbrev pub AllFit : List (List Entry) → Type 0
AllFit trees = AllByRecursion Fits trees

-- each of the index's trees fits
pub record HasFitting (files : IndexMap) : Type 0 where
  pub trees : List (List Entry)
  pub root : List Entry
  pub listed : AreIndexTrees files trees root
  pub fits : AllFit trees

-- the trees are the first ones of the index's, and not all of them
pub record AreFirstTrees (files : IndexMap) (trees : List (List Entry)) : Type 0 where
  pub rest : List (List Entry)
  pub root : List Entry
  pub listed : AreIndexTrees files (trees ++ rest) root
  pub more : rest ≢ []

-- the tree is one of the index's and does not fit, and each before it does
pub record IsFirstLarge (files : IndexMap) (entries : List Entry) : Type 0 where
  pub before : List (List Entry)
  pub after : List (List Entry)
  pub root : List Entry
  pub listed : AreIndexTrees files (before ++ entries ∷ after) root
  pub fits : AllFit before
  pub large : max_body < length (spelling entries)

-- the id is that of one of the index's trees, which fits, as each before it does
pub record IsIndexTree (files : IndexMap) (id : ObjectId) : Type 0 where
  pub before : List (List Entry)
  pub entries : List Entry
  pub after : List (List Entry)
  pub root : List Entry
  pub listed : AreIndexTrees files (before ++ entries ∷ after) root
  pub fits : AllFit (before ++ entries ∷ [])
  pub is : id ≡ object_name kinds.Tree (spelling entries)

-- an index has one list of trees at most
abbrev pub TreesAreOneList : Type 0
TreesAreOneList = (files : IndexMap) → IsIndex files → (trees others : List (List Entry)) (root other : List Entry) → AreIndexTrees files trees root → AreIndexTrees files others other → (trees ≡ others) × (root ≡ other)

-- each index has a list of trees
abbrev pub TreesAreThere : Type 0
TreesAreThere = (files : IndexMap) → IsIndex files → (trees : List (List Entry)) × (root : List Entry) × AreIndexTrees files trees root
