-- How far the writing of an index's trees has come: its files and the trees that were stored, as parts of folders
-- that are open, the lowest folder last.
use Rattle.std.specs.Prelude.{◌≡◌, ◌↔◌, ◌⊎◌, ℕ, List, [], ◌∷◌, ◌++◌, map, length, ◌-◌, IsSome, None, Some, slice_get, Result, IfErr, OnOk}
use Rattle.std.specs.List.{AllByRecursion}
use Rattle.std.specs.Option.{option_map_or}
use Rattle.std.specs.FinMap.{get, entries}
use Rattle.std.specs.Ordering.{nat_cmp}
use Rattle.std.specs.Cmp.Lexicographic.{slice_cmp}
use Rattle.std.specs.declared.cmp.Ordering.TheVariants.{Less}
use Rattle.vc_object.specs.Bytes.{Without}
use Rattle.vc_object.specs.ObjectMap.{ObjectMap}
use Rattle.vc_object.specs.Tree.{Entry, IsName, key}
use Rattle.vc_object.specs.declared.id.ObjectId.{ObjectId}
use Rattle.vc_object.specs.declared.mode.Mode.{Mode}
use Rattle.vc_object_map.specs.Store.{with_objects}
use Rattle.vc_index.specs.FolderTrees.{AllFit, AreEntryTrees, AreFirstTrees, AreFolderTrees, AreJoined}
use Rattle.vc_index.specs.HeldFiles.{Pair, HasFile}
use Rattle.vc_index.specs.IndexMap.{IndexMap, IsIndex, index_entry}
use Rattle.vc_index.specs.Part.{EndsInSlash, part_entry, part_pair, without_id}
use Rattle.vc_index.specs.Path.{names_in, IsAbove}
use Rattle.vc_index.specs.WrittenTrees.{Holds, IsOfFolder, IsOfWrite, IsPart, AreLowerTrees, tree_object}
use Rattle.vc_index.specs.declared.faults.IndexFault.{IndexFault}
use Rattle.vc_index.specs.declared.trees.Part.{Part}

-- the first text begins the second
abbrev pub Begins : List ℕ → List ℕ → Type 0
Begins front text = (rest : List ℕ) × (text ≡ front ++ rest)

-- each part's folder is one of the folders of those behind it
abbrev pub Nested : List Part → Type 0
Nested [] = Unit {0}
Nested (part ∷ parts) = AllByRecursion (λ other. Begins part.folder.now other.folder.now) parts × Nested parts

-- a part has a legal path, cut at its last slash, stands for a file or a folder of the index, and leads to a file of
-- the index or to a tree that is stored
pub record IsSoundPart (files : IndexMap) (trees : List (List Entry)) (part : Part) : Type 0 where
  pub names : AllByRecursion IsName (names_in (part.folder.now ++ part.name.now))
  pub plain : Without 47 part.name.now
  pub ends : EndsInSlash part.folder.now
  pub id : length part.entry.id.0 ≡ 20
  pub of_folder : IsOfFolder files part.folder.now (part_entry part)
  pub leads : IsPart files trees (part_entry part)

-- where a pair stands in the order: a folder's path goes as though it ended in `/`
abbrev pub place : Pair → List ℕ
place e = key e.1.mode e.0

-- the pair comes before the other, and its path is not that of a folder above the other's
pub record ComesFirst (e other : Pair) : Type 0 where
  pub below : slice_cmp nat_cmp (place e) (place other) ≡ Less
  pub apart : IsAbove e.0 (place other) → ⊥

-- each pair comes before all that follow it
abbrev pub InPlaces : List Pair → Type 0
InPlaces [] = Unit {0}
InPlaces (e ∷ others) = AllByRecursion (ComesFirst e) others × InPlaces others

-- the path is the next one of what is left, if there is one
abbrev pub IsNext : List ℕ → List Pair → Type 0
IsNext next [] = Unit {0}
IsNext next (e ∷ rest) = place e ≡ next

-- the next of what is left, if there is one, lies not in the folder
abbrev pub IsLeft : List ℕ → List Pair → Type 0
IsLeft folder [] = Unit {0}
IsLeft folder (e ∷ rest) = Begins folder (place e) → ⊥

-- one of the pairs has the path, or is a folder above it
abbrev pub HasOver : List Pair → List ℕ → Type 0
HasOver [] path = ⊥
HasOver (e ∷ es) path = ((e.0 ≡ path) ⊎ IsAbove e.0 path) ⊎ HasOver es path

-- the trees that a part has, with at most so many levels of folders
abbrev pub ArePartTrees : IndexMap → ℕ → Part → List (List Entry) → Type 0
ArePartTrees files levels part own = AreEntryTrees files (AreFolderTrees levels files) part.folder.now (part_entry part) own

-- the parts, with the trees stored and with what is left, have the files of the index; the trees stored are those of the
-- parts, one after another
pub record Building (files : IndexMap) (trees : List (List Entry)) (parts : List Part) (rest : List Pair) : Type 0 where
  pub same_files : (objects : ObjectMap) → Holds objects trees → (path : List ℕ) (mode : Mode) (id : ObjectId)
      → HasFile objects (map part_pair parts ++ rest) path mode id ↔ (get files path ≡ Some (index_entry mode id))
  pub below : AreLowerTrees files [] trees
  pub each : AllByRecursion (IsSoundPart files trees) parts
  pub nested : Nested parts
  pub order : InPlaces (map part_pair parts ++ rest)
  pub levels : ℕ
  pub listed : AreJoined (ArePartTrees files levels) parts trees
  pub covers : (path : List ℕ) → IsSome (get files path) → HasOver (map part_pair parts ++ rest) path
  pub index : IsIndex files
  pub walked : (front : List Pair) × (entries files ≡ front ++ rest)

-- the last part's folder is one of the folders of the path
abbrev pub IsInside : List ℕ → List Part → Type 0
IsInside path parts = (front : List Part) (part : Part) → parts ≡ front ++ part ∷ [] → Begins part.folder.now path

-- more trees of the index were stored behind these, and they are its first ones together
pub record Stands (honest : Type 0) (files : IndexMap) (trees : List (List Entry)) (old new : ObjectMap) : Type 0 where
  pub more : List (List Entry)
  pub below : AreLowerTrees files [] (trees ++ more)
  pub first : AreFirstTrees files (trees ++ more)
  pub fits : AllFit more
  pub stored : honest → new ≡ with_objects old (map tree_object more)

-- more trees were stored behind these, and these are the parts now
pub record Closes (honest : Type 0) (files : IndexMap) (rest : List Pair) (trees : List (List Entry)) (parts : List Part) (old new : ObjectMap) : Type 0 where
  pub more : List (List Entry)
  pub building : Building files (trees ++ more) parts rest
  pub fits : AllFit more
  pub stored : honest → new ≡ with_objects old (map tree_object more)

-- how long the path of the last part's folder is
abbrev pub open_length : List Part → ℕ
open_length parts = option_map_or (λ (part : Part). length part.folder.now) (slice_get parts (length parts - 1)) 0

-- ---- what the closing of folders says of any index that is built so far from these parts, where what is left of it is so

-- the trees of the folders are stored, and these are the parts then
abbrev pub ClosesFolders : {E : Type 0} → (IsSo : List Pair → Type 0) → (honest : Type 0) → (before after : List Part) → (old new : ObjectMap) → Result (Unit {0}) E → Type 0
ClosesFolders IsSo honest before after old new result =
    (m : IndexMap) (trees : List (List Entry)) (rest : List Pair) → IsSo rest → Building m trees before rest → OnOk result (Closes honest m rest trees after old new)

-- the parts stand, without their ids, for parts with which more trees of the index fit; nothing is said of any store
pub record Joins (files : IndexMap) (rest : List Pair) (trees : List (List Entry)) (parts : List Part) : Type 0 where
  pub named : List Part
  pub same : parts ≡ map without_id named
  pub closes : Closes ⊥ files rest trees named (λ _. None) (λ _. None)

-- the trees of the folders fit, and these are the parts then, without their ids
abbrev pub JoinsFolders : {E : Type 0} → (IsSo : List Pair → Type 0) → (before after : List Part) → Result (Unit {0}) E → Type 0
JoinsFolders IsSo before after result =
    (m : IndexMap) (trees : List (List Entry)) (rest : List Pair) (named : List Part) → IsSo rest → before ≡ map without_id named → Building m trees named rest → OnOk result (Joins m rest trees after)

-- what a refusal blames, if the trees so far fit; the parts stand without their ids
abbrev pub RefusesJoins : (IsSo : List Pair → Type 0) → (before : List Part) → Result (Unit {0}) IndexFault → Type 0
RefusesJoins IsSo before result =
    (m : IndexMap) (trees : List (List Entry)) (rest : List Pair) (named : List Part) → IsSo rest → AllFit trees → before ≡ map without_id named → Building m trees named rest → IfErr result (IsOfWrite m (λ _. ⊥))

-- wherever it ends, trees of the index were stored and nothing else
abbrev pub StandsBehind : (IsSo : List Pair → Type 0) → (honest : Type 0) → (before : List Part) → (old new : ObjectMap) → Type 0
StandsBehind IsSo honest before old new =
    (m : IndexMap) (trees : List (List Entry)) (rest : List Pair) → IsSo rest → Building m trees before rest → Stands honest m trees old new

-- what a refusal blames, where the trees so far fit
abbrev pub RefusesFolders : (IsSo : List Pair → Type 0) → (before : List Part) → (IsDamaged : ObjectId → Type 0) → Result (Unit {0}) IndexFault → Type 0
RefusesFolders IsSo before IsDamaged result =
    (m : IndexMap) (trees : List (List Entry)) (rest : List Pair) → IsSo rest → AllFit trees → Building m trees before rest → IfErr result (IsOfWrite m IsDamaged)
