-- What the commands that look at a store print, and why they may print nothing. `Told` says of the text of an answer what became of
-- it: all of it went out, or a front.
use Rattle.std.specs.Prelude.{◌≡◌, ◌⊎◌, ◌↔◌, ℕ, Bool, not, ⊤, List, [], ◌∷◌, ◌++◌, length, ◌==◌, decimal, Option, Some, Contains, Ok, Err}
use Rattle.std.specs.List.{flat_map}
use Rattle.hex.specs.Hex.{encode_lower}
use Rattle.vc_arguments.specs.declared.arguments.Part.{Part}
use Rattle.vc_arguments.specs.declared.arguments.Part.TheVariants.{Kind, Size, Body}
use Rattle.vc_history.specs.HistoryFault.{IsTold}
use Rattle.vc_object_map.specs.History.{IsBestCommonAncestor}
use Rattle.vc_files.specs.FileMap.{FileMap}
use Rattle.vc_object.specs.Decoding.{StoredObject}
use Rattle.vc_object.specs.Kind.{word}
use Rattle.vc_object.specs.ObjectId.{IsSortedByName}
use Rattle.vc_object.specs.ObjectMap.{ObjectMap, parents_in}
use Rattle.vc_object.specs.declared.id.ObjectId.{ObjectId}
use Rattle.vc_refs.specs.RefFault.{BlamesList, BlamesPacking, BlamesHead}
use Rattle.vc_refs.specs.RefMap.{RefMap, IsListOf}
use Rattle.vc_object_map.specs.Store.{stored, objects, IsDamaged}
use Rattle.vc_object_map.specs.StoreFault.{IsFault as IsStoreFault}
use Rattle.vc_cli.specs.Failure.{IsFault}
use Rattle.vc_cli.specs.Printed.{id_line}
use Rattle.vc_cli.specs.Revisions.{Denoted, IsOfRevision, IsSelected}
use Rattle.vc_cli.specs.declared.failure.Failure.{Failure}
use Rattle.vc_cli.specs.declared.failure.Failure.TheVariants.{Store, History, Refs, Fault}

-- what `cat-file` prints of an object: its kind and LF, the length of its body in decimal and LF, or its body
abbrev pub part_text : Part → StoredObject → List ℕ
part_text Kind object = word object.kind ++ 10 ∷ []
part_text Size object = decimal (length object.body) ++ 10 ∷ []
part_text Body object = object.body

-- why nothing is told of the object with that name: its place says why, or a fault of memory or a device
abbrev pub IsOfLook : FileMap → ObjectId → Failure → Type 0
IsOfLook content id (Store fault) = IsStoreFault fault ⊎ (stored content id ≡ Err fault)
IsOfLook content id (Fault fault) = ⊤
IsOfLook content id _ = ⊥

-- the part is printed of the object with that name
pub record PrintsObject (content : FileMap) (id : ObjectId) (part : Part) (Told : List ℕ → Type 0) : Type 0 where
  pub object : StoredObject
  pub there : objects content id ≡ Some object
  pub text : Told (part_text part object)

-- the part is printed of the object that the revision names
pub record PrintsNamed (content : FileMap) (revision : List ℕ) (part : Part) (Told : List ℕ → Type 0) : Type 0 where
  pub id : ObjectId
  pub value : Denoted content revision (Ok id)
  pub object : PrintsObject content id part Told

-- why nothing is told of the object that the revision names: it names none, or nothing is told of that one
abbrev pub IsOfNamed : FileMap → List ℕ → Failure → Type 0
IsOfNamed content text e = IsOfRevision content text e ⊎ ((id : ObjectId) × Denoted content text (Ok id) × IsOfLook content id e)

-- the line of a ref: its id, a space, its name and LF
abbrev pub ref_line : List ℕ × ObjectId → List ℕ
ref_line (name, id) = encode_lower id.0 ++ (32 ∷ (name ++ 10 ∷ []))

-- all refs are printed, each once, in the order of their names
pub record PrintsRefs (refs : RefMap) (Told : List ℕ → Type 0) : Type 0 where
  pub listed : List (List ℕ × ObjectId)
  pub all : IsListOf refs listed
  pub text : Told (flat_map ref_line listed)

-- why no ref is printed: a file of the refs can't be read, or a fault
abbrev pub IsOfList : FileMap → Failure → Type 0
IsOfList content (Refs fault) = BlamesList content fault
IsOfList content (Fault fault) = ⊤
IsOfList content _ = ⊥

-- why no ref is packed: a file of the refs can't be read, one of them is a folder of another, or a fault
abbrev pub IsOfPacking : FileMap → Failure → Type 0
IsOfPacking content (Refs fault) = BlamesPacking content fault
IsOfPacking content (Fault fault) = ⊤
IsOfPacking content _ = ⊥

-- the best common ancestors are printed, each once and by name, and it is told whether there is one
pub record PrintsBases (objects : ObjectMap) (a b : ObjectId) (some : Bool) (Told : List ℕ → Type 0) : Type 0 where
  pub bases : List ObjectId
  pub best : (id : ObjectId) → Contains bases id ↔ IsBestCommonAncestor (parents_in objects) a b id
  pub sorted : IsSortedByName bases
  pub text : Told (flat_map id_line bases)
  pub told : some ≡ not (length bases == 0)

abbrev pub SomeBases : ObjectMap → (a b : ObjectId) → (List ℕ → Type 0) → Type 0
SomeBases objects a b Told = (some : Bool) × PrintsBases objects a b some Told

-- why no common ancestor is printed: what stands in the way in the history of the two, or a fault
abbrev pub IsOfBases : FileMap → ObjectId → ObjectId → Failure → Type 0
IsOfBases content a b (History fault) = IsTold (objects content) (IsDamaged content) (a ∷ b ∷ []) fault
IsOfBases content a b (Fault fault) = ⊤
IsOfBases content a b _ = ⊥

-- the best common ancestors of what the revisions name are printed, and it is told whether there is one
pub record PrintsCommon (content : FileMap) (first second : List ℕ) (some : Bool) (Told : List ℕ → Type 0) : Type 0 where
  pub a : ObjectId
  pub b : ObjectId
  pub first_is : Denoted content first (Ok a)
  pub second_is : Denoted content second (Ok b)
  pub bases : PrintsBases (objects content) a b some Told

abbrev pub SomeCommon : FileMap → (first second : List ℕ) → (List ℕ → Type 0) → Type 0
SomeCommon content first second Told = (some : Bool) × PrintsCommon content first second some Told

-- why they are not: the first revision names nothing, or the second; or what stands in the way in the history of the two
abbrev pub IsOfCommon : FileMap → (first second : List ℕ) → Failure → Type 0
IsOfCommon content first second e =
    IsOfRevision content first e
    ⊎ ((a : ObjectId) × Denoted content first (Ok a)
    × (IsOfRevision content second e ⊎ ((b : ObjectId) × Denoted content second (Ok b) × IsOfBases content a b e)))

-- why HEAD is not made: its file says neither a ref nor an id, or a fault
abbrev pub IsOfHead : FileMap → Failure → Type 0
IsOfHead content (Refs fault) = BlamesHead content fault
IsOfHead content (Fault fault) = ⊤
IsOfHead content _ = ⊥

-- why no value is printed: the revision has none; or it has one, and a fault kept that from being printed
abbrev pub IsOfPrinting : FileMap → List ℕ → Failure → Type 0
IsOfPrinting content text e = IsOfRevision content text e ⊎ (IsFault e × (id : ObjectId) × Denoted content text (Ok id))

-- the value of the revision is printed
pub record PrintsValue (content : FileMap) (revision : List ℕ) (Told : List ℕ → Type 0) : Type 0 where
  pub id : ObjectId
  pub value : Denoted content revision (Ok id)
  pub text : Told (id_line id)

-- the commits that the terms select are printed, each once and by name
pub record PrintsSelected (content : FileMap) (terms : List ℕ) (Told : List ℕ → Type 0) : Type 0 where
  pub ids : List ObjectId
  pub selected : IsSelected content terms ids
  pub sorted : IsSortedByName ids
  pub text : Told (flat_map id_line ids)
