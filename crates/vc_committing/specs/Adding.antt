-- What `add` does to a node: the files of the work tree that the words name are staged.
use Rattle.std.specs.Prelude.{◌≡◌, ◌⊎◌, ◌++◌, ⊤, ℕ, Bool, false, true, List, [], ◌∷◌, String, map, codes, string_bytes, None, unwrap_or}
use Rattle.std.specs.FinMap.{get, insert}
use Rattle.std.specs.Global.{Global}
use Rattle.std.specs.List.{AllByRecursion, flat_map}
use Rattle.vc_files.specs.FileMap.{FileMap, SameOutside}
use Rattle.vc_index.specs.IndexMap.{IndexMap, HasConflict}
use Rattle.vc_index.specs.IndexText.{TextFault}
use Rattle.vc_index.specs.Path.{IsPath}
use Rattle.vc_model.specs.Clone.{Awaited, CloneNode}
use Rattle.vc_model.specs.Clone.Task.{Write}
use Rattle.vc_model.specs.CloneCall.{CloneAnswers}
use Rattle.vc_model.specs.CloneCall.CloneCall.{Command}
use Rattle.vc_model.specs.Node.Answer.{Did}
use Rattle.vc_model.specs.Node.Reply.{Made}
use Rattle.vc_model.specs.Object.{blob}
use Rattle.vc_object.specs.Decoding.{StoredObject, stored_object}
use Rattle.vc_object.specs.Object.{IsObject, object_name}
use Rattle.vc_object.specs.ObjectFault.{BodyFault}
use Rattle.vc_object.specs.declared.kind.Kind.TheVariants.{Blob}
use Rattle.vc_object.specs.declared.id.ObjectId.{ObjectId}
use Rattle.vc_object.specs.declared.mode.Mode.{Mode}
use Rattle.vc_values.specs.Faults.{object_number}
use Rattle.vc_rules.specs.Git.{git}
use Rattle.vc_values.proofs.GitLaws.{git_rules}
use Rattle.vc_object_map.specs.Store.{IsDamaged, objects, with_objects}
use Rattle.vc_object_map.specs.declared.faults.StoreFault.TheVariants as store
use Rattle.vc_node.specs.Held.{Held}
use Rattle.vc_local.specs.Blames.{BlamesOpen}
use Rattle.vc_local.specs.Emptying.{IsOpened, LosesCarried}
use Rattle.vc_local.specs.IndexFile.{index_bytes}
use Rattle.vc_local.specs.Clean.{KeepsClean}
use Rattle.vc_node.specs.Stored.{KeepsStored}
use Rattle.vc_local.specs.Machine.{ShowsNode}
use Rattle.vc_local.specs.Shown.{shown}
use Rattle.vc_local.specs.Staging.{File, RefusesOne, StagesAll, file_placed}
use Rattle.vc_local.specs.declared.fault.NodeFault.TheVariants as node
use Rattle.vc_local.specs.declared.staging.Staged.{Staged}
use Rattle.vc_working.specs.Naming.{FirstWord, IsBadWord, Names, NamesNone, files_named_by}
use Rattle.vc_cli.specs.declared.failure.Failure.{Failure}
use Rattle.vc_cli.specs.declared.failure.Failure.TheVariants.{Node, NoSuchPath, Object, Fault}

-- ---- the files

-- the file of the work tree at the path, with its bytes
abbrev pub file_at : FileMap → Mode → List ℕ → File
file_at work mode path = record { path = path; mode = mode; body = unwrap_or (get work path) [] }

-- the files at these paths
abbrev pub files_at : FileMap → Mode → List (String Global) → List File
files_at work mode paths = map (file_at work mode) (map string_bytes paths)

-- each body is one of a blob
abbrev pub AreBlobs : List File → Type 0
AreBlobs = AllByRecursion (λ (f : File). IsObject Blob f.body)

-- the files that the words name, one after the other
abbrev pub files_named : FileMap → (own : List ℕ) → Mode → List (List ℕ) → List File
files_named work own mode words = map (file_at work mode) (flat_map (files_named_by work own) words)

-- why a file is not staged beside those of an index: its path (60), a conflict (61), or bytes that are no blob's (3); or a fault
abbrev pub IsOfFile : IndexMap → File → Failure → Type 0
IsOfFile m f (Node node.BadPath) = ¬ IsPath f.path
IsOfFile m f (Node node.PathConflict) = IsPath f.path × HasConflict m f.path
IsOfFile m f (Node (node.Store (store.Fault fault))) = ⊤
IsOfFile m f (Object fault) = IsPath f.path × (¬ HasConflict m f.path) × BodyFault Blob f.body fault
IsOfFile m f (Fault fault) = ⊤
IsOfFile m f _ = ⊥

-- those before one may be staged behind each other, and that one is refused so
abbrev pub RefusesFiles : IndexMap → List File → Failure → Type 0
RefusesFiles m [] e = ⊥
RefusesFiles m (f ∷ fs) e =
    IsOfFile m f e ⊎ (IsPath f.path × (¬ HasConflict m f.path) × IsObject Blob f.body × RefusesFiles (insert m f.path (file_placed f).1) fs e)

-- what is to be staged is the file, under the name of its blob
pub record IsNamed (staged : Staged) (f : File) : Type 0 where
  pub path : staged.path.items ≡ f.path
  pub mode : staged.mode ≡ f.mode
  pub name : staged.id ≡ object_name Blob f.body

abbrev pub AreNamed : List Staged → List File → Type 0
AreNamed [] [] = ⊤
AreNamed (t ∷ ts) (f ∷ fs) = IsNamed t f × AreNamed ts fs
AreNamed [] (f ∷ fs) = ⊥
AreNamed (t ∷ ts) [] = ⊥

-- ---- the node

-- the machine stores the blobs of all files, one after the other
abbrev pub WritesAll : List File → CloneNode → CloneNode → Type 0
WritesAll [] n m = m ≡ n
WritesAll (f ∷ fs) n m = (k : CloneNode) × CloneAnswers git git_rules n (Command (Write (blob f.body))) (Did (Made (object_name Blob f.body).0)) k None × WritesAll fs k m

-- the blob of a file, as an object
abbrev pub file_blob : File → StoredObject
file_blob f = stored_object Blob f.body

-- the id is the name of the blob of one of the files
abbrev pub IsBlobOfOne : List File → ObjectId → Type 0
IsBlobOfOne [] id = ⊥
IsBlobOfOne (f ∷ fs) id = (id ≡ object_name Blob f.body) ⊎ IsBlobOfOne fs id

-- the blobs of these files are stored, and no other object comes or goes; no file is made bad, and those that are no objects' are as they were
pub record StoresBlobs (files : List File) (old new : FileMap) : Type 0 where
  pub stored : objects new ≡ with_objects (objects old) (map file_blob files)
  pub outside : SameOutside (codes "objects/") old new
  pub clean : KeepsClean old new

-- the same of the first of the files: of all, of some or of none
pub record StoresFirst (files : List File) (old new : FileMap) : Type 0 where
  pub done : List File
  pub rest : List File
  pub split : files ≡ done ++ rest
  pub blobs : StoresBlobs done old new

-- the blobs of these files are stored; and whatever node was shown, and whatever it awaits, that is done by its commands, and the node that
-- they lead to is shown then
pub record StoresFiles (files : List File) (was_up is_up : Bool) (old new : FileMap) : Type 0 where
  pub each : (awaited : Awaited) (n : CloneNode) → ShowsNode (shown old) was_up awaited n → (m : CloneNode) × ShowsNode (shown new) is_up awaited m × WritesAll files n m
  pub blobs : StoresBlobs files old new

-- why they are not all stored: a file in the place of one of them was damaged before, or a fault; blobs of the first of them at most are stored
abbrev pub IsOfStoring : List File → FileMap → FileMap → Failure → Type 0
IsOfStoring files old new (Node (node.Store (store.Damaged id))) = IsDamaged old id × IsBlobOfOne files id × StoresFirst files old new
IsOfStoring files old new (Node (node.Store (store.Fault fault))) = StoresFirst files old new
IsOfStoring files old new (Fault fault) = StoresFirst files old new
IsOfStoring files old new _ = ⊥

-- each word names files, and whatever node was shown, and whatever it awaits: by its commands the blobs of all of them are stored, then
-- each is staged, in their order, and the node that they lead to is shown then; no object is lost, and no file made bad
pub record AddsFiles (work : FileMap) (own : List ℕ) (mode : Mode) (words : List (List ℕ)) (was_up is_up : Bool) (old new : FileMap) : Type 0 where
  pub names : AllByRecursion (Names work own) words
  pub each : (awaited : Awaited) (n : CloneNode) → ShowsNode (shown old) was_up awaited n
      → (k m : CloneNode) × WritesAll (files_named work own mode words) n k × StagesAll (files_named work own mode words) k m × ShowsNode (shown new) is_up awaited m
  pub kept : KeepsStored old new

-- nothing has changed
pub record IsUnchanged (was_up is_up : Bool) (old new : FileMap) : Type 0 where
  pub files : new ≡ old
  pub up : is_up ≡ was_up

-- each word names files; whatever node was shown, the machine stages the first of them, one after the other, and refuses the next one
-- with this number; and nothing has changed
pub record RefusesOneNamed (work : FileMap) (own : List ℕ) (mode : Mode) (words : List (List ℕ)) (was_up is_up : Bool) (old new : FileMap) (number : ℕ) : Type 0 where
  pub names : AllByRecursion (Names work own) words
  pub one : (awaited : Awaited) (n : CloneNode) → ShowsNode (shown old) was_up awaited n → RefusesOne (files_named work own mode words) n number
  pub same : IsUnchanged was_up is_up old new

-- what a refusal says, and what it leaves
abbrev pub RefusesAdd : FileMap → (own : List ℕ) → Mode → List (List ℕ) → (was_up is_up : Bool) → (old new : FileMap) → Failure → Type 0
RefusesAdd work own mode words was_up is_up old new (Node node.BadPath) =
    (FirstWord work own (IsBadWord own) words × IsUnchanged was_up is_up old new) ⊎ RefusesOneNamed work own mode words was_up is_up old new 60
RefusesAdd work own mode words was_up is_up old new NoSuchPath = FirstWord work own (NamesNone work own) words × IsUnchanged was_up is_up old new
RefusesAdd work own mode words was_up is_up old new (Node node.PathConflict) = RefusesOneNamed work own mode words was_up is_up old new 61
RefusesAdd work own mode words was_up is_up old new (Object fault) = RefusesOneNamed work own mode words was_up is_up old new (object_number fault)
RefusesAdd work own mode words was_up is_up old new (Node node.Down) = (was_up ≡ false) × (new ≡ old)
RefusesAdd work own mode words was_up is_up old new (Node (node.BadIndex place)) = TextFault (index_bytes old) place × IsUnchanged was_up is_up old new
RefusesAdd work own mode words was_up is_up old new e = IsOfStoring (files_named work own mode words) old new e

-- ---- of the node as one value

abbrev pub StoresInto : {F : Type 0} → (F → FileMap) → List File → Held F → Held F → Type 0
StoresInto content files old new = StoresFiles files old.is_up new.is_up (content old.files) (content new.files)

abbrev pub AddsInto : {F : Type 0} → (F → FileMap) → FileMap → List ℕ → Mode → List (List ℕ) → Held F → Held F → Type 0
AddsInto content work own mode words old new = AddsFiles work own mode words old.is_up new.is_up (content old.files) (content new.files)

abbrev pub RefusesInto : {F : Type 0} → (F → FileMap) → FileMap → List ℕ → Mode → List (List ℕ) → Held F → Held F → Failure → Type 0
RefusesInto content work own mode words old new e = RefusesAdd work own mode words old.is_up new.is_up (content old.files) (content new.files) e

-- ---- of files that are opened first

-- the files were opened as a clone's, and then the files that the words name were staged
pub record AddsTo (work : FileMap) (own : List ℕ) (mode : Mode) (words : List (List ℕ)) (old new : FileMap) : Type 0 where
  pub between : FileMap
  pub opened : IsOpened old between
  pub is_up : Bool
  pub added : AddsFiles work own mode words true is_up between new

-- they are no clone's, and stay but for what stood in quarantine
abbrev pub IsOfOpening : FileMap → FileMap → Failure → Type 0
IsOfOpening old new (Node fault) = BlamesOpen old fault × LosesCarried old new
IsOfOpening old new _ = ⊥

-- they were opened, and then this refused to stage
pub record RefusesAddTo (work : FileMap) (own : List ℕ) (mode : Mode) (words : List (List ℕ)) (old new : FileMap) (e : Failure) : Type 0 where
  pub between : FileMap
  pub opened : IsOpened old between
  pub is_up : Bool
  pub refused : RefusesAdd work own mode words true is_up between new e

-- why nothing is staged
abbrev pub IsOfAdding : FileMap → (own : List ℕ) → Mode → List (List ℕ) → FileMap → FileMap → Failure → Type 0
IsOfAdding work own mode words old new e = IsOfOpening old new e ⊎ RefusesAddTo work own mode words old new e
