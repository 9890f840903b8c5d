-- Many files that are put into the index at once: the machine stages one after the other.
use Rattle.std.specs.Prelude.{◌≡◌, ◌≢◌, ◌⊎◌, ℕ, Bool, List, [], ◌∷◌, IsSome, None, map}
use Rattle.std.specs.FinMap.{get, insert}
use Rattle.vc_files.specs.FileMap.{FileMap}
use Rattle.vc_index.specs.IndexFault.{IsOfAdd}
use Rattle.vc_index.specs.IndexMap.{IndexMap, HasConflict, index_entry}
use Rattle.vc_index.specs.Path.{IsPath}
use Rattle.vc_index.specs.declared.entry.IndexEntry.{IndexEntry}
use Rattle.vc_index.specs.declared.faults.IndexFault.{IndexFault}
use Rattle.vc_index.specs.declared.faults.IndexFault.TheVariants as index
use Rattle.vc_model.specs.Clone.{Awaited, CloneNode, Task}
use Rattle.vc_model.specs.Clone.Task.{Stage}
use Rattle.vc_model.specs.CloneCall.{CloneAnswers}
use Rattle.vc_model.specs.CloneCall.CloneCall.{Command}
use Rattle.vc_model.specs.Node.{Answer}
use Rattle.vc_model.specs.Node.Answer.{Did, Declined, Fault}
use Rattle.vc_model.specs.Node.Reply.{Stored}
use Rattle.vc_model.specs.Object.{Objects}
use Rattle.vc_object.specs.Object.{IsObject, object_name}
use Rattle.vc_object.specs.declared.kind.Kind.TheVariants.{Blob}
use Rattle.vc_object.specs.declared.mode.Mode.{Mode}
use Rattle.vc_rules.specs.Git.{git, mode_number}
use Rattle.vc_values.proofs.GitLaws.{git_rules}
use Rattle.vc_object_map.specs.StoreFault.{IsFault as IsStoreFault}
use Rattle.vc_local.specs.Machine.{HoldsNode, ShowsNode}
use Rattle.vc_local.specs.Shown.{HasIndex, Shown}
use Rattle.vc_local.specs.declared.fault.NodeFault.{NodeFault}
use Rattle.vc_local.specs.declared.fault.NodeFault.TheVariants.{Store, BadPath, PathConflict}
use Rattle.vc_local.specs.declared.staging.Staged.{Staged}

-- ---- the index

-- where a file is to stand, and what is to stand there
abbrev pub placed : Staged → List ℕ × IndexEntry
placed s = (s.path.items, index_entry s.mode s.id)

abbrev pub places : List Staged → List (List ℕ × IndexEntry)
places staged = map placed staged

-- the index with these put into it, one after the other
abbrev pub with_all : IndexMap → List (List ℕ × IndexEntry) → IndexMap
with_all m [] = m
with_all m (e ∷ es) = with_all (insert m e.0 e.1) es

-- each is at a path, and conflicts with nothing of the index as those before it have made it
abbrev pub MayStandAll : IndexMap → List (List ℕ × IndexEntry) → Type 0
MayStandAll m [] = Unit {0}
MayStandAll m (e ∷ es) = IsPath e.0 × (¬ HasConflict m e.0) × MayStandAll (insert m e.0 e.1) es

-- each may stand there, they are put into the index, and the rest is as before
pub record AreStaged (old : FileMap) (m : IndexMap) (es : List (List ℕ × IndexEntry)) (new : FileMap) : Type 0 where
  pub may : MayStandAll m es
  pub is : HasIndex old (with_all m es) new

-- those before one may stand there, and that one is refused so
abbrev pub RefusesFirst : IndexMap → List (List ℕ × IndexEntry) → IndexFault → Type 0
RefusesFirst m [] fault = ⊥
RefusesFirst m (e ∷ es) fault = IsOfAdd m e.0 fault ⊎ (IsPath e.0 × (¬ HasConflict m e.0) × RefusesFirst (insert m e.0 e.1) es fault)

-- why none is staged: the first that may not stand there, or a fault, where there is one to stage
abbrev pub BlamesStaging : IndexMap → List (List ℕ × IndexEntry) → NodeFault → Type 0
BlamesStaging m es BadPath = RefusesFirst m es index.BadPath
BlamesStaging m es PathConflict = RefusesFirst m es index.PathConflict
BlamesStaging m es (Store fault) = IsStoreFault fault × (es ≢ [])
BlamesStaging m es _ = ⊥

-- ---- the machine

-- a file, with the body of its blob
pub record File : Type 0 where
  pub path : List ℕ
  pub mode : Mode
  pub body : List ℕ

-- where it is to stand, and what is to stand there
abbrev pub file_placed : File → List ℕ × IndexEntry
file_placed f = (f.path, index_entry f.mode (object_name Blob f.body))

-- the machine's command that stages it
abbrev pub staging : File → Task
staging f = Stage f.path (mode_number f.mode) f.body

-- what is to be staged is this file, and an object of its name is stored
pub record IsOf (s : Objects) (staged : Staged) (f : File) : Type 0 where
  pub path : staged.path.items ≡ f.path
  pub mode : staged.mode ≡ f.mode
  pub name : staged.id ≡ object_name Blob f.body
  pub legal : IsObject Blob f.body
  pub stored : IsSome (get s staged.id.0)

-- each is one of the files, in their order
abbrev pub AreOf : Objects → List Staged → List File → Type 0
AreOf s [] [] = Unit {0}
AreOf s (t ∷ ts) (f ∷ fs) = IsOf s t f × AreOf s ts fs
AreOf s [] (f ∷ fs) = ⊥
AreOf s (t ∷ ts) [] = ⊥

-- the machine's answer to the command that stages the file
abbrev pub AnswersStage : CloneNode → File → Answer → CloneNode → Type 0
AnswersStage n f a m = CloneAnswers git git_rules n (Command (staging f)) a m None

-- the machine stages all files, one after the other
abbrev pub StagesAll : List File → CloneNode → CloneNode → Type 0
StagesAll [] n m = m ≡ n
StagesAll (f ∷ fs) n m = (k : CloneNode) × AnswersStage n f (Did Stored) k × StagesAll fs k m

-- it stages those before one, and that one it refuses with this number; with no files a node that is down refuses
abbrev pub RefusesOne : List File → CloneNode → ℕ → Type 0
RefusesOne [] n number = (n.live ≡ None) × (number ≡ 112)
RefusesOne (f ∷ fs) n number = AnswersStage n f (Declined number) n ⊎ ((k : CloneNode) × AnswersStage n f (Did Stored) k × RefusesOne fs k number)

-- a fault ends the first of the commands before anything was done
abbrev pub FailsAtFirst : List File → CloneNode → Answer → CloneNode → Type 0
FailsAtFirst [] n a m = ⊥
FailsAtFirst (f ∷ fs) n a m = AnswersStage n f a m × (m.repository ≡ n.repository)

-- What comes of the files, from one node to the other: all are staged; or one is refused, and nothing has changed; or a fault came.
abbrev pub StagesOr : List File → Answer → CloneNode → CloneNode → Type 0
StagesOr files (Did y) n m = (y ≡ Stored) × StagesAll files n m
StagesOr files (Declined number) n m = RefusesOne files n number × (m ≡ n)
StagesOr files (Fault f) n m = FailsAtFirst files n (Fault f) m

-- Whatever node was shown, and whatever it awaits: of any files that these are, the machine makes the same, and the node that it
-- leads to is shown then.
pub record StagesShown (staged : List Staged) (a : Answer) (was_up is_up : Bool) (old new : Shown) : Type 0 where
  pub each : (awaited : Awaited) (n : CloneNode) (files : List File) → ShowsNode old was_up awaited n → AreOf n.repository.objects staged files
      → (m : CloneNode) × ShowsNode new is_up awaited m × StagesOr files a n m

-- The same of a node that was held.
pub record StagesHeld (staged : List Staged) (a : Answer) (was_up is_up : Bool) (old new : FileMap) : Type 0 where
  pub each : (awaited : Awaited) (n : CloneNode) (files : List File) → HoldsNode old was_up awaited n → AreOf n.repository.objects staged files
      → (m : CloneNode) × HoldsNode new is_up awaited m × StagesOr files a n m

-- Whatever node was held, and whatever files these are: the machine stages them all, or this holds.
abbrev pub StagesAllOr : List Staged → Bool → FileMap → Type 0 → Type 0
StagesAllOr staged was_up old IsLook =
    (awaited : Awaited) (n : CloneNode) (files : List File) → HoldsNode old was_up awaited n → AreOf n.repository.objects staged files
    → ((m : CloneNode) × StagesAll files n m) ⊎ IsLook
