-- What the steps of a checkout do to a work tree as one value, where `content` is what its files hold and `folders` what folders
-- it has of themselves.
use Rattle.std.specs.Prelude.{◌≡◌, ◌⊎◌, ℕ, Bool, List, Option}
use Rattle.std.specs.FinMap.{get}
use Rattle.vc_files.specs.FileMap.{FileMap}
use Rattle.vc_object.specs.ObjectMap.{ObjectMap}
use Rattle.vc_index.specs.IndexMap.{IndexMap}
use Rattle.vc_checkout.specs.Blobs.{HasDueBlobs}
use Rattle.vc_checkout.specs.CheckedOut.{IsCheckedOut, IsCleared, IsOldOrCheckedOut, IsWritten, StepAt, StepOrNone}
use Rattle.vc_work_tree.specs.Folders.{AreFolders, Folders, IsFolder}
use Rattle.vc_checkout.specs.FoldersAfter.{AreBetween, AreFoldersBegun, GivesWay, IsFolderAfter, IsLeft, IsLeftBy, IsLinked, IsMadeFor}
use Rattle.vc_checkout.specs.Holding.{HoldsDue}
use Rattle.vc_checkout.specs.Refusal.{IsClear, IsDue}
use Rattle.vc_checkout.specs.WorkTree.{AreApart, StandsAlone}

-- ---- at one path

-- the file at the path changes so, and no other
abbrev pub Does : {W : Type 0} → (W → FileMap) → (Option (List ℕ) → Option (List ℕ) → Type 0) → List ℕ → W → W → Type 0
Does content IsStep path old new = StepAt IsStep path (content old) (content new)

-- it does, or nothing changes
abbrev pub MayDo : {W : Type 0} → (W → FileMap) → (Option (List ℕ) → Option (List ℕ) → Type 0) → List ℕ → W → W → Type 0
MayDo content IsStep path old new = StepOrNone IsStep path (content old) (content new)

-- what the index has at a path and the tree lacks goes
abbrev pub IsClearedAt : IndexMap → IndexMap → List ℕ → Option (List ℕ) → Option (List ℕ) → Type 0
IsClearedAt index tree path = IsCleared (get index path) (get tree path)

-- what is due at a path is written
abbrev pub IsWrittenAt : ObjectMap → IndexMap → IndexMap → List ℕ → Option (List ℕ) → Option (List ℕ) → Type 0
IsWrittenAt objects index tree path = IsWritten objects (get index path) (get tree path)

-- the folder was there for what goes at the path
abbrev pub IsLeftAt : IndexMap → IndexMap → List ℕ → List ℕ → Type 0
IsLeftAt index tree path = IsLeft (get index path) (get tree path) path

-- it gives way to what is written at the path
abbrev pub GivesWayAt : IndexMap → IndexMap → List ℕ → List ℕ → Type 0
GivesWayAt index tree path = GivesWay (get index path) (get tree path) path

-- it is there for what is written at the path
abbrev pub IsMadeAt : IndexMap → IndexMap → List ℕ → List ℕ → Type 0
IsMadeAt index tree path = IsMadeFor (get index path) (get tree path) path

-- it is what is written at the path, a commit of another repository
abbrev pub IsLinkedAt : IndexMap → IndexMap → List ℕ → List ℕ → Type 0
IsLinkedAt index tree path folder = (folder ≡ path) × IsLinked (get index path) (get tree path)

-- ---- the folders

-- those that were there are, but for the lost ones
abbrev pub LosesFolders : {W : Type 0} → (W → FileMap) → (W → Folders) → (List ℕ → Type 0) → W → W → Type 0
LosesFolders content folders IsLost old new = AreFolders (content new) (folders new) (λ one. IsFolder (content old) (folders old) one × ¬ (IsLost one))

-- the same, of what may have ended halfway: some of the lost ones may be there
abbrev pub MayLoseFolders : {W : Type 0} → (W → FileMap) → (W → Folders) → (List ℕ → Type 0) → W → W → Type 0
MayLoseFolders content folders IsLost old new =
    AreBetween (content new) (folders new) (λ one. IsFolder (content old) (folders old) one × ¬ (IsLost one)) (IsFolder (content old) (folders old))

-- those that were there are, but for the lost ones, and the made ones
abbrev pub ChangesFolders : {W : Type 0} → (W → FileMap) → (W → Folders) → (List ℕ → Type 0) → (List ℕ → Type 0) → W → W → Type 0
ChangesFolders content folders IsMade IsLost old new =
    AreFolders (content new) (folders new) (λ one. IsMade one ⊎ (IsFolder (content old) (folders old) one × ¬ (IsLost one)))

-- the same, of what may have ended halfway
abbrev pub MayChangeFolders : {W : Type 0} → (W → FileMap) → (W → Folders) → (List ℕ → Type 0) → (List ℕ → Type 0) → W → W → Type 0
MayChangeFolders content folders IsMade IsLost old new =
    AreBetween (content new) (folders new) (λ one. IsFolder (content old) (folders old) one × ¬ (IsLost one)) (λ one. IsFolder (content old) (folders old) one ⊎ IsMade one)

-- the last step of a checkout: where the folders before it are what a checkout leaves of those of a work tree, those behind it are what
-- it ends with
abbrev pub EndsFolders : {W : Type 0} → (W → FileMap) → (W → Folders) → IndexMap → IndexMap → W → W → Type 0
EndsFolders content folders index tree old new =
    (work : FileMap) (was : Folders) → AreFolders (content old) (folders old) (λ one. IsFolder work was one × ¬ (IsLeftBy index tree one))
    → AreFolders (content new) (folders new) (IsFolderAfter index tree (IsFolder work was))

-- ---- at all paths

-- what the index has and the tree lacks is gone
abbrev pub Clears : {W : Type 0} → (W → FileMap) → IndexMap → IndexMap → W → W → Type 0
Clears content index tree old new = (path : List ℕ) → IsClearedAt index tree path (get (content old) path) (get (content new) path)

-- each path is cleared, or as it was
abbrev pub MayClear : {W : Type 0} → (W → FileMap) → IndexMap → IndexMap → W → W → Type 0
MayClear content index tree old new =
    (path : List ℕ) → (get (content new) path ≡ get (content old) path) ⊎ IsClearedAt index tree path (get (content old) path) (get (content new) path)

-- what is due is written
abbrev pub WritesDue : {W : Type 0} → (W → FileMap) → ObjectMap → IndexMap → IndexMap → W → W → Type 0
WritesDue content objects index tree old new = (path : List ℕ) → IsWrittenAt objects index tree path (get (content old) path) (get (content new) path)

-- each path is written, or as it was
abbrev pub MayWriteDue : {W : Type 0} → (W → FileMap) → ObjectMap → IndexMap → IndexMap → W → W → Type 0
MayWriteDue content objects index tree old new =
    (path : List ℕ) → (get (content new) path ≡ get (content old) path) ⊎ IsWrittenAt objects index tree path (get (content old) path) (get (content new) path)

-- ---- the whole

-- the work tree is as it was
abbrev pub IsUntouched : {W : Type 0} → (W → FileMap) → (W → Folders) → W → W → Type 0
IsUntouched content folders old new = (content new ≡ content old) × (folders new ≡ folders old)

-- the work tree is as it was, and no write was made
abbrev pub IsUnwritten : {W : Type 0} → (W → FileMap) → (W → Folders) → (W → Option ℕ) → W → W → Type 0
IsUnwritten content folders left old new = IsUntouched content folders old new × (left new ≡ left old)

-- All that is due can be held, each blob that is due is there, and nothing is against the checkout at any path.
pub record IsAllowed (can_hold : List ℕ → Bool) (objects : ObjectMap) (index tree : IndexMap) (work : FileMap) : Type 0 where
  pub holds : HoldsDue can_hold index tree
  pub blobs : HasDueBlobs objects index tree
  pub clear : (path : List ℕ) → IsClear index tree work path

-- The files and the folders of the work tree are those that a checkout makes of the old ones, and no file lies above or
-- below what was due.
pub record Brings {W : Type 0} (content : W → FileMap) (held : W → Folders) (objects : ObjectMap) (index tree : IndexMap) (old new : W) : Type 0 where
  pub files : (path : List ℕ) → IsCheckedOut objects (get index path) (get tree path) (get (content old) path) (get (content new) path)
  pub folders : AreFolders (content new) (held new) (IsFolderAfter index tree (IsFolder (content old) (held old)))
  pub alone : (path : List ℕ) → IsDue (get index path) (get tree path) → StandsAlone (content new) path

-- Each path has its old file or its new one, no folder is gone or made that would not have been, no file came to lie below
-- another one, and nothing was written but where the checkout was allowed.
pub record BringsPart {W : Type 0} (content : W → FileMap) (held : W → Folders) (left : W → Option ℕ) (can_hold : W → List ℕ → Bool) (objects : ObjectMap) (index tree : IndexMap) (old new : W) : Type 0 where
  pub files : (path : List ℕ) → IsOldOrCheckedOut objects index tree (content old) (content new) path
  pub folders : AreFoldersBegun index tree (content old) (held old) (content new) (held new)
  pub apart : AreApart (content old) → AreApart (content new)
  pub allowed : IsUnwritten content held left old new ⊎ IsAllowed (can_hold old) objects index tree (content old)

-- The same of the changes alone.
pub record Begins {W : Type 0} (content : W → FileMap) (held : W → Folders) (objects : ObjectMap) (index tree : IndexMap) (old new : W) : Type 0 where
  pub files : (path : List ℕ) → IsOldOrCheckedOut objects index tree (content old) (content new) path
  pub folders : AreFoldersBegun index tree (content old) (held old) (content new) (held new)
  pub apart : AreApart (content old) → AreApart (content new)
