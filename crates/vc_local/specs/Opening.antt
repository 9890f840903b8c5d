-- The repository that files are opened as.
use Rattle.std.specs.Prelude.{Bool, Some}
use Rattle.std.specs.FinMap as files
use Rattle.vc_files.specs.FileMap.{FileMap}
use Rattle.vc_model.specs.Clone.{Awaited, CloneNode}
use Rattle.vc_model.specs.Clone.Awaited.{Nothing}
use Rattle.vc_model.specs.Repository.{Repository}
use Rattle.vc_model.specs.World.{empty_repository}
use Rattle.vc_refs.specs.Head.{head_of}
use Rattle.vc_refs.specs.RefFault.{IsGoodHead}
use Rattle.vc_local.specs.Clean.{IsClean}
use Rattle.vc_local.specs.Machine.{Spells, HoldsNode}
use Rattle.vc_local.specs.Shown.{shown, opened}

-- The files are clean, and spell this repository with HEAD on `main` if they have no HEAD; HEAD's file can be read, or it isn't there.
pub record IsOpenable (content : FileMap) (r : Repository) : Type 0 where
  pub spells : Spells (opened (head_of content) (shown content)) r
  pub clean : IsClean content
  pub head : IsGoodHead content

-- so it is of each repository that the files are opened as
abbrev pub OpenableAs : FileMap → (Repository → Type 0) → Type 0
OpenableAs content IsSo = (r : Repository) → IsOpenable content r → IsSo r

-- a clone that has just been opened
abbrev pub opened_node : Repository → CloneNode
opened_node r = record { repository = r; live = Some Nothing }

-- What holds a node can be opened as its repository, whatever the node awaits, and whether it is up or down.
abbrev pub HeldNodesOpen : Type 0
HeldNodesOpen = (content : FileMap) (is_up : Bool) (awaited : Awaited) (n : CloneNode) → HoldsNode content is_up awaited n → IsOpenable content n.repository

-- No files at all can be opened as a new repository: nothing is stored, and HEAD names a branch `main` that isn't there yet.
abbrev pub NewFilesOpen : Type 0
NewFilesOpen = IsOpenable files.empty empty_repository
