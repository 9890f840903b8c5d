-- What an add does: the blob of a file is stored, and then the file is put into the index.
use Rattle.std.specs.Prelude.{◌≡◌, ◌⊎◌, ℕ, List, true}
use Rattle.std.specs.FinMap.{insert}
use Rattle.vc_files.specs.FileMap.{FileMap}
use Rattle.vc_index.specs.IndexMap.{IndexMap, index_entry}
use Rattle.vc_index.specs.IndexText.{index_text}
use Rattle.vc_object.specs.Decoding.{stored_object}
use Rattle.vc_object.specs.Object.{object_name}
use Rattle.vc_object.specs.declared.kind.Kind.TheVariants.{Blob}
use Rattle.vc_object.specs.declared.mode.Mode.{Mode}
use Rattle.vc_object_map.specs.Store.{objects, with_object}
use Rattle.vc_local.specs.Blames.{MayStage}
use Rattle.vc_local.specs.Clean.{KeepsClean}
use Rattle.vc_local.specs.NodeFault.{is_fault}
use Rattle.vc_local.specs.Shown.{Shown, shown, with_index_shown, with_objects_shown}
use Rattle.vc_local.specs.declared.fault.NodeFault.{NodeFault}

-- what is shown when the blob was stored
abbrev pub with_blob : FileMap → List ℕ → Shown
with_blob content bytes = with_objects_shown (shown content) (with_object (objects content) (object_name Blob bytes) (stored_object Blob bytes))

-- the index with the file put into it
abbrev pub with_file : IndexMap → List ℕ → Mode → List ℕ → IndexMap
with_file m path mode bytes = insert m path (index_entry mode (object_name Blob bytes))

-- the file may stand there, its blob is stored, and it is in the index
pub record IsAdded (old : FileMap) (m : IndexMap) (path : List ℕ) (mode : Mode) (bytes : List ℕ) (new : FileMap) : Type 0 where
  pub may : MayStage m path bytes
  pub is : shown new ≡ with_index_shown (with_blob old bytes) (index_text (with_file m path mode bytes))

-- what an add leaves that was not done: all as it was, or, after a fault, the blob alone
abbrev pub LeftByAdd : FileMap → IndexMap → List ℕ → List ℕ → NodeFault → FileMap → Type 0
LeftByAdd old m path bytes e new = (new ≡ old) ⊎ ((is_fault e ≡ true) × MayStage m path bytes × (shown new ≡ with_blob old bytes))

-- however it ends: no object is stored beside the blob, and no file is made bad
pub record StoresBlob (old : FileMap) (bytes : List ℕ) (new : FileMap) : Type 0 where
  pub objects : (objects new ≡ objects old) ⊎ (objects new ≡ with_object (objects old) (object_name Blob bytes) (stored_object Blob bytes))
  pub clean : KeepsClean old new
