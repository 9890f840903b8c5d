-- What files show of a repository.
use Rattle.std.specs.Prelude.{◌≡◌, ◌↔◌, ℕ, List, Option, Some, None, Ok, codes}
use Rattle.std.specs.FinMap as paths
use Rattle.vc_files.specs.FileMap.{FileMap}
use Rattle.vc_index.specs.IndexMap.{IndexMap, IsIndex, index_entry}
use Rattle.vc_index.specs.IndexText.{index_text}
use Rattle.vc_index.specs.Loading.{HasBlobs}
use Rattle.vc_index.specs.TreeFiles.{IsFileOfTree}
use Rattle.vc_index.specs.TreeReading.{ReadsAs}
use Rattle.vc_object.specs.Decoding.{StoredObject}
use Rattle.vc_object.specs.ObjectMap.{ObjectMap}
use Rattle.vc_object.specs.declared.id.ObjectId.{ObjectId}
use Rattle.vc_object.specs.declared.mode.Mode.{Mode}
use Rattle.vc_refs.specs.RefMap.{RefMap}
use Rattle.vc_refs.specs.Refs.{refs, ChangesOnly}
use Rattle.vc_refs.specs.Head.{head_of}
use Rattle.vc_refs.specs.declared.heads.Head.{Head}
use Rattle.vc_refs.specs.declared.heads.Head.TheVariants as heads
use Rattle.vc_object_map.specs.Store.{objects, with_object}
use Rattle.vc_local.specs.IndexFile.{index_bytes, SpellsIndex}

-- objects by name, refs, HEAD, and the text of the index
pub record Shown : Type 0 where
  pub objects : ObjectMap
  pub refs : RefMap
  pub head : Option Head
  pub index : List ℕ

abbrev pub shown : FileMap → Shown
shown content = record { objects = objects content; refs = refs content; head = head_of content; index = index_bytes content }

-- one of the four is another, and the rest is as before
abbrev pub with_objects_shown : Shown → ObjectMap → Shown
with_objects_shown s objects = record s { objects = objects }

abbrev pub with_refs_shown : Shown → RefMap → Shown
with_refs_shown s refs = record s { refs = refs }

abbrev pub with_head_shown : Shown → Head → Shown
with_head_shown s head = record s { head = Some head }

abbrev pub with_index_shown : Shown → List ℕ → Shown
with_index_shown s text = record s { index = text }

-- the object is there, the index is this, and the rest is as before
abbrev pub HasObject : FileMap → ObjectId → StoredObject → FileMap → Type 0
HasObject old id object new = shown new ≡ with_objects_shown (shown old) (with_object (objects old) id object)

abbrev pub HasIndex : FileMap → IndexMap → FileMap → Type 0
HasIndex old m new = shown new ≡ with_index_shown (shown old) (index_text m)

-- the tree is read as the index, each of whose files has its blob, and the rest is as before
pub record IsLoaded (old : FileMap) (id : ObjectId) (new : FileMap) : Type 0 where
  pub index : IndexMap
  pub files : (path : List ℕ) (mode : Mode) (file : ObjectId) → IsFileOfTree (objects old) id path mode file ↔ (paths.get index path ≡ Some (index_entry mode file))
  pub blobs : HasBlobs (objects old) index
  pub reads : ReadsAs (objects old) id (Ok index)
  pub sound : IsIndex index
  pub is : HasIndex old index new

-- a HEAD that names no branch yet that is there
abbrev pub main_head : Head
main_head = heads.Branch (codes "refs/heads/main")

-- what is shown of files that were opened: what was shown before, and a HEAD where there was none
abbrev pub opened : Option Head → Shown → Shown
opened (Some head) s = s
opened None s = with_head_shown s main_head

-- The files were opened: where they have a HEAD, nothing was written, else HEAD's file alone.
pub record IsReady (old new : FileMap) : Type 0 where
  pub is : shown new ≡ opened (head_of old) (shown old)
  pub same : (head : Head) → head_of old ≡ Some head → new ≡ old
  pub only : ChangesOnly (codes "HEAD") old new
  pub index : (m : IndexMap) × SpellsIndex old m
