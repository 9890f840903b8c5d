-- The note of a checkout that is not done: the tree that it brings.
use Rattle.std.specs.Prelude.{ℕ, List, Option, codes, option_and_then}
use Rattle.std.specs.FinMap.{get, insert, remove}
use Rattle.vc_files.specs.FileMap.{FileMap}
use Rattle.vc_object.specs.declared.id.ObjectId.{ObjectId}
use Rattle.vc_refs.specs.RefFile.{id_in, id_text}

-- where the note stands
abbrev pub note_path : List ℕ
note_path = codes "begun-checkout"

-- the tree that was begun, if the note is there and says one
abbrev pub begun_in : FileMap → Option ObjectId
begun_in content = option_and_then id_in (get content note_path)

abbrev pub with_note : FileMap → ObjectId → FileMap
with_note content tree = insert content note_path (id_text tree)

abbrev pub without_note : FileMap → FileMap
without_note content = remove content note_path
