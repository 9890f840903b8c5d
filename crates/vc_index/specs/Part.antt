-- A file or a stored tree on the way to the trees of an index.
use Rattle.std.specs.Prelude.{◌≡◌, ◌⊎◌, ◌+◌, ℕ, List, [], ◌∷◌, ◌++◌, length, replicate}
use Rattle.std.specs.List.{sum_by}
use Rattle.vc_object.specs.Tree.{Entry, mode_text}
use Rattle.vc_index.specs.declared.entry.IndexEntry.{IndexEntry}
use Rattle.vc_index.specs.declared.trees.Part.{Part}

-- nothing, or a text whose last byte is a `/`
abbrev pub EndsInSlash : List ℕ → Type 0
EndsInSlash text = (text ≡ []) ⊎ ((front : List ℕ) × (text ≡ front ++ 47 ∷ []))

-- the part as an entry of the tree of its folder
abbrev pub part_entry : Part → Entry
part_entry part = record { mode = part.entry.mode; name = part.name.now; id = part.entry.id }

-- the part's path, and what stands there
abbrev pub part_pair : Part → List ℕ × IndexEntry
part_pair part = (part.folder.now ++ part.name.now, part.entry)

-- how many bytes the part's entry has in the spelling of a tree: its mode, a space, its name, a NUL, and an id of 20 bytes
abbrev pub part_size : Part → ℕ
part_size part = length (mode_text part.entry.mode) + length part.name.now + 22

-- how many bytes the tree of these parts has, whatever their ids
abbrev pub parts_size : List Part → ℕ
parts_size parts = sum_by part_size parts

-- the part as it stands if only sizes are added up: the id of zeros stands for any
abbrev pub without_id : Part → Part
without_id part = record { folder = part.folder; name = part.name; entry = record { mode = part.entry.mode; id = record { 0 = replicate 20 0 } } }
