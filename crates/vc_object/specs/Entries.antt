-- The entries that bytes spell, read from the front.
use Rattle.std.specs.Prelude.{ℕ, List, length, take, drop, codes, Option, Some, None, if◌then◌else◌, nat_lt}
use Rattle.std.specs.Str.{bytes_eq}
use Rattle.vc_object.specs.Bytes.{cut}
use Rattle.vc_object.specs.Items.{◌>>=◌, items_of}
use Rattle.vc_object.specs.Tree.{Entry}
use Rattle.vc_object.specs.declared.mode.Mode.{Mode}
use Rattle.vc_object.specs.declared.mode.Mode.TheVariants as modes

-- the mode that has these digits
abbrev pub mode_of : List ℕ → Option Mode
mode_of text =
    if bytes_eq text (codes "40000") then Some modes.Tree
    else if bytes_eq text (codes "100644") then Some modes.File
    else if bytes_eq text (codes "100664") then Some modes.SharedFile
    else if bytes_eq text (codes "100755") then Some modes.Executable
    else if bytes_eq text (codes "120000") then Some modes.Link
    else if bytes_eq text (codes "160000") then Some modes.Commit
    else None

-- the entry at the front, and the bytes after it
unfoldable pub entry_at : List ℕ → Option (Entry × List ℕ)
entry_at bytes = do
  text ← cut 32 bytes
  mode ← mode_of text.0
  name ← cut 0 text.1
  if nat_lt (length name.1) 20 then None else Some (record { mode = mode; name = name.0; id = record { 0 = take 20 name.1 } }, drop 20 name.1)

-- all entries up to the first bytes that are none
abbrev pub entries_of : List ℕ → List Entry
entries_of bytes = items_of entry_at bytes
