-- The entries of a tree, apart from where their names lie in memory.
use Rattle.std.specs.Prelude.{List}
use Rattle.vc_object.specs.Tree.{Entry}
use Rattle.vc_object.specs.Entries.{entries_of}
use Rattle.vc_object.specs.declared.entries.TreeEntry.{TreeEntry}
use Rattle.vc_object.specs.declared.entries.TreeEntries.{TreeEntries}

-- an entry without where its name lies in memory
abbrev pub entry_view : TreeEntry → Entry
entry_view entry = record { mode = entry.mode; name = entry.name.now; id = entry.id }

-- the entries that are left
abbrev pub entries_left : TreeEntries → List Entry
entries_left it = entries_of it.rest.now
