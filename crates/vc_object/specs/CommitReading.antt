-- Reading a commit and a tag from the front.
use Rattle.std.specs.Prelude.{ℕ, List, length, codes, Option, Some, None, if◌then◌else◌, ◌==◌}
use Rattle.std.specs.Str.{bytes_eq}
use Rattle.vc_object.specs.Items.{◌>>=◌, items_of, after_items}
use Rattle.vc_object.specs.Lines.{id_line_at, line_at}
use Rattle.vc_object.specs.Commit.{CommitText}
use Rattle.vc_object.specs.Tag.{TagText}
use Rattle.vc_object.specs.declared.id.ObjectId.{ObjectId}
use Rattle.vc_object.specs.declared.kind.Kind.{Kind}
use Rattle.vc_object.specs.declared.kind.Kind.TheVariants as kinds

-- the id of the parent line at the front, and the bytes after it
abbrev pub parent_at : List ℕ → Option (ObjectId × List ℕ)
parent_at bytes = id_line_at (codes "parent ") bytes

-- the ids of the parent lines at the front
abbrev pub parent_ids : List ℕ → List ObjectId
parent_ids bytes = items_of parent_at bytes

-- the commit that the bytes are
unfoldable pub commit_of : List ℕ → Option CommitText
commit_of bytes = do
  tree ← id_line_at (codes "tree ") bytes
  author ← line_at (codes "author ") (after_items parent_at tree.1)
  committer ← line_at (codes "committer ") author.1
  Some (record { tree = tree.0; parents = parent_ids tree.1; author = author.0; committer = committer.0; rest = committer.1 })

-- the kind that has this word
abbrev pub kind_of : List ℕ → Option Kind
kind_of text =
    if bytes_eq text (codes "blob") then Some kinds.Blob
    else if bytes_eq text (codes "tree") then Some kinds.Tree
    else if bytes_eq text (codes "commit") then Some kinds.Commit
    else if bytes_eq text (codes "tag") then Some kinds.Tag
    else None

-- the tag that the bytes are
unfoldable pub tag_of : List ℕ → Option TagText
tag_of bytes = do
  object ← id_line_at (codes "object ") bytes
  word ← line_at (codes "type ") object.1
  kind ← kind_of word.0
  name ← line_at (codes "tag ") word.1
  if length name.0 == 0 then None else Some (record { object = object.0; kind = kind; name = name.0; rest = name.1 })
