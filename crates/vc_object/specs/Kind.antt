-- The words of the kinds.
use Rattle.std.specs.Prelude.{ℕ, List, ◌++◌, codes}
use Rattle.vc_object.specs.declared.kind.Kind.{Kind}
use Rattle.vc_object.specs.declared.kind.Kind.TheVariants.{Blob, Tree, Commit, Tag}

-- the word of a kind
abbrev pub word : Kind → List ℕ
word Blob = codes "blob"
word Tree = codes "tree"
word Commit = codes "commit"
word Tag = codes "tag"

-- the word and a space, which begin an object's bytes
abbrev pub front : Kind → List ℕ
front kind = word kind ++ codes " "
