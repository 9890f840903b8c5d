-- What an object links to.
use Rattle.std.specs.Prelude.{◌≡◌, ℕ, List, [], ◌∷◌, Option, Some, None}
use Rattle.std.specs.Option.{option_map}
use Rattle.vc_object.specs.Tree.{Entry, IsTree, spelling}
use Rattle.vc_object.specs.Commit.{CommitText, IsCommit, commit_bytes}
use Rattle.vc_object.specs.Tag.{TagText, IsTag, tag_bytes}
use Rattle.vc_object.specs.Entries.{entries_of}
use Rattle.vc_object.specs.CommitReading.{commit_of, tag_of}
use Rattle.vc_object.specs.declared.id.ObjectId.{ObjectId}
use Rattle.vc_object.specs.declared.kind.Kind.{Kind}
use Rattle.vc_object.specs.declared.kind.Kind.TheVariants as kinds
use Rattle.vc_object.specs.declared.mode.Mode.{Mode}
use Rattle.vc_object.specs.declared.mode.Mode.TheVariants as modes

-- a commit of another repository is no link
abbrev pub with_link : Mode → ObjectId → List ObjectId → List ObjectId
with_link modes.Commit id ids = ids
with_link _ id ids = id ∷ ids

-- the ids of a tree's entries, in their order
abbrev pub entry_links : List Entry → List ObjectId
entry_links [] = []
entry_links (entry ∷ others) = with_link entry.mode entry.id (entry_links others)

-- the ids are the links of the object, in the order of its body
abbrev pub AreLinks : Kind → List ℕ → List ObjectId → Type 0
AreLinks kinds.Blob body ids = ids ≡ []
AreLinks kinds.Tree body ids = (entries : List Entry) → IsTree entries → body ≡ spelling entries → ids ≡ entry_links entries
AreLinks kinds.Commit body ids = (c : CommitText) → IsCommit c → body ≡ commit_bytes c → ids ≡ c.tree ∷ c.parents
AreLinks kinds.Tag body ids = (t : TagText) → IsTag t → body ≡ tag_bytes t → ids ≡ t.object ∷ []

-- what a commit that was read links to
abbrev pub commit_links : Option CommitText → List ObjectId
commit_links None = []
commit_links (Some c) = c.tree ∷ c.parents

-- what a tag that was read links to
abbrev pub tag_links : Option TagText → List ObjectId
tag_links None = []
tag_links (Some t) = t.object ∷ []

-- the links that are read from a body of the kind
abbrev pub links_of : Kind → List ℕ → List ObjectId
links_of kinds.Blob body = []
links_of kinds.Tree body = entry_links (entries_of body)
links_of kinds.Commit body = commit_links (commit_of body)
links_of kinds.Tag body = tag_links (tag_of body)

-- the parents that are read from a commit's body; an object of another kind has none
abbrev pub parents_of : Kind → List ℕ → Option (List ObjectId)
parents_of kinds.Commit body = option_map (λ (c : CommitText). c.parents) (commit_of body)
parents_of _ body = None
