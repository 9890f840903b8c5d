-- Commits and tags, apart from where their texts lie in memory.
use Rattle.std.specs.Prelude.{List}
use Rattle.vc_object.specs.CommitReading.{parent_ids}
use Rattle.vc_object.specs.Commit.{CommitText}
use Rattle.vc_object.specs.Tag.{TagText}
use Rattle.vc_object.specs.declared.id.ObjectId.{ObjectId}
use Rattle.vc_object.specs.declared.commit.Parents.{Parents}
use Rattle.vc_object.specs.declared.commit.Commit.{Commit}
use Rattle.vc_object.specs.declared.tag.Tag.{Tag}

-- the parents that are left
abbrev pub parents_left : Parents → List ObjectId
parents_left it = parent_ids it.rest.now

-- a commit without where its texts lie in memory
abbrev pub commit_view : Commit → CommitText
commit_view c = record { tree = c.tree; parents = parent_ids c.parents.now; author = c.author.now; committer = c.committer.now; rest = c.rest.now }

-- the same of a tag
abbrev pub tag_view : Tag → TagText
tag_view t = record { object = t.object; kind = t.kind; name = t.name.now; rest = t.rest.now }
