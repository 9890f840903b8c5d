-- What a commit holds, and how it is spelled (Git user manual, "Commit Object"; git-commit-tree).
use Rattle.std.specs.Prelude.{◌≡◌, ℕ, List, ◌++◌, codes}
use Rattle.std.specs.List.{AllByRecursion, flat_map}
use Rattle.vc_object.specs.Bytes.{Without}
use Rattle.vc_object.specs.Lines.{IsId, line, id_line}
use Rattle.vc_object.specs.declared.id.ObjectId.{ObjectId}

-- what a commit holds; own: the texts of author and committer and the rest, usually further headers, a blank line
-- and the message, may be any bytes
pub record CommitText : Type 0 where
  pub tree : ObjectId
  pub parents : List ObjectId
  pub author : List ℕ
  pub committer : List ℕ
  pub rest : List ℕ

-- its lines: the tree's, those of the parents, the author's and the committer's, and then the rest
abbrev pub commit_bytes : CommitText → List ℕ
commit_bytes c =
    id_line (codes "tree ") c.tree
    ++ flat_map (id_line (codes "parent ")) c.parents
    ++ line (codes "author ") c.author
    ++ line (codes "committer ") c.committer
    ++ c.rest

-- ids are written in lower case, and no line's text holds an LF
pub record IsCommit (c : CommitText) : Type 0 where
  pub tree : IsId c.tree
  pub parents : AllByRecursion IsId c.parents
  pub author : Without 10 c.author
  pub committer : Without 10 c.committer

-- a commit's body
abbrev pub IsCommitBody : List ℕ → Type 0
IsCommitBody body = (c : CommitText) × IsCommit c × (body ≡ commit_bytes c)
