-- Git's object format: SHA-1 over an object's header and body, links and parents as they are read from the body, and the
-- rules of git-check-ref-format with one more for branches, that the name a clone tracks them by fits too.
use Rattle.std.specs.Prelude.{◌≡◌, ℕ, Bool, IsTrue, List, [], ◌∷◌, ◌++◌, map, Contains, length, nat_le, nat_eq, ◌&&◌, not, ◌||◌, codes, unwrap_or}
use Rattle.std.specs.List.{starts_with}
use Rattle.std.specs.Str.{is_utf8}
use Rattle.vc_object.specs.declared.id.ObjectId.{ObjectId}
use Rattle.vc_object.specs.declared.kind.Kind.{Kind as ObjectKind}
use Rattle.vc_object.specs.declared.kind.Kind.TheVariants as kinds
use Rattle.vc_object.specs.Object.{object_name}
use Rattle.vc_object.specs.Links.{links_of, parents_of}
use Rattle.vc_object.specs.Commit.{CommitText, commit_bytes}
use Rattle.vc_refname.specs.RefName.{is_ref_name, max_branch}
use Rattle.vc_model.specs.Object.{Id, Kind, Object, IsLine}
use Rattle.vc_model.specs.Object.Kind.{Blob, Tree, Commit, Tag}

abbrev pub kind_of : Kind → ObjectKind
kind_of Blob = kinds.Blob
kind_of Tree = kinds.Tree
kind_of Commit = kinds.Commit
kind_of Tag = kinds.Tag

-- the machine's ids are the bytes of vc_object's
abbrev pub bytes_of_id : ObjectId → Id
bytes_of_id id = id.0

abbrev pub id_of_bytes : Id → ObjectId
id_of_bytes x = record { 0 = x }

abbrev pub git_name : Object → Id
git_name o = bytes_of_id (object_name (kind_of o.kind) o.body)

abbrev pub git_links : Object → List Id
git_links o = map bytes_of_id (links_of (kind_of o.kind) o.body)

abbrev pub git_parents : Object → List Id
git_parents o = map bytes_of_id (unwrap_or (parents_of (kind_of o.kind) o.body) [])

-- The name of a branch is so short that its tracking name is not too long.
abbrev pub git_is_legal : List ℕ → Bool
git_is_legal text =
    is_utf8 text && (is_ref_name text && (not (starts_with nat_eq text (codes "refs/heads/")) || nat_le (length text) max_branch))

-- The rest of a commit that is made here: an empty line, the message, and LF.
abbrev pub commit_text : Id → List Id → List ℕ → List ℕ → List ℕ → CommitText
commit_text tree parents author committer message =
    record { tree = id_of_bytes tree; parents = map id_of_bytes parents; author = author; committer = committer; rest = 10 ∷ (message ++ 10 ∷ []) }

abbrev pub git_commit_body : Id → List Id → List ℕ → List ℕ → List ℕ → List ℕ
git_commit_body tree parents author committer message = commit_bytes (commit_text tree parents author committer message)

-- A commit of names of objects, whose author and committer are lines, links to its tree and its parents, and has these parents.
abbrev pub SpellsCommits : Type 0
SpellsCommits = (tree : Id) (ps : List Id) (author committer message : List ℕ) → ((x : Id) → Contains (tree ∷ ps) x → (o : Object) × (git_name o ≡ x)) → IsLine author → IsLine committer →
    (git_links (record { kind = Commit; body = git_commit_body tree ps author committer message }) ≡ tree ∷ ps)
    × (git_parents (record { kind = Commit; body = git_commit_body tree ps author committer message }) ≡ ps)

-- A blob links to nothing, and a parent is a link.
abbrev pub LinksAgree : Type 0
LinksAgree = ((o : Object) → o.kind ≡ Blob → git_links o ≡ []) × ((o : Object) (x : Id) → Contains (git_parents o) x → Contains (git_links o) x)

-- The branch that HEAD of a new repository names has a legal name.
abbrev pub MainIsName : Type 0
MainIsName = IsTrue (is_ref_name (codes "refs/heads/main"))
