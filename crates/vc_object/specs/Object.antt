-- What an object is, its bytes and its name (Git user manual, "Object storage format").
use Rattle.std.specs.Prelude.{◌≤◌, ℕ, List, ◌++◌, length, decimal}
use Rattle.sha1.specs.Sha1.{sha1}
use Rattle.vc_object.specs.Header.{header}
use Rattle.vc_object.specs.Tree.{IsTreeBody}
use Rattle.vc_object.specs.Commit.{IsCommitBody}
use Rattle.vc_object.specs.Tag.{IsTagBody}
use Rattle.vc_object.specs.declared.kind.Kind.{Kind}
use Rattle.vc_object.specs.declared.kind.Kind.TheVariants.{Blob, Tree, Commit, Tag}
use Rattle.vc_object.specs.declared.id.ObjectId.{ObjectId}

-- the body is in the grammar of its kind
abbrev pub IsBody : Kind → List ℕ → Type 0
IsBody Blob body = Unit {0}
IsBody Tree body = IsTreeBody body
IsBody Commit body = IsCommitBody body
IsBody Tag body = IsTagBody body

-- own: the most bytes of a body, 16 MiB; and one more, as which every greater size is read
abbrev pub max_body : ℕ
max_body = 16777216

abbrev pub oversize : ℕ
oversize = 16777217

-- an object: a kind, and a body in its grammar that is not too long
pub record IsObject (kind : Kind) (body : List ℕ) : Type 0 where
  pub grammar : IsBody kind body
  pub size : length body ≤ max_body

-- an object's bytes: its header, with the length of its body in decimal, and its body
abbrev pub object_bytes : Kind → List ℕ → List ℕ
object_bytes kind body = header kind (decimal (length body)) ++ body

-- an object's name: the SHA-1 of its bytes
abbrev pub object_name : Kind → List ℕ → ObjectId
object_name kind body = record { 0 = sha1 (object_bytes kind body) }
