-- Three objects of Git and their names, as `git hash-object` prints them: a file, a tree that has it under one path, and a commit of
-- that tree without parents.
use Rattle.std.specs.Prelude.{◌≡◌, ℕ, List, [], ◌∷◌, codes}
use Rattle.vc_format.specs.Git.{id_of_bytes, git_commit_body}
use Rattle.vc_model.specs.Object.{Id, Object, blob}
use Rattle.vc_model.specs.Object.Kind.{Tree, Commit}
use Rattle.vc_object.specs.Tree.{Entry, spelling}
use Rattle.vc_object.specs.declared.mode.Mode.TheVariants as modes
use Rattle.vc_rules.specs.Git.{git}

-- where the file stands, its mode in the index (100644), and what it holds
abbrev pub path : List ℕ
path = codes "a"

abbrev pub plain_file : ℕ
plain_file = 33188

abbrev pub content : List ℕ
content = codes "hello\n"

abbrev pub first_file : Object
first_file = blob content

-- ce013625030ba8dba906f756967f9e9ca394464a
abbrev pub first_file_id : Id
first_file_id = 0xce ∷ 0x01 ∷ 0x36 ∷ 0x25 ∷ 0x03 ∷ 0x0b ∷ 0xa8 ∷ 0xdb ∷ 0xa9 ∷ 0x06 ∷ 0xf7 ∷ 0x56 ∷ 0x96 ∷ 0x7f ∷ 0x9e ∷ 0x9c ∷ 0xa3 ∷ 0x94 ∷ 0x46 ∷ 0x4a ∷ []

abbrev pub first_entries : List Entry
first_entries = record { mode = modes.File; name = path; id = id_of_bytes first_file_id } ∷ []

abbrev pub first_tree : Object
first_tree = record { kind = Tree; body = spelling first_entries }

-- 0976950c1fdbcb52435a433913017bf044b3a58f
abbrev pub first_tree_id : Id
first_tree_id = 0x09 ∷ 0x76 ∷ 0x95 ∷ 0x0c ∷ 0x1f ∷ 0xdb ∷ 0xcb ∷ 0x52 ∷ 0x43 ∷ 0x5a ∷ 0x43 ∷ 0x39 ∷ 0x13 ∷ 0x01 ∷ 0x7b ∷ 0xf0 ∷ 0x44 ∷ 0xb3 ∷ 0xa5 ∷ 0x8f ∷ []

-- of the commit: its author, who is its committer too, and its message
abbrev pub author : List ℕ
author = codes "A <a> 0 +0000"

abbrev pub message : List ℕ
message = codes "first"

abbrev pub first_commit : Object
first_commit = record { kind = Commit; body = git_commit_body first_tree_id [] author author message }

-- cdb54dd90e2c2c30514338503708f2fefda5ba96
abbrev pub first_commit_id : Id
first_commit_id = 0xcd ∷ 0xb5 ∷ 0x4d ∷ 0xd9 ∷ 0x0e ∷ 0x2c ∷ 0x2c ∷ 0x30 ∷ 0x51 ∷ 0x43 ∷ 0x38 ∷ 0x50 ∷ 0x37 ∷ 0x08 ∷ 0xf2 ∷ 0xfe ∷ 0xfd ∷ 0xa5 ∷ 0xba ∷ 0x96 ∷ []

-- the names are these
abbrev pub NamesAreKnown : Type 0
NamesAreKnown = (git.name_of first_file ≡ first_file_id) × (git.name_of first_tree ≡ first_tree_id) × (git.name_of first_commit ≡ first_commit_id)
