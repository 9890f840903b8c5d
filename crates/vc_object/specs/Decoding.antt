-- The object that bytes are, found by tests.
use Rattle.std.specs.Prelude.{ℕ, Bool, true, not, ◌&&◌, ◌==◌, nat_le, List, [], ◌∷◌, length, codes, Option, Some, None, if◌then◌else◌, is_some}
use Rattle.std.specs.List.{list_all}
use Rattle.std.specs.Ordering.{nat_cmp, is_lt}
use Rattle.std.specs.Cmp.Lexicographic.{slice_cmp}
use Rattle.std.specs.Str.{bytes_eq, str_to_ascii_lowercase}
use Rattle.vc_object.specs.Bytes.{cut}
use Rattle.vc_object.specs.Items.{◌>>=◌}
use Rattle.vc_object.specs.Tree.{Entry, key, spelling}
use Rattle.vc_object.specs.Entries.{entries_of}
use Rattle.vc_object.specs.CommitReading.{kind_of, commit_of, tag_of}
use Rattle.vc_object.specs.Object.{object_bytes, max_body}
use Rattle.vc_object.specs.declared.kind.Kind.{Kind}
use Rattle.vc_object.specs.declared.kind.Kind.TheVariants.{Blob, Tree, Commit, Tag}

-- an object as it is stored
pub record StoredObject : Type 0 where
  pub kind : Kind
  pub body : List ℕ

-- the stored object of this kind and body
abbrev pub stored_object : Kind → List ℕ → StoredObject
stored_object kind body = record { kind = kind; body = body }

-- whether the byte stands nowhere in the text
abbrev pub is_without : ℕ → List ℕ → Bool
is_without byte text = list_all (λ b. not (b == byte)) text

-- whether a name may stand in a tree
abbrev pub is_entry_name : List ℕ → Bool
is_entry_name name =
    not (bytes_eq name []) && (is_without 47 name && (is_without 0 name && (not (bytes_eq name (codes "."))
    && (not (bytes_eq name (codes "..")) && not (bytes_eq (str_to_ascii_lowercase name) (codes ".git"))))))

-- whether an entry may stand in a tree
abbrev pub is_entry : Entry → Bool
is_entry entry = is_entry_name entry.name && (length entry.id.0 == 20)

-- whether the entry comes before the other, and has another name
abbrev pub comes_before : Entry → Entry → Bool
comes_before entry other =
    is_lt (slice_cmp nat_cmp (key entry.mode entry.name) (key other.mode other.name)) && not (bytes_eq entry.name other.name)

-- whether each entry comes before all that follow it
abbrev pub in_order : List Entry → Bool
in_order [] = true
in_order (entry ∷ others) = list_all (comes_before entry) others && in_order others

-- whether the entries are a tree's
abbrev pub is_tree : List Entry → Bool
is_tree entries = list_all is_entry entries && in_order entries

-- whether the body is in the grammar of its kind
abbrev pub is_body : Kind → List ℕ → Bool
is_body Blob body = true
is_body Tree body = bytes_eq body (spelling (entries_of body)) && is_tree (entries_of body)
is_body Commit body = is_some (commit_of body)
is_body Tag body = is_some (tag_of body)

-- whether it is an object, and these are its bytes
abbrev pub is_object_of : List ℕ → Kind → List ℕ → Bool
is_object_of bytes kind body = bytes_eq bytes (object_bytes kind body) && (is_body kind body && nat_le (length body) max_body)

-- the object that the bytes are
unfoldable pub decoded : List ℕ → Option StoredObject
decoded bytes = do
  word ← cut 32 bytes
  kind ← kind_of word.0
  parts ← cut 0 bytes
  if is_object_of bytes kind parts.1 then Some (stored_object kind parts.1) else None
