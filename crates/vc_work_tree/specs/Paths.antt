-- Paths of a work tree, and the name of a file's content.
use Rattle.std.specs.Prelude.{ℕ, Bool, List}
use Rattle.std.specs.Cmp.Lexicographic.{slice_cmp}
use Rattle.std.specs.List.{list_any}
use Rattle.std.specs.Ordering.{nat_cmp, eq_by_cmp}
use Rattle.vc_object.specs.Object.{object_name}
use Rattle.vc_object.specs.declared.id.ObjectId.{ObjectId}
use Rattle.vc_object.specs.declared.kind.Kind.TheVariants as kinds

-- the name that a file's content has as a blob
abbrev pub blob_name : List ℕ → ObjectId
blob_name bytes = object_name kinds.Blob bytes

-- whether two paths are the same
abbrev pub is_same : List ℕ → List ℕ → Bool
is_same = eq_by_cmp (slice_cmp nat_cmp)

-- whether a path is one of the list
abbrev pub is_listed : List ℕ → List (List ℕ) → Bool
is_listed path paths = list_any (is_same path) paths
