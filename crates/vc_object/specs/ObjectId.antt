-- Object names: when two are the same, when one comes before another, and lists of names in order.
use Rattle.std.specs.Prelude.{ℕ, Bool, List, nat_eq, nat_lt, length, Contains, ◌↔◌, ◌==◌, ◌&&◌}
use Rattle.std.specs.declared.cmp.Ordering.{Ordering}
use Rattle.std.specs.List.{list_all}
use Rattle.std.specs.Ordering.{nat_cmp}
use Rattle.std.specs.Cmp.Lexicographic.{slice_cmp, pointwise}
use Rattle.std.specs.List.Sorted.{IsStrictlySortedBy}
use Rattle.vc_object.specs.declared.id.ObjectId.{ObjectId}

-- twenty bytes
abbrev pub is_name : List ℕ → Bool
is_name name = (length name == 20) && list_all (λ b. nat_lt b 256) name

-- an id of twenty bytes
abbrev pub is_id : ObjectId → Bool
is_id id = is_name id.0

-- two names have the same bytes
abbrev pub id_eq : ObjectId → ObjectId → Bool
id_eq a b = pointwise nat_eq a.0 b.0

-- names compare by their bytes
abbrev pub id_cmp : ObjectId → ObjectId → Ordering
id_cmp a b = slice_cmp nat_cmp a.0 b.0

-- each name is below all later ones, so none stands twice
abbrev pub IsSortedByName : List ObjectId → Type 0
IsSortedByName ids = IsStrictlySortedBy id_cmp ids

-- two lists hold the same names
abbrev pub HasSameNames : List ObjectId → List ObjectId → Type 0
HasSameNames xs ys = (id : ObjectId) → Contains xs id ↔ Contains ys id
