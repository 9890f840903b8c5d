-- A walk over a history: the names that it has met, in order, and the parents that it has read of the first of them. `beyond`
-- has the numbers of the names that it does not go on to: those that lie beyond its limit.
use Rattle.std.specs.Prelude.{◌≡◌, ◌⊎◌, ◌++◌, ℕ, List, [], ◌∷◌, Option, Some, None, IsSome, Contains, filter, get_or, is_none, length, map, position, slice_get}
use Rattle.indexmap.specs.IndexSet.{insert_all}
use Rattle.vc_object_map.specs.Parents.{IsOther}
use Rattle.vc_history.specs.declared.walk.Walk.{Walk}
use Rattle.vc_object_map.specs.Graph.{ReachedFrom}
use Rattle.vc_object.specs.ObjectId.{id_eq}
use Rattle.vc_object.specs.ObjectMap.{ObjectMap, parents_in}
use Rattle.vc_object.specs.declared.id.ObjectId.{ObjectId}

-- what stands at a place, if there is one
abbrev pub read_at : List (List ObjectId) → Option ℕ → List ObjectId
read_at read None = []
read_at read (Some place) = get_or read place []

-- the parents that were read of a name: none of one that was not met
abbrev pub parents_read : List ObjectId → List (List ObjectId) → ObjectId → List ObjectId
parents_read met read id = read_at read (position (id_eq id) met)

-- what was read, as a graph
abbrev pub graph_read : List ObjectId → List (List ObjectId) → ObjectId → Option (List ObjectId)
graph_read met read id = Some (parents_read met read id)

-- what is read of a name: a commit's parents, or nothing of an object that is no commit, which is kept in mind
abbrev pub IsReadOf : ObjectMap → ObjectId → List ObjectId → Option ObjectId → Option ObjectId → Type 0
IsReadOf objects id own other other_after = ((parents_in objects id ≡ Some own) × (other_after ≡ other)) ⊎ (IsOther objects id × (own ≡ []) × (other_after ≡ Some id))

-- the names of a list that have no number
abbrev pub unnumbered : (ObjectId → Option ℕ) → List ObjectId → List ObjectId
unnumbered known ids = filter (λ id. is_none (known id)) ids

-- one step of a walk: the next of the names that were met is read, and those of its parents that are not beyond the limit are
-- met
pub record Reads (objects : ObjectMap) (beyond : ObjectId → Option ℕ) (met met_after : List ObjectId) (read read_after : List (List ObjectId)) (other other_after : Option ObjectId) (id : ObjectId) : Type 0 where
  pub own : List ObjectId
  pub next : slice_get met (length read) ≡ Some id
  pub met_own : met_after ≡ insert_all id_eq met (unnumbered beyond own)
  pub read_own : read_after ≡ read ++ own ∷ []
  pub kind : IsReadOf objects id own other other_after

-- a walk from the roots, at its end: it has met the roots and names within the limit that they reach, has read the parents of
-- each, and each of these was met too or is beyond the limit
pub record Gathers (objects : ObjectMap) (beyond : ObjectId → Option ℕ) (roots met : List ObjectId) (read : List (List ObjectId)) : Type 0 where
  pub reached : (x : ObjectId) → Contains met x → ReachedFrom (parents_in objects) roots x
  pub rooted : (x : ObjectId) → Contains roots x → Contains met x
  pub within : (x : ObjectId) → Contains met x → Contains roots x ⊎ (beyond x ≡ None)
  pub parents : (x : ObjectId) → Contains met x → parents_in objects x ≡ Some (parents_read met read x)
  pub onward : (x y : ObjectId) → Contains met x → Contains (parents_read met read x) y → Contains met y ⊎ IsSome (beyond y)

-- ---- the same of a walk as the code keeps it
-- the parents that it has read
abbrev pub read_by : Walk → List (List ObjectId)
read_by walk = map (λ v. v.items) walk.parents.items

-- what it has read, as a graph
abbrev pub graph_of : Walk → ObjectId → Option (List ObjectId)
graph_of walk id = graph_read walk.met.keys (read_by walk) id

abbrev pub WalkReads : ObjectMap → (ObjectId → Option ℕ) → Walk → Walk → ObjectId → Type 0
WalkReads objects beyond old new id = Reads objects beyond old.met.keys new.met.keys (read_by old) (read_by new) old.other new.other id

abbrev pub WalkGathers : ObjectMap → (ObjectId → Option ℕ) → List ObjectId → Walk → Type 0
WalkGathers objects beyond roots walk = Gathers objects beyond roots walk.met.keys (read_by walk)

-- the name is the next to be read
abbrev pub IsNext : Walk → ObjectId → Type 0
IsNext walk id = slice_get walk.met.keys (length walk.parents.items) ≡ Some id
