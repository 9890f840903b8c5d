-- Refs as a finite map from names to ids, in which no name is a folder of another.
use Rattle.std.specs.Prelude.{◌≡◌, ◌≢◌, ℕ, Bool, true, false, ◌&&◌, ◌||◌, nat_eq, bytes_eq, List, Option, Some, None, is_some, option_map, if◌then◌else◌, codes}
use Rattle.std.specs.List.{starts_with}
use Rattle.std.specs.Ordering.{nat_cmp}
use Rattle.std.specs.declared.cmp.Ordering.TheVariants.{Greater}
use Rattle.std.specs.Cmp.Lexicographic.{slice_cmp}
use Rattle.std.specs.FinMap.{find, is_sorted}
use Rattle.vc_files.specs.Path.{is_above}
use Rattle.vc_object.specs.declared.id.ObjectId.{ObjectId}
use Rattle.vc_refname.specs.RefName.{is_ref_name}

-- from the bytes of a name to the id that it stands for
abbrev pub RefMap : Type 0
RefMap = List ℕ → Option ObjectId

-- a name in `refs/`
abbrev pub IsInRefs : List ℕ → Type 0
IsInRefs name = starts_with nat_eq name (codes "refs/") ≡ true

-- whether it is a legal name in `refs/`
abbrev pub is_ref : List ℕ → Bool
is_ref name = is_ref_name name && starts_with nat_eq name (codes "refs/")

-- whether no map may have both names
abbrev pub conflicts : List ℕ → List ℕ → Bool
conflicts a b = is_above a b || is_above b a

-- legal names in `refs/`, of which none conflicts with another
pub record IsRefMap (refs : RefMap) : Type 0 where
  pub legal : (name : List ℕ) → is_some (refs name) ≡ true → is_ref name ≡ true
  pub apart : (a b : List ℕ) → is_some (refs a) ≡ true → is_some (refs b) ≡ true → conflicts a b ≡ false

-- the name of a ref, and a folder of the name of another
pub record IsFolder (refs : RefMap) (name : List ℕ) : Type 0 where
  pub held : is_some (refs name) ≡ true
  pub other : List ℕ
  pub there : is_some (refs other) ≡ true
  pub above : is_above name other ≡ true

-- the first of them, by its bytes
pub record IsFirstFolder (refs : RefMap) (name : List ℕ) : Type 0 where
  pub here : IsFolder refs name
  pub first : (q : List ℕ) → IsFolder refs q → slice_cmp nat_cmp name q ≢ Greater

-- the refs, with this one set
unfoldable pub with_ref : RefMap → List ℕ → ObjectId → RefMap
with_ref refs name id q = if bytes_eq q name then Some id else refs q

-- the refs without this one
unfoldable pub without_ref : RefMap → List ℕ → RefMap
without_ref refs name q = if bytes_eq q name then None else refs q

-- the ref of this name, if it is there
abbrev pub entry_at : RefMap → List ℕ → Option (List ℕ × ObjectId)
entry_at refs name = option_map (λ id. (name, id)) (refs name)

-- the list has each ref once, in the order of the names' bytes
pub record IsListOf (refs : RefMap) (list : List (List ℕ × ObjectId)) : Type 0 where
  pub sorted : is_sorted (slice_cmp nat_cmp) list ≡ true
  pub each : (name : List ℕ) → find (slice_cmp nat_cmp) name list ≡ refs name
