-- Objects, their names, and what an object links to.
use Rattle.std.specs.Prelude.{◌≡◌, ℕ, Bool, IsTrue, List, [], ◌∷◌, Option, Some, Contains, replicate, codes}
use Rattle.std.specs.FinMap.{FinMap, get}
use Rattle.std.specs.Option.{option_or}
use Rattle.std.specs.Ordering.{nat_cmp}
use Rattle.std.specs.Cmp.Lexicographic.{slice_cmp}

-- The name of an object, as its bytes.
abbrev pub Id : Type 0
Id = List ℕ

-- No object's name.
abbrev pub zero_id : Id
zero_id = replicate 20 0

pub data Kind : Type 0 where
  Blob : Kind
  Tree : Kind
  Commit : Kind
  Tag : Kind

pub record Object : Type 0 where
  pub kind : Kind
  pub body : List ℕ

abbrev pub blob : List ℕ → Object
blob content = record { kind = Blob; body = content }

-- A text without LF.
abbrev pub IsLine : List ℕ → Type 0
IsLine text = ¬ Contains text 10

-- How objects are named and read: an object format.
pub record Format : Type 0 where
  pub name_of : Object → Id
  -- the names that its body gives
  pub links : Object → List Id
  -- those of them by `parent` lines
  pub parents : Object → List Id
  -- a ref name that breaks none of the rules
  pub is_name : List ℕ → Bool
  -- a name that a push may set: one that breaks none of the rules, and of a branch also that its tracking name breaks none
  pub is_legal : List ℕ → Bool
  -- the body of a commit
  pub commit_body : (tree : Id) (parents : List Id) (author committer message : List ℕ) → List ℕ
  pub legal_names : (n : List ℕ) → IsTrue (is_legal n) → IsTrue (is_name n)
  pub main_is_name : IsTrue (is_name (codes "refs/heads/main"))
  pub blobs : (o : Object) → o.kind ≡ Blob → links o ≡ []
  pub parents_linked : (o : Object) (x : Id) → Contains (parents o) x → Contains (links o) x
  -- a commit of names of objects, whose author and committer are lines, links to its tree and its parents
  pub commit_links : (tree : Id) (ps : List Id) (author committer message : List ℕ) → ((x : Id) → Contains (tree ∷ ps) x → (o : Object) × (name_of o ≡ x))
      → IsLine author → IsLine committer → links (record { kind = Commit; body = commit_body tree ps author committer message }) ≡ tree ∷ ps
  pub commit_parents : (tree : Id) (ps : List Id) (author committer message : List ℕ) → ((x : Id) → Contains (tree ∷ ps) x → (o : Object) × (name_of o ≡ x))
      → IsLine author → IsLine committer → parents (record { kind = Commit; body = commit_body tree ps author committer message }) ≡ ps

-- A finite map from names to objects.
abbrev pub Objects : Type 0
Objects = FinMap (slice_cmp nat_cmp) Object

-- What is found under a name, or that nothing is.
abbrev pub Lookup : Type 0
Lookup = Id → Option Object

abbrev pub stored : Objects → Lookup
stored s x = get s x

-- What is found in s, else in c.
abbrev pub over : Objects → Objects → Lookup
over s c x = option_or (get s x) (get c x)

-- Each object stands under its own name.
pub record IsNamed (fmt : Format) (s : Objects) : Type 0 where
  pub named : (x : Id) (o : Object) → get s x ≡ Some o → fmt.name_of o ≡ x
