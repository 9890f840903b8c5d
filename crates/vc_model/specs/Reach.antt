-- Reachability, closed sets of objects, histories, ancestors.
use Rattle.std.specs.Prelude.{◌≡◌, List, [], ◌∷◌, Some, Contains}
use Rattle.vc_model.specs.Object.{Id, Object, Format, Lookup}
use Rattle.vc_model.specs.Object.Kind.{Commit}

-- A list of names that leads from x to y, each by one step from the one before. The empty list leads from x to x.
abbrev pub Path : (Id → Id → Type 0) → List Id → Id → Id → Type 0
Path step [] x y = x ≡ y
Path step (z ∷ zs) x y = step x z × Path step zs z y

abbrev pub Reaches : (Id → Id → Type 0) → Id → Id → Type 0
Reaches step x y = (zs : List Id) × Path step zs x y

-- x names an object that is there and links to y.
pub record Links (fmt : Format) (at : Lookup) (x y : Id) : Type 0 where
  pub object : Object
  pub found : at x ≡ Some object
  pub link : Contains (fmt.links object) y

-- x names a commit that is there and has the parent y.
pub record HasParent (fmt : Format) (at : Lookup) (x y : Id) : Type 0 where
  pub object : Object
  pub found : at x ≡ Some object
  pub commit : object.kind ≡ Commit
  pub parent : Contains (fmt.parents object) y

-- Every name that x reaches is there.
pub record IsClosed (fmt : Format) (at : Lookup) (x : Id) : Type 0 where
  pub there : (y : Id) → Reaches (Links fmt at) x y → (o : Object) × (at y ≡ Some o)

-- x is a commit, with commits alone along its parent links.
pub record HasHistory (fmt : Format) (at : Lookup) (x : Id) : Type 0 where
  pub commits : (y : Id) → Reaches (HasParent fmt at) x y → (o : Object) × (at y ≡ Some o) × (o.kind ≡ Commit)

-- A list of parent links leads from b to a.
abbrev pub IsAncestor : Format → Lookup → Id → Id → Type 0
IsAncestor fmt at a b = Reaches (HasParent fmt at) b a

-- A commit among these objects is named x and has the parent y.
pub record HasParentAmong (fmt : Format) (among : Object → Type 0) (x y : Id) : Type 0 where
  pub object : Object
  pub there : among object
  pub name : fmt.name_of object ≡ x
  pub commit : object.kind ≡ Commit
  pub parent : Contains (fmt.parents object) y

-- A list of parent links leads from b to a through commits among these objects.
abbrev pub IsAncestorAmong : Format → (Object → Type 0) → Id → Id → Type 0
IsAncestorAmong fmt among a b = Reaches (HasParentAmong fmt among) b a
