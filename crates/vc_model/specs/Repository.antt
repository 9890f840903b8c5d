-- What a node stores: objects, refs, HEAD and an index. What an event adds and changes there, whole or cut by a stop.
use Rattle.std.specs.Prelude.{◌≡◌, ◌≢◌, ℕ, IsTrue, List, [], ◌∷◌, Some, None, ◌⊎◌, take}
use Rattle.std.specs.FinMap.{FinMap, get, remove, empty}
use Rattle.std.specs.Ordering.{nat_cmp}
use Rattle.std.specs.Cmp.Lexicographic.{slice_cmp}
use Rattle.vc_model.specs.Object.{Id, Format, Objects, Lookup, IsNamed, stored, over}
use Rattle.vc_model.specs.Reach.{IsClosed, HasHistory}
use Rattle.vc_model.specs.Refs.{RefName, Refs, Head, IsBranch, IsTag, IsTrackingRef, with_refs}
use Rattle.vc_model.specs.Refs.Head.{OnBranch, Detached}

pub record Entry : Type 0 where
  pub mode : ℕ
  pub id : Id

abbrev pub Index : Type 0
Index = FinMap (slice_cmp nat_cmp) Entry

-- the mode 160000, a commit of another repository
abbrev pub gitlink : ℕ
gitlink = 57344

pub record Repository : Type 0 where
  pub objects : Objects
  pub refs : Refs
  pub head : Head
  pub index : Index

-- One change to what is stored beside the objects; it happens whole or not at all.
pub data Change : Type 0 where
  SetRefs : List (RefName × Id) → Change
  RemoveRef : RefName → Change
  SetHead : Head → Change
  SetIndex : Index → Change

abbrev pub changed : Change → Repository → Repository
changed (SetRefs rs) r = record r { refs = with_refs rs r.refs }
changed (RemoveRef n) r = record r { refs = remove r.refs n }
changed (SetHead h) r = record r { head = h }
changed (SetIndex i) r = record r { index = i }

-- in order
abbrev pub changed_all : List Change → Repository → Repository
changed_all [] r = r
changed_all (c ∷ cs) r = changed_all cs (changed c r)

abbrev pub with_objects : Repository → Objects → Repository
with_objects r s = record r { objects = s }

-- An event's effect: objects to add, then changes in their order.
pub record Effect : Type 0 where
  pub objects : Objects
  pub changes : List Change

abbrev pub no_effect : Effect
no_effect = record { objects = empty; changes = [] }

abbrev pub only_changes : List Change → Effect
only_changes cs = record { objects = empty; changes = cs }

-- All of c is added to s; what is there stays.
pub record AllAdded (s c after : Objects) : Type 0 where
  pub each : (x : Id) → get after x ≡ over s c x

-- Some of c is added to s.
pub record SomeAdded (s c after : Objects) : Type 0 where
  pub each : (x : Id) → (get after x ≡ get s x) ⊎ (get after x ≡ over s c x)

-- The effect is done whole.
abbrev pub Done : Repository → Effect → Repository → Type 0
Done old e new = (s : Objects) × AllAdded old.objects e.objects s × (new ≡ changed_all e.changes (with_objects old s))

-- A stop leaves some of the objects and no change, or all of them and a front of the changes.
abbrev pub StopsWithin : Repository → Effect → Repository → Type 0
StopsWithin old e new =
    ((s : Objects) × SomeAdded old.objects e.objects s × (new ≡ with_objects old s))
    ⊎ ((s : Objects) × (k : ℕ) × AllAdded old.objects e.objects s × (new ≡ changed_all (take k e.changes) (with_objects old s)))

-- A branch whose name breaks none of the rules.
abbrev pub IsBranchName : Format → RefName → Type 0
IsBranchName fmt n = IsBranch n × IsTrue (fmt.is_name n)

-- A branch or a tag that a push may set.
abbrev pub IsSharedName : Format → RefName → Type 0
IsSharedName fmt n = (IsBranch n ⊎ IsTag n) × IsTrue (fmt.is_legal n)

-- A ref and a value that it may have: a legal name, and an id that is closed, for a branch or a tracking ref a history of
-- commits.
pub record IsGoodValue (fmt : Format) (at : Lookup) (n : RefName) (x : Id) : Type 0 where
  pub name : IsTrue (fmt.is_name n)
  pub closed : IsClosed fmt at x
  pub kind : IsTag n ⊎ (IsBranch n ⊎ IsTrackingRef n) × HasHistory fmt at x

-- Branches and tags alone, that clones can track and hold, and a HEAD that names a branch, as at the shared node.
pub record IsBare (fmt : Format) (r : Repository) : Type 0 where
  pub each : (n : RefName) (x : Id) → get r.refs n ≡ Some x → IsSharedName fmt n
  pub on_branch : (n : RefName) × (r.head ≡ OnBranch n)

-- The objects are closed under all refs, HEAD and the index, each object under its own name.
pub record IsSound (fmt : Format) (r : Repository) : Type 0 where
  pub objects : IsNamed fmt r.objects
  pub refs : (n : RefName) (x : Id) → get r.refs n ≡ Some x → IsGoodValue fmt (stored r.objects) n x
  pub on_branch : (n : RefName) → r.head ≡ OnBranch n → IsBranchName fmt n
  pub head : (x : Id) → r.head ≡ Detached x → IsClosed fmt (stored r.objects) x × HasHistory fmt (stored r.objects) x
  pub index : (p : List ℕ) (e : Entry) → get r.index p ≡ Some e → e.mode ≢ gitlink → IsClosed fmt (stored r.objects) e.id

-- What refs, HEAD and index name.
abbrev pub IsRoot : Repository → Id → Type 0
IsRoot r x = ((n : RefName) × (get r.refs n ≡ Some x)) ⊎ ((r.head ≡ Detached x) ⊎ ((p : List ℕ) × (e : Entry) × (get r.index p ≡ Some e) × (e.mode ≢ gitlink) × (e.id ≡ x)))

-- The objects that are not needed go, and no others.
abbrev pub Pruned : (Id → Type 0) → Objects → Objects → Type 0
Pruned needed s after = (x : Id) → (needed x × (get after x ≡ get s x)) ⊎ ((¬ needed x) × (get after x ≡ None))

-- Some of them go.
abbrev pub PartlyPruned : (Id → Type 0) → Objects → Objects → Type 0
PartlyPruned needed s after = (x : Id) → (get after x ≡ get s x) ⊎ ((¬ needed x) × (get after x ≡ None))
