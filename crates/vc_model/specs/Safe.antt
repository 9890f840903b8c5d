-- The headline: what holds of every run.
use Rattle.std.specs.Prelude.{◌≡◌, ℕ, List, ◌++◌, Option, Some, ◌⊎◌, true, map, ◌∷◌}
use Rattle.std.specs.Option.{option_and_then}
use Rattle.std.specs.FinMap.{get}
use Rattle.vc_model.specs.Object.{Id, Format, stored}
use Rattle.vc_model.specs.Reach.{IsClosed, IsAncestorAmong}
use Rattle.vc_model.specs.Refs.{RefName, Refs, branch, tracking, with_refs}
use Rattle.vc_model.specs.Repository.{Repository, IsSound, IsBare}
use Rattle.vc_model.specs.Clone.{CloneNode}
use Rattle.vc_model.specs.Shared.{head_value}
use Rattle.vc_model.specs.World.{World, IsNew, StartsSound}
use Rattle.vc_model.specs.World.Event.{StepPush}
use Rattle.vc_model.specs.Push.{OpenPush, Slots, new_value}
use Rattle.vc_model.specs.Run.{Moment, History, world_after, Run, Occurs, NoCollision, NothingForgedToClones}

-- The repository's objects are closed under all its refs and its HEAD.
pub record ClosedUnderRefs (fmt : Format) (r : Repository) : Type 0 where
  pub refs : (n : RefName) (x : Id) → get r.refs n ≡ Some x → IsClosed fmt (stored r.objects) x
  pub head : (x : Id) → head_value r ≡ Some x → IsClosed fmt (stored r.objects) x

-- So it is at each node.
pub record EveryNodeClosed (fmt : Format) (w : World) : Type 0 where
  pub shared : ClosedUnderRefs fmt w.shared.repository
  pub clones : (c : ℕ) (n : CloneNode) → get w.clones c ≡ Some n → ClosedUnderRefs fmt n.repository

-- Each node is sound, and the shared one has branches and tags alone.
pub record EveryNodeSound (fmt : Format) (w : World) : Type 0 where
  pub shared : IsSound fmt w.shared.repository
  pub bare : IsBare fmt w.shared.repository
  pub clones : (c : ℕ) (n : CloneNode) → get w.clones c ≡ Some n → IsSound fmt n.repository

-- The value of branch b at the shared node, if it has one.
abbrev pub branch_value : World → List ℕ → Option Id
branch_value w b = get w.shared.repository.refs (branch b)

-- What clone c knows as the value of b, if it knows one.
abbrev pub tracking_value : World → ℕ → List ℕ → Option Id
tracking_value w c b = option_and_then (λ (n : CloneNode). get n.repository.refs (tracking b)) (get w.clones c)

-- a is an ancestor of b among all objects that occur.
abbrev pub AncestorEver : Format → World → History → Id → Id → Type 0
AncestorEver fmt start h a b = IsAncestorAmong fmt (Occurs start h) a b

-- a and b are equal, or one is an ancestor of the other.
abbrev pub Comparable : Format → World → History → Id → Id → Type 0
Comparable fmt start h a b = AncestorEver fmt start h a b ⊎ AncestorEver fmt start h b a

-- The refs are as they were, or as they are after all commands of the push are set: none is set without the others.
abbrev pub AreSetTogether : OpenPush → Refs → Refs → Type 0
AreSetTogether p old new = (new ≡ old) ⊎ (new ≡ with_refs (map new_value p.commands) old)

-- A guarded run, which a run is whatever bytes came to whom. An earlier moment is what is left of it without some of its front.
pub record IsGuarded (fmt : Format) (start : World) (h : History) : Type 0 where
  -- at each moment each node's objects are closed under all its refs and its HEAD
  pub closed : (late early : History) → h ≡ late ++ early → EveryNodeClosed fmt (world_after start early)
  -- a branch that has a value has one at every later moment, of which the first is an ancestor
  pub monotone : (later late early : History) (b : List ℕ) (x : Id) → h ≡ later ++ (late ++ early) → branch_value (world_after start early) b ≡ Some x →
      (y : Id) × (branch_value (world_after start (late ++ early)) b ≡ Some y) × AncestorEver fmt start h x y
  -- a step of an atomic push at the shared node sets all its refs there or none, also if a stop cuts it short
  pub together : (late early : History) (m : Moment) (slots : Slots) (s : ℕ) (p : OpenPush) → h ≡ late ++ (m ∷ early) →
      (world_after start early).shared.live ≡ Some slots → get slots s ≡ Some p → p.atomic ≡ true → m.event ≡ StepPush s →
      AreSetTogether p (world_after start early).shared.repository.refs m.world.shared.repository.refs

-- A safe run. An earlier moment is what is left of it without some of its front.
pub record IsSafe (fmt : Format) (start : World) (h : History) : Type 0 where
  -- at each moment each node's objects are closed under all its refs and its HEAD
  pub closed : (late early : History) → h ≡ late ++ early → EveryNodeClosed fmt (world_after start early)
  -- a branch that has a value has one at every later moment, of which the first is an ancestor
  pub monotone : (later late early : History) (b : List ℕ) (x : Id) → h ≡ later ++ (late ++ early) → branch_value (world_after start early) b ≡ Some x →
      (y : Id) × (branch_value (world_after start (late ++ early)) b ≡ Some y) × AncestorEver fmt start h x y
  -- a tracking value of a branch was the branch's value at that moment or an earlier one
  pub honest_tracking : (late early : History) (c : ℕ) (b : List ℕ) (x : Id) → h ≡ late ++ early → tracking_value (world_after start early) c b ≡ Some x →
      (between : History) × (before : History) × (early ≡ between ++ before) × (branch_value (world_after start before) b ≡ Some x)

-- Every run of a new world is safe.
abbrev pub EveryRunIsSafe : Type 0
EveryRunIsSafe = (fmt : Format) (n : ℕ) (start : World) (h : History) → IsNew start n → Run fmt start h → NoCollision fmt start h → NothingForgedToClones h → IsSafe fmt start h

-- Every run from sound nodes is guarded.
abbrev pub EveryRunIsGuarded : Type 0
EveryRunIsGuarded = (fmt : Format) (start : World) (h : History) → StartsSound fmt start → Run fmt start h → NoCollision fmt start h → IsGuarded fmt start h

-- At each moment each node is closed under its refs and HEAD.
abbrev pub Closed : Type 0
Closed = (fmt : Format) (start : World) (late early : History) →
    StartsSound fmt start → Run fmt start (late ++ early) → NoCollision fmt start (late ++ early) →
    EveryNodeClosed fmt (world_after start early)

-- At each moment each node is sound: closed under its index too, with histories of commits, each object under its name.
abbrev pub StaysSound : Type 0
StaysSound = (fmt : Format) (start : World) (late early : History) →
    StartsSound fmt start → Run fmt start (late ++ early) → NoCollision fmt start (late ++ early) →
    EveryNodeSound fmt (world_after start early)

-- A branch that has a value has one at every later moment, of which the first is an ancestor.
abbrev pub Monotone : Type 0
Monotone = (fmt : Format) (start : World) (late early : History) (b : List ℕ) (x : Id) →
    StartsSound fmt start → Run fmt start (late ++ early) → NoCollision fmt start (late ++ early) →
    branch_value (world_after start early) b ≡ Some x →
    (y : Id) × (branch_value (world_after start (late ++ early)) b ≡ Some y) × AncestorEver fmt start (late ++ early) x y

-- So it is with each tracking value of a clone.
abbrev pub Steady : Type 0
Steady = (fmt : Format) (start : World) (late early : History) (c : ℕ) (b : List ℕ) (x : Id) →
    StartsSound fmt start → Run fmt start (late ++ early) → NoCollision fmt start (late ++ early) →
    tracking_value (world_after start early) c b ≡ Some x →
    (y : Id) × (tracking_value (world_after start (late ++ early)) c b ≡ Some y) × AncestorEver fmt start (late ++ early) x y

-- A step of an atomic push leaves the refs of the shared node as they were, or with all of its commands' new values, also if a stop cuts it short.
abbrev pub Together : Type 0
Together = (fmt : Format) (start : World) (m : Moment) (h : History) (slots : Slots) (s : ℕ) (p : OpenPush) →
    Run fmt start (m ∷ h) → (world_after start h).shared.live ≡ Some slots → get slots s ≡ Some p → p.atomic ≡ true → m.event ≡ StepPush s →
    AreSetTogether p (world_after start h).shared.repository.refs m.world.shared.repository.refs

-- A new world starts sound.
abbrev pub NewIsSound : Type 0
NewIsSound = (fmt : Format) (start : World) (n : ℕ) → IsNew start n → StartsSound fmt start

-- A tracking value of a branch is its value at that moment or an earlier one.
abbrev pub HonestTracking : Type 0
HonestTracking = (fmt : Format) (n : ℕ) (start : World) (h : History) (c : ℕ) (b : List ℕ) (x : Id) →
    IsNew start n → Run fmt start h → NothingForgedToClones h → tracking_value (world_after start h) c b ≡ Some x →
    (late : History) × (early : History) × (h ≡ late ++ early) × (branch_value (world_after start early) b ≡ Some x)

-- Any two tracking values of one branch, at whichever clones and moments, are equal or ancestor and descendant.
abbrev pub InLine : Type 0
InLine = (fmt : Format) (n : ℕ) (start : World) (late early : History) (c d : ℕ) (b : List ℕ) (x y : Id) →
    IsNew start n → Run fmt start (late ++ early) → NoCollision fmt start (late ++ early) → NothingForgedToClones (late ++ early) →
    tracking_value (world_after start (late ++ early)) c b ≡ Some x → tracking_value (world_after start early) d b ≡ Some y →
    Comparable fmt start (late ++ early) x y

-- There is a run of a new world, with all that is asked above, after which a clone tracks a branch.
abbrev pub ARunExists : Type 0
ARunExists = (fmt : Format) × (start : World) × (h : History) × (n : ℕ) × (b : List ℕ) × (x : Id)
    × IsNew start n × Run fmt start h × NoCollision fmt start h × NothingForgedToClones h × (tracking_value (world_after start h) 0 b ≡ Some x)
