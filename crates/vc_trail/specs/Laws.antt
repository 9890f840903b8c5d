-- What exchanges with anyone leave of a clone.
use Rattle.std.specs.Prelude.{◌≡◌, ◌⊎◌, ℕ, List, ◌++◌, Some, None, Contains}
use Rattle.std.specs.FinMap.{get}
use Rattle.vc_model.specs.Object.{Id, Object, Format, stored}
use Rattle.vc_model.specs.Reach.{IsAncestor}
use Rattle.vc_model.specs.Refs.{RefName, Refs, branch, tracking, IsTag, IsTrackingRef}
use Rattle.vc_model.specs.Repository.{Repository, IsSound}
use Rattle.vc_model.specs.Message.{Message}
use Rattle.vc_model.specs.Message.Message.{Advert, Report}
use Rattle.vc_model.specs.Clone.{CloneNode, accepted_ids}
use Rattle.vc_model.specs.Clone.Awaited.{APack}
use Rattle.vc_model.specs.Rules.{Rules}
use Rattle.vc_trail.specs.Trail.{Came, Trail, clone_after, IsTrail, AreExchanged}

-- What is a clone's own stays: each object, HEAD, the index, each ref but a tracking ref, unless a tag comes that was not there. A
-- tracking ref that has a value has one, which descends from it.
pub record KeepsClone (fmt : Format) (old new : Repository) : Type 0 where
  pub objects : (x : Id) (o : Object) → get old.objects x ≡ Some o → get new.objects x ≡ Some o
  pub head : new.head ≡ old.head
  pub index : new.index ≡ old.index
  pub others : (n : RefName) → (¬ IsTrackingRef n) → (get new.refs n ≡ get old.refs n) ⊎ (IsTag n × (get old.refs n ≡ None))
  pub forward : (b : List ℕ) (x : Id) → get old.refs (tracking b) ≡ Some x → (y : Id) × (get new.refs (tracking b) ≡ Some y) × IsAncestor fmt (stored new.objects) x y

-- At each moment the clone is sound: closed under its refs, HEAD and index, with commits alone in the histories of its branches and
-- tracking refs, and each object under its own name.
abbrev pub TrailStaysSound : (fmt : Format) → Rules fmt → Type 0
TrailStaysSound fmt rules = (start : CloneNode) (late early : Trail) → IsSound fmt start.repository → IsTrail fmt rules start (late ++ early) → AreExchanged fmt (late ++ early) →
    IsSound fmt (clone_after start early).repository

-- From each moment to each later one the clone keeps its own.
abbrev pub TrailKeeps : (fmt : Format) → Rules fmt → Type 0
TrailKeeps fmt rules = (start : CloneNode) (late early : Trail) → IsSound fmt start.repository → IsTrail fmt rules start (late ++ early) → AreExchanged fmt (late ++ early) →
    KeepsClone fmt (clone_after start early).repository (clone_after start (late ++ early)).repository

-- The message says that the branch has the value, or that it was set to it.
abbrev pub SaysValue : Message → List ℕ → Id → Type 0
SaysValue (Advert head refs) b x = get refs (branch b) ≡ Some x
SaysValue (Report fault told) b x = (r : RefName × Id) × Contains (accepted_ids told) r × (r.0 ≡ branch b) × (r.1 ≡ x)
SaysValue _ b x = ⊥

-- The clone awaits a pack, after which the tracking ref of the branch may follow this value.
abbrev pub AwaitsValue : CloneNode → List ℕ → Id → Type 0
AwaitsValue start b x = (wants : List Id) × (refs : Refs) × (start.live ≡ Some (APack wants refs)) × (get refs (branch b) ≡ Some x)

-- The tracking ref had the value, or the clone awaited it, or a message that came said so.
abbrev pub WasTold : CloneNode → Trail → List ℕ → Id → Type 0
WasTold start ts b x = (get start.repository.refs (tracking b) ≡ Some x) ⊎ (AwaitsValue start b x ⊎ ((m : Message) × Came ts m × SaysValue m b x))

-- No tracking ref has a value that nobody told.
abbrev pub TrailTracks : (fmt : Format) → Rules fmt → Type 0
TrailTracks fmt rules = (start : CloneNode) (ts : Trail) (b : List ℕ) (x : Id) → IsSound fmt start.repository → IsTrail fmt rules start ts → AreExchanged fmt ts →
    get (clone_after start ts).repository.refs (tracking b) ≡ Some x → WasTold start ts b x
