-- What holds along the life of a served node.
use Rattle.std.specs.Prelude.{◌≡◌, ◌⊎◌, ℕ, Bool, List, ◌∷◌, ◌++◌, map, Option, Some, Ok, Err}
use Rattle.std.specs.FinMap.{get}
use Rattle.std.specs.List.{AllZip}
use Rattle.vc_model.specs.Clone.{accepted_ids}
use Rattle.vc_model.specs.Desk.{ExactLog, IsAnswered, NoneCollide, OpensSound, Receipt, served}
use Rattle.vc_model.specs.Message.{Message, Told}
use Rattle.vc_model.specs.Message.Message.{Push, Report}
use Rattle.vc_model.specs.Object.{Format, Id, Object, Objects, stored}
use Rattle.vc_model.specs.Push.{Command}
use Rattle.vc_model.specs.Reach.{IsAncestor}
use Rattle.vc_model.specs.Refs.{IsTag, RefName, branch, with_refs}
use Rattle.vc_model.specs.Repository.{IsBare, IsSound, Repository}
use Rattle.vc_model.specs.Rules.{Rules}
use Rattle.vc_model.specs.SharedCall.{SharedCall}
use Rattle.vc_model.specs.SharedCall.SharedCall.{Accept}
use Rattle.vc_life.specs.Life.{AreApart, Comes, IsLife, IsServed, Life, log_of, opened_shared, repository_after, repository_at}

-- It begins sound and bare, and no two different objects that were there or that came have one name.
pub record BeginsWell (fmt : Format) (start : Repository) (ts : Life) : Type 0 where
  pub sound : IsSound fmt start
  pub bare : IsBare fmt start
  pub apart : AreApart fmt start (log_of start ts)

-- What is stored after some of the turns is what is stored at a moment of the log.
abbrev pub TurnsAreMoments : Type 0
TurnsAreMoments = (start : Repository) (late early : Life) →
    (more : ExactLog) × (log_of start (late ++ early) ≡ more ++ log_of start early) × (repository_at start (log_of start early) ≡ repository_after start early)

-- The calls are an exact log, in which no names collide; so what holds of each log holds of them.
abbrev pub LifeIsLog : (fmt : Format) → Rules fmt → Type 0
LifeIsLog fmt rules = (start : Repository) (ts : Life) → IsLife fmt rules start ts → BeginsWell fmt start ts →
    OpensSound fmt (opened_shared start) × IsAnswered fmt rules (opened_shared start) (log_of start ts) × NoneCollide fmt (opened_shared start) (map served (log_of start ts))

-- At each moment the node is sound and bare: what its refs, HEAD and index reach is there.
abbrev pub LifeStaysSound : (fmt : Format) → Rules fmt → Type 0
LifeStaysSound fmt rules = (start : Repository) (ts : Life) (late early : ExactLog) → IsLife fmt rules start ts → BeginsWell fmt start ts → log_of start ts ≡ late ++ early →
    IsSound fmt (repository_at start early) × IsBare fmt (repository_at start early)

-- A tag that has a value keeps it, and HEAD and the index stay.
pub record KeepsTags (old new : Repository) : Type 0 where
  pub tags : (n : RefName) (x : Id) → IsTag n → get old.refs n ≡ Some x → get new.refs n ≡ Some x
  pub head : new.head ≡ old.head
  pub index : new.index ≡ old.index

-- So it is; each object stays; and a branch that has a value has one, which descends from it.
pub record GoesForward (fmt : Format) (old new : Repository) : Type 0 where
  pub objects : (x : Id) (o : Object) → get old.objects x ≡ Some o → get new.objects x ≡ Some o
  pub branches : (b : List ℕ) (x : Id) → get old.refs (branch b) ≡ Some x → (y : Id) × (get new.refs (branch b) ≡ Some y) × IsAncestor fmt (stored new.objects) x y
  pub others : KeepsTags old new

-- So it is from each moment to each later one.
abbrev pub LifeGoesForward : (fmt : Format) → Rules fmt → Type 0
LifeGoesForward fmt rules = (start : Repository) (ts : Life) (later late early : ExactLog) → IsLife fmt rules start ts → BeginsWell fmt start ts → log_of start ts ≡ later ++ (late ++ early) →
    GoesForward fmt (repository_at start early) (repository_at start (late ++ early))

-- the line of a command: it was accepted with its new id, or why not
pub record IsLineOf (c : Command) (t : Told) : Type 0 where
  pub name : t.name ≡ c.name
  pub outcome : (t.outcome ≡ Ok c.new) ⊎ ((n : ℕ) × (t.outcome ≡ Err n))

-- The message reports on the commands, one line of each, in their order. What it says was accepted was set, in that order, and no
-- other ref was.
pub record TellsWhatIsSet (fault : Option ℕ) (commands : List Command) (old new : Repository) (m : Message) : Type 0 where
  pub told : List Told
  pub report : m ≡ Report fault told
  pub lines : AllZip IsLineOf commands told
  pub set : new.refs ≡ with_refs (accepted_ids told) old.refs

-- So it is of each turn in which a push came and something was sent back.
abbrev pub LifeTellsWhatIsSet : (fmt : Format) → Rules fmt → Type 0
LifeTellsWhatIsSet fmt rules = (start : Repository) (late early : Life) (last : Receipt) (before : ExactLog) (atomic : Bool) (fault : Option ℕ) (commands : List Command) (objects : Objects) (m : Message) →
    IsLife fmt rules start (late ++ (last ∷ before) ∷ early) → BeginsWell fmt start (late ++ (last ∷ before) ∷ early) → IsServed (Accept (Push atomic fault commands objects)) last before → last.sends ≡ Some m →
    TellsWhatIsSet fault commands (repository_after start early) last.node.repository m

-- What a turn reports was a push, and so it is of it.
pub record ReportsPush (call : SharedCall) (fault : Option ℕ) (told : List Told) (old new : Repository) : Type 0 where
  pub atomic : Bool
  pub commands : List Command
  pub objects : Objects
  pub push : call ≡ Accept (Push atomic fault commands objects)
  pub lines : AllZip IsLineOf commands told
  pub set : new.refs ≡ with_refs (accepted_ids told) old.refs

-- So is each report that is sent.
abbrev pub LifeReportsPushes : (fmt : Format) → Rules fmt → Type 0
LifeReportsPushes fmt rules = (start : Repository) (late early : Life) (last : Receipt) (before : ExactLog) (call : SharedCall) (fault : Option ℕ) (told : List Told) →
    IsLife fmt rules start (late ++ (last ∷ before) ∷ early) → BeginsWell fmt start (late ++ (last ∷ before) ∷ early) → Comes call → IsServed call last before → last.sends ≡ Some (Report fault told) →
    ReportsPush call fault told (repository_after start early) last.node.repository
