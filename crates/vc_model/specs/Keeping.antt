-- What each step of a node keeps, beside its being sound: open pushes can go on, whatever others store or prune.
use Rattle.std.specs.Prelude.{◌≡◌, ℕ, Bool, true, List, Option, Some, ◌⊎◌}
use Rattle.std.specs.FinMap.{get}
use Rattle.std.specs.List.{AllByRecursion, list_all}
use Rattle.vc_model.specs.Object.{Id, zero_id, Object, Format, Objects, Lookup, IsNamed, stored, over}
use Rattle.vc_model.specs.Refs.{IsBranch}
use Rattle.vc_model.specs.Repository.{Repository, IsGoodValue, IsSharedName, IsSound, IsBare}
use Rattle.vc_model.specs.Push.{Command, Judged, Stage, OpenPush, Slots, is_passing}
use Rattle.vc_model.specs.Push.Verdict.{Passing}
use Rattle.vc_model.specs.Push.Stage.{Unpacked, Checked, Migrated, Finished}
use Rattle.vc_model.specs.Message.{Message, IsNamedMessage}
use Rattle.vc_model.specs.Node.{Answer}
use Rattle.vc_model.specs.Shared.{SharedNode, SharedEvent, SharedStep}
use Rattle.vc_model.specs.Shared.SharedEvent.{Arrives}
use Rattle.vc_model.specs.Clone.{CloneNode, Task, CloneEvent, CloneStep}
use Rattle.vc_model.specs.Clone.CloneEvent.{Commanded, Gets}
use Rattle.vc_model.specs.Run.{BringsLocally}

-- What a command that passed its check meets, over what is found at.
pub record JudgedOk (fmt : Format) (at : Lookup) (anc : Id → Id → Type 0) (c : Command) : Type 0 where
  pub value : IsGoodValue fmt at c.name c.new
  pub place : IsSharedName fmt c.name
  pub forward : IsBranch c.name → (c.old ≡ zero_id) ⊎ anc c.old c.new

abbrev pub PassingOk : Format → Lookup → (Id → Id → Type 0) → Judged → Type 0
PassingOk fmt at anc j = j.verdict ≡ Passing → JudgedOk fmt at anc j.command

pub record CommandsOk (fmt : Format) (at : Lookup) (anc : Id → Id → Type 0) (atomic : Bool) (js : List Judged) : Type 0 where
  pub each : AllByRecursion (PassingOk fmt at anc) js
  pub together : atomic ≡ true → list_all is_passing js ≡ true

abbrev pub StageOk : Format → (Id → Id → Type 0) → Objects → OpenPush → Stage → Type 0
StageOk fmt anc s p Unpacked = Unit {0}
StageOk fmt anc s p Checked = CommandsOk fmt (over s p.carried) anc p.atomic p.commands
StageOk fmt anc s p Migrated = CommandsOk fmt (stored s) anc p.atomic p.commands
StageOk fmt anc s p Finished = Unit {0}

pub record PushOk (fmt : Format) (anc : Id → Id → Type 0) (s : Objects) (p : OpenPush) : Type 0 where
  pub carried : IsNamed fmt p.carried
  pub commands : StageOk fmt anc s p p.stage

abbrev pub SlotsOk : Format → (Id → Id → Type 0) → Objects → Slots → Type 0
SlotsOk fmt anc s slots = (k : ℕ) (p : OpenPush) → get slots k ≡ Some p → PushOk fmt anc s p

-- What an open push carries under some name is what is stored there.
abbrev pub Alone : Objects → Slots → Type 0
Alone s slots = (k : ℕ) (p : OpenPush) → get slots k ≡ Some p → (x : Id) (o q : Object) → get p.carried x ≡ Some o → get s x ≡ Some q → o ≡ q

-- What holds of the shared node.
pub record SharedKept (fmt : Format) (anc : Id → Id → Type 0) (n : SharedNode) : Type 0 where
  pub sound : IsSound fmt n.repository
  pub bare : IsBare fmt n.repository
  pub slots : (slots : Slots) → n.live ≡ Some slots → SlotsOk fmt anc n.repository.objects slots

-- a message that comes is named
abbrev pub Arrived : Format → SharedEvent → Type 0
Arrived fmt (Arrives m) = IsNamedMessage fmt m
Arrived fmt _ = Unit {0}

-- a brought object is the one that is stored under its name
abbrev pub Fits : Format → Repository → Task → Type 0
Fits fmt r t = (o p : Object) → BringsLocally t o → get r.objects (fmt.name_of o) ≡ Some p → o ≡ p

-- A message that comes is named, and what a local command brings is what is stored under its name.
abbrev pub Comes : Format → Repository → CloneEvent → Type 0
Comes fmt r (Commanded t) = Fits fmt r t
Comes fmt r (Gets m) = IsNamedMessage fmt m
Comes fmt r _ = Unit {0}

-- where no order of ids is asked
abbrev pub any_order : Id → Id → Type 0
any_order a b = Unit {0}

abbrev pub IsNamedSend : Format → Option Message → Type 0
IsNamedSend fmt sends = (m : Message) → sends ≡ Some m → IsNamedMessage fmt m

-- A step of the shared node keeps it, where an open push carries under no name another object than is stored then.
abbrev pub SharedStepKeeps : Type 0
SharedStepKeeps = (fmt : Format) (old new : SharedNode) (e : SharedEvent) (a : Answer) (sends : Option Message) →
    SharedKept fmt any_order old → Arrived fmt e → ((slots : Slots) → old.live ≡ Some slots → Alone new.repository.objects slots) →
    SharedStep fmt old e a new sends → SharedKept fmt any_order new × IsNamedSend fmt sends

-- A step of a clone keeps it sound, where a local command brings no other object than is stored under its name.
abbrev pub CloneStepKeeps : Type 0
CloneStepKeeps = (fmt : Format) (old new : CloneNode) (e : CloneEvent) (a : Answer) (sends : Option Message) →
    IsSound fmt old.repository → Comes fmt old.repository e → CloneStep fmt old e a new sends → IsSound fmt new.repository × IsNamedSend fmt sends
