-- Ref-update commands, their verdicts, and the pushes that are open at the shared node.
use Rattle.std.specs.Prelude.{◌≡◌, ◌≢◌, ℕ, Bool, true, false, IsTrue, List, [], ◌∷◌, map, Option, Some, None, is_none, ◌⊎◌, if◌then◌else◌, Contains}
use Rattle.std.specs.FinMap.{FinMap, get, insert}
use Rattle.std.specs.Ordering.{nat_cmp}
use Rattle.std.specs.List.{list_any, list_all, AllByRecursion}
use Rattle.vc_model.specs.Object.{Id, zero_id, Format, Objects, Lookup}
use Rattle.vc_model.specs.Reach.{IsClosed, HasHistory, IsAncestor}
use Rattle.vc_model.specs.Refs.{RefName, Refs, IsBranch, IsTag, IsFree, IsCurrent}
use Rattle.vc_model.specs.Repository.{Change}
use Rattle.vc_model.specs.Repository.Change.{SetRefs}

pub record Command : Type 0 where
  pub old : Id
  pub new : Id
  pub name : RefName

pub data Reason : Type 0 where
  BadName : Reason
  OutsideRefs : Reason
  Deletion : Reason
  MissingObjects : Reason
  NotACommit : Reason
  NonFastForward : Reason
  AlreadyExists : Reason
  NameConflict : Reason
  Stale : Reason
  UnpackerError : Reason
  AtomicFailure : Reason

-- the number of a reason
abbrev pub reason_number : Reason → ℕ
reason_number BadName = 100
reason_number OutsideRefs = 101
reason_number Deletion = 102
reason_number MissingObjects = 103
reason_number NotACommit = 104
reason_number NonFastForward = 105
reason_number AlreadyExists = 106
reason_number NameConflict = 107
reason_number Stale = 108
reason_number UnpackerError = 109
reason_number AtomicFailure = 117

-- What a command's check asks, by the reason that is given where it fails, over what is found at that moment.
abbrev pub CheckNeeds : Format → Lookup → Command → Reason → Type 0
CheckNeeds fmt at c BadName = IsTrue (fmt.is_legal c.name)
CheckNeeds fmt at c OutsideRefs = IsBranch c.name ⊎ IsTag c.name
CheckNeeds fmt at c Deletion = c.new ≢ zero_id
CheckNeeds fmt at c MissingObjects = IsClosed fmt at c.new
CheckNeeds fmt at c NotACommit = IsBranch c.name → HasHistory fmt at c.new
CheckNeeds fmt at c NonFastForward = IsBranch c.name → (c.old ≡ zero_id) ⊎ IsAncestor fmt at c.old c.new
CheckNeeds fmt at c _ = Unit {0}

-- What its update asks of the refs at that moment.
abbrev pub UpdateNeeds : Refs → Command → Reason → Type 0
UpdateNeeds refs c AlreadyExists = IsTag c.name → get refs c.name ≡ None
UpdateNeeds refs c NameConflict = IsFree refs c.name
UpdateNeeds refs c Stale = IsCurrent refs c.name c.old
UpdateNeeds refs c _ = Unit {0}

-- in the order of judgement
abbrev pub check_reasons : List Reason
check_reasons = BadName ∷ OutsideRefs ∷ Deletion ∷ MissingObjects ∷ NotACommit ∷ NonFastForward ∷ []

abbrev pub update_reasons : List Reason
update_reasons = AlreadyExists ∷ NameConflict ∷ Stale ∷ []

-- The first need that fails.
abbrev pub FirstUnmet : (Reason → Type 0) → List Reason → Reason → Type 0
FirstUnmet needs [] r = ⊥
FirstUnmet needs (q ∷ qs) r = ((¬ needs q) × (r ≡ q)) ⊎ (needs q × FirstUnmet needs qs r)

-- Passing: no refusal yet.
pub data Verdict : Type 0 where
  Passing : Verdict
  Accepted : Verdict
  Refused : Reason → Verdict

pub record Judged : Type 0 where
  pub command : Command
  pub verdict : Verdict

abbrev pub is_passing : Judged → Bool
is_passing j = elim (j.verdict) [ Passing ↦ true | Accepted ↦ false | Refused r ↦ false ]

-- What the check makes of a command's verdict.
abbrev pub Checks : Format → Lookup → Command → Verdict → Verdict → Type 0
Checks fmt at c Passing Passing = AllByRecursion (CheckNeeds fmt at c) check_reasons
Checks fmt at c Passing (Refused r) = FirstUnmet (CheckNeeds fmt at c) check_reasons r
Checks fmt at c Passing Accepted = ⊥
Checks fmt at c v w = w ≡ v

abbrev pub ChecksAll : Format → Lookup → List Judged → List Judged → Type 0
ChecksAll fmt at [] [] = Unit {0}
ChecksAll fmt at (j ∷ js) (k ∷ ks) = (k.command ≡ j.command) × Checks fmt at j.command j.verdict k.verdict × ChecksAll fmt at js ks
ChecksAll fmt at [] (k ∷ ks) = ⊥
ChecksAll fmt at (j ∷ js) [] = ⊥

-- In an atomic push a command that passes has AtomicFailure where another does not.
abbrev pub failed_with_others : Judged → Judged
failed_with_others j = record j { verdict = if is_passing j then Refused AtomicFailure else j.verdict }

-- The check of a whole push.
abbrev pub ChecksPush : Format → Lookup → Bool → List Judged → List Judged → Type 0
ChecksPush fmt at false js ks = ChecksAll fmt at js ks
ChecksPush fmt at true js ks =
    (ms : List Judged) × ChecksAll fmt at js ms × (ks ≡ (if list_all is_passing ms then ms else map failed_with_others ms))

-- What one update makes of a passing command's verdict, and the changes.
abbrev pub Updates : Refs → Command → Verdict → List Change → Type 0
Updates refs c Accepted cs = AllByRecursion (UpdateNeeds refs c) update_reasons × (cs ≡ SetRefs ((c.name, c.new) ∷ []) ∷ [])
Updates refs c (Refused r) cs = FirstUnmet (UpdateNeeds refs c) update_reasons r × (cs ≡ [])
Updates refs c Passing cs = ⊥

-- In an atomic push a branch that an earlier command names is stale.
abbrev pub TurnNeeds : Refs → List RefName → Command → Reason → Type 0
TurnNeeds refs named c Stale = IsCurrent refs c.name c.old × (IsBranch c.name → ¬ Contains named c.name)
TurnNeeds refs named c r = UpdateNeeds refs c r

-- The refusals of commands that are judged in order, each over the refs as those before it that passed would leave them.
abbrev pub JudgesInTurn : Refs → List RefName → List Judged → List (Option Reason) → Type 0
JudgesInTurn refs named [] [] = Unit {0}
JudgesInTurn refs named (j ∷ js) (None ∷ rs) =
    AllByRecursion (TurnNeeds refs named j.command) update_reasons
    × JudgesInTurn (insert refs j.command.name j.command.new) (j.command.name ∷ named) js rs
JudgesInTurn refs named (j ∷ js) (Some r ∷ rs) =
    FirstUnmet (TurnNeeds refs named j.command) update_reasons r × JudgesInTurn refs (j.command.name ∷ named) js rs
JudgesInTurn refs named [] (r ∷ rs) = ⊥
JudgesInTurn refs named (j ∷ js) [] = ⊥

abbrev pub accepted : Judged → Judged
accepted j = record j { verdict = Accepted }

abbrev pub refused_by : List Judged → List (Option Reason) → List Judged
refused_by (j ∷ js) (Some r ∷ rs) = record j { verdict = Refused r } ∷ refused_by js rs
refused_by (j ∷ js) (None ∷ rs) = record j { verdict = Refused AtomicFailure } ∷ refused_by js rs
refused_by _ _ = []

abbrev pub new_value : Judged → RefName × Id
new_value j = (j.command.name, j.command.new)

-- All refs of an atomic push are set as one change, or none.
abbrev pub UpdatesAll : Refs → List Judged → List (Option Reason) → List Judged → List Change → Type 0
UpdatesAll refs js rs ks cs =
    JudgesInTurn refs [] js rs
    × ((list_all is_none rs ≡ true) × (ks ≡ map accepted js) × (cs ≡ SetRefs (map new_value js) ∷ [])
    ⊎ (list_all is_none rs ≡ false) × (ks ≡ refused_by js rs) × (cs ≡ []))

pub data Stage : Type 0 where
  Unpacked : Stage
  Checked : Stage
  Migrated : Stage
  Finished : Stage

pub record OpenPush : Type 0 where
  pub atomic : Bool
  pub fault : Option ℕ  -- the refusal of the first carried body that is at fault
  pub commands : List Judged
  pub carried : Objects
  pub stage : Stage

-- at most eight, under 0 to 7
abbrev pub Slots : Type 0
Slots = FinMap nat_cmp OpenPush

abbrev pub stage_while : List Judged → Stage → Stage
stage_while js s = if list_any is_passing js then s else Finished
