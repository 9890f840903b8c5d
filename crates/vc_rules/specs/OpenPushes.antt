-- An open push of the machine, as a session and the files under its slot have it, and that each step of the session is the
-- machine's.
use Rattle.std.specs.Prelude.{◌≡◌, ◌≢◌, ◌<◌, ◌^◌, ◌⊎◌, ℕ, Bool, List, [], ◌∷◌, map, Option, Result, Ok, Err, option_map}
use Rattle.std.specs.FinMap.{get}
use Rattle.vc_files.specs.FileMap.{FileMap}
use Rattle.vc_format.specs.Git.{id_of_bytes}
use Rattle.vc_model.specs.Message.{Told}
use Rattle.vc_model.specs.Node.{Reply}
use Rattle.vc_model.specs.Node.Reply.{Passed, MigratedAll, Updated, UpdatedAll, RefusedAll}
use Rattle.vc_model.specs.Object.{Id, Objects}
use Rattle.vc_model.specs.Push as machine
use Rattle.vc_model.specs.Push.{OpenPush, Judged}
use Rattle.vc_model.specs.Push.Stage.{Unpacked as MachineUnpacked, Checked as MachineChecked, Migrated as MachineMigrated, Finished}
use Rattle.vc_model.specs.Push.Verdict.{Passing as MachinePassing, Accepted as MachineAccepted, Refused as MachineRefused}
use Rattle.vc_model.specs.Refs.{RefName}
use Rattle.vc_model.specs.Repository.{Effect, Repository, Done, StopsWithin, IsSound, no_effect}
use Rattle.vc_model.specs.Shared as shared
use Rattle.vc_object.specs.declared.fault.ObjectFault.{ObjectFault}
use Rattle.vc_object.specs.declared.id.ObjectId.{ObjectId}
use Rattle.vc_push.specs.Push.{Carried, CommandText, FaultOf}
use Rattle.vc_push.specs.Reason.{reason_number, reason_text}
use Rattle.vc_push.specs.Report.{ReportText, ToldText, unpack_error}
use Rattle.vc_push.specs.ReportView.{report_text}
use Rattle.vc_push.specs.declared.reason.Reason.{Reason}
use Rattle.vc_refs.specs.Refs.{refs}
use Rattle.vc_object_map.specs.Store.{objects}
use Rattle.vc_push_rules.specs.Carrying.{Carries, HoldsNames, objects_of_push}
use Rattle.vc_push_rules.specs.Quarantine.{quarantined}
use Rattle.vc_push_rules.specs.Session.{IsSession, SessionText}
use Rattle.vc_push_rules.specs.Steps.{EndsEarly, IsOpened, MayWrite, Steps, fault_number}
use Rattle.vc_push_rules.specs.declared.stage.Stage.{Stage}
use Rattle.vc_push_rules.specs.declared.stage.Stage.TheVariants.{Unpacked, Checked, Migrated, Done as AtItsEnd}
use Rattle.vc_push_rules.specs.declared.stage.Stepped.{Stepped}
use Rattle.vc_push_rules.specs.declared.stage.Stepped.TheVariants as stepped
use Rattle.vc_push_rules.specs.declared.stage.Verdict.{Verdict}
use Rattle.vc_push_rules.specs.declared.stage.Verdict.TheVariants.{Passing, Accepted, Refused}
use Rattle.vc_rules.specs.Git.{git, stored_of}
use Rattle.vc_rules.specs.Verdicts.{machine_command, machine_reason}

-- the files hold the repository's objects and refs
pub record HoldsContent (content : FileMap) (r : Repository) : Type 0 where
  pub objects_are : (x : Id) → objects content (id_of_bytes x) ≡ option_map stored_of (get r.objects x)
  pub refs_are : (n : RefName) → refs content n ≡ option_map id_of_bytes (get r.refs n)

-- ---- an open push
abbrev pub machine_standing : Verdict → machine.Verdict
machine_standing Passing = MachinePassing
machine_standing Accepted = MachineAccepted
machine_standing (Refused r) = MachineRefused (machine_reason r)

-- each command with its verdict
abbrev pub judged_commands : List CommandText → List Verdict → List Judged
judged_commands (c ∷ cs) (v ∷ vs) = record { command = machine_command c; verdict = machine_standing v } ∷ judged_commands cs vs
judged_commands _ _ = []

abbrev pub machine_stage : Stage → machine.Stage
machine_stage Unpacked = MachineUnpacked
machine_stage Checked = MachineChecked
machine_stage Migrated = MachineMigrated
machine_stage AtItsEnd = Finished

-- the session and the quarantine of its slot are this open push
pub record HoldsPush (content : FileMap) (s : SessionText) (p : OpenPush) : Type 0 where
  pub session : IsSession s
  pub atomic : p.atomic ≡ s.atomic
  pub fault : p.fault ≡ option_map fault_number s.fault
  pub commands : p.commands ≡ judged_commands s.commands s.verdicts
  pub carried : (x : Id) → quarantined content s.slot (id_of_bytes x) ≡ option_map stored_of (get p.carried x)
  pub names : HoldsNames content s.slot s.names
  pub stage : p.stage ≡ machine_stage s.stage

-- ---- a step
-- an outcome as it is told: the new id, or the number of the reason
abbrev pub IsOutcomeAs : Result ObjectId (List ℕ) → Result Id ℕ → Type 0
IsOutcomeAs text outcome =
    ((id : ObjectId) × (text ≡ Ok id) × (outcome ≡ Ok id.0)) ⊎ ((r : Reason) × (text ≡ Err (reason_text r)) × (outcome ≡ Err (reason_number r)))

-- what the machine tells of a command is what the report does
abbrev pub IsToldAs : ToldText → Told → Type 0
IsToldAs text t = (t.name ≡ text.name) × IsOutcomeAs text.outcome t.outcome

abbrev pub AreToldAs : List ToldText → List Told → Type 0
AreToldAs [] [] = Unit {0}
AreToldAs (x ∷ xs) (t ∷ ts) = IsToldAs x t × AreToldAs xs ts
AreToldAs _ _ = ⊥

-- A step before the end: what is held then is what the machine may have then, and over a sound repository the step is the machine's.
pub record IsPushStep (new : FileMap) (t : SessionText) (reply : Reply) (r : Repository) (p : OpenPush) : Type 0 where
  pub effect : Effect
  pub left : OpenPush
  pub after : Repository
  pub step : IsSound git r → shared.StepsPush git r p p.stage effect left reply
  pub done : Done r effect after
  pub content : HoldsContent new after
  pub head : after.head ≡ r.head
  pub index : after.index ≡ r.index
  pub held : HoldsPush new t left

-- the end: all is told, and what is stored stays
pub record IsPushEnd (new : FileMap) (report : ReportText) (r : Repository) (p : OpenPush) : Type 0 where
  pub told : List Told
  pub finished : p.stage ≡ Finished
  pub tells : shared.TellsAll p.commands told
  pub unpack : report.unpack ≡ option_map unpack_error p.fault
  pub told_as : AreToldAs report.told told
  pub content : HoldsContent new r

abbrev pub StepsAs : Stepped → FileMap → SessionText → Repository → OpenPush → Type 0
StepsAs (stepped.Checked n) new t r p = IsPushStep new t (Passed n) r p
StepsAs stepped.Migrated new t r p = IsPushStep new t MigratedAll r p
StepsAs (stepped.Updated name found) new t r p = IsPushStep new t (Updated name.items (option_map machine_reason found)) r p
StepsAs (stepped.Atomic n) new t r p = IsPushStep new t (UpdatedAll n) r p
StepsAs (stepped.AtomicRefused name reason) new t r p = IsPushStep new t (RefusedAll name.items (machine_reason reason)) r p
StepsAs (stepped.Finished report) new t r p = IsPushEnd new (report_text report) r p

-- a step of a session is a step of the push that it stands for
abbrev pub StepsAgree : Type 0
StepsAgree = (old new : FileMap) (s t : SessionText) (did : Stepped) (r : Repository) (p : OpenPush) →
    HoldsContent old r → HoldsPush old s p → Steps old new s t did → IsSession t → StepsAs did new t r p

-- ---- the other slots
-- and what stands in another slot is the same push
abbrev pub OthersStay : Type 0
OthersStay = (old new : FileMap) (s t u : SessionText) (did : Stepped) (q : OpenPush) → s.slot < 2 ^ 64 → u.slot < 2 ^ 64 → u.slot ≢ s.slot →
    Steps old new s t did → HoldsPush old u q → HoldsPush new u q

-- ---- the opening
-- what a push brings, as objects of the machine
abbrev pub AreBrought : Carried → Objects → Type 0
AreBrought carried c = (x : Id) → option_map stored_of (get c x) ≡ objects_of_push carried (id_of_bytes x)

-- there are such objects, whatever it brings
abbrev pub EachIsBrought : Type 0
EachIsBrought = (carried : Carried) → (c : Objects) × AreBrought carried c

-- a push that is opened is the machine's as it opens one that brings them
abbrev pub OpensAgree : Type 0
OpensAgree = (content : FileMap) (s : SessionText) (slot : ℕ) (fault : Option ObjectFault) (atomic : Bool) (commands : List CommandText) (carried : Carried) (c : Objects) →
    IsOpened slot fault atomic commands s → IsSession s → FaultOf carried fault → Carries content slot s.names (objects_of_push carried) → AreBrought carried c
    → HoldsPush content s (shared.opened atomic (option_map fault_number fault) (map machine_command commands) c)

-- ---- a step that ends early
-- what a stop of the machine's may leave of this effect
pub record IsStop (new : FileMap) (r : Repository) (effect : Effect) : Type 0 where
  pub after : Repository
  pub stops : StopsWithin r effect after
  pub content : HoldsContent new after
  pub head : after.head ≡ r.head
  pub index : after.index ≡ r.index

-- some of what is carried may be stored; at each other stage the repository is as it was
abbrev pub EndsEarlyAs : Stage → FileMap → Repository → OpenPush → Type 0
EndsEarlyAs Unpacked new r p = HoldsContent new r
EndsEarlyAs Checked new r p = IsStop new r (record { objects = p.carried; changes = [] })
EndsEarlyAs Migrated new r p = HoldsContent new r
EndsEarlyAs AtItsEnd new r p = HoldsContent new r

abbrev pub EndsEarlyAgree : Type 0
EndsEarlyAgree = (old new : FileMap) (s : SessionText) (stage : Stage) (r : Repository) (p : OpenPush) →
    HoldsContent old r → HoldsPush old s p → EndsEarly old new s stage → EndsEarlyAs stage new r p

-- ---- what a step may write
-- the machine's push is at its end, or some step of it changes what is stored
abbrev pub WantsToWrite : Repository → OpenPush → Type 0
WantsToWrite r p = (p.stage ≡ Finished) ⊎ ((effect : Effect) × (left : OpenPush) × (reply : Reply) × shared.StepsPush git r p p.stage effect left reply × (effect ≢ no_effect))

-- if a step of a session may write, the machine's wants to
abbrev pub WritesAgree : Type 0
WritesAgree = (content : FileMap) (s : SessionText) (stage : Stage) (r : Repository) (p : OpenPush) →
    HoldsContent content r → HoldsPush content s p → s.stage ≡ stage → MayWrite content s stage → WantsToWrite r p
