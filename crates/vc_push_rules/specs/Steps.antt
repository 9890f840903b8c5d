-- The steps of an open push, each a relation between the files and the session before it and after it.
use Rattle.std.specs.Prelude.{◌≡◌, ◌≢◌, ◌⊎◌, ⊤, ℕ, Bool, true, false, bytes_eq, List, [], ◌∷◌, ◌++◌, map, slice_get, length, codes, count_by, Option, Some, None, Ok, Err}
use Rattle.std.specs.FinMap as files
use Rattle.std.specs.List.{AllByRecursion, list_any}
use Rattle.vc_files.specs.FileMap.{FileMap, SameOutside}
use Rattle.vc_object.specs.ObjectMap.{ObjectMap}
use Rattle.vc_object.specs.declared.fault.ObjectFault.{ObjectFault}
use Rattle.vc_object.specs.declared.fault.ObjectFault.TheVariants as object
use Rattle.vc_object.specs.declared.id.ObjectId.{ObjectId}
use Rattle.vc_push.specs.Push.{CommandText}
use Rattle.vc_push.specs.Reason.{reason_text}
use Rattle.vc_push.specs.Report.{ToldText, ReportText, unpack_error}
use Rattle.vc_push.specs.ReportView.{report_text}
use Rattle.vc_push.specs.declared.reason.Reason.{Reason}
use Rattle.vc_refs.specs.Head.{KeepsOutside, KeepsTheRest}
use Rattle.vc_refs.specs.Packing.{is_one_of}
use Rattle.vc_refs.specs.RefMap.{RefMap}
use Rattle.vc_refs.specs.Refs.{packed_path, refs}
use Rattle.vc_object_map.specs.Store.{objects}
use Rattle.vc_push_rules.specs.Known.{AreRefsWhole}
use Rattle.vc_push_rules.specs.Quarantine.{objects_seen, quarantine_folder, IsDropped}
use Rattle.vc_push_rules.specs.Session.{SessionText, fresh, is_passing, stage_while, verdict_of}
use Rattle.vc_push_rules.specs.Turn.{checked_together, first_refusal, refused_by, with_new, JudgesInTurn, PassInTurn}
use Rattle.vc_push_rules.specs.Verdict.{check_reasons, CheckNeeds, FirstUnmet, IsVerdictAtUpdate, refs_after}
use Rattle.vc_push_rules.specs.declared.stage.Stage.{Stage}
use Rattle.vc_push_rules.specs.declared.stage.Stage.TheVariants.{Unpacked, Checked, Migrated, Done}
use Rattle.vc_push_rules.specs.declared.stage.Verdict.{Verdict}
use Rattle.vc_push_rules.specs.declared.stage.Verdict.TheVariants.{Passing, Accepted, Refused}
use Rattle.vc_push_rules.specs.declared.stage.Stepped.{Stepped}
use Rattle.vc_push_rules.specs.declared.stage.Stepped.TheVariants as stepped

-- a push as it is opened
pub record IsOpened (slot : ℕ) (fault : Option ObjectFault) (atomic : Bool) (commands : List CommandText) (s : SessionText) : Type 0 where
  pub slot_is : s.slot ≡ slot
  pub atomic_is : s.atomic ≡ atomic
  pub fault_is : s.fault ≡ fault
  pub commands_are : s.commands ≡ commands
  pub verdicts_are : s.verdicts ≡ map (λ c. fresh fault) commands
  pub stage_is : s.stage ≡ Unpacked

-- ---- the check
-- what it makes of a verdict
abbrev pub Checks : ObjectMap → CommandText → Verdict → Verdict → Type 0
Checks objects c Passing Passing = AllByRecursion (CheckNeeds objects c) check_reasons
Checks objects c Passing (Refused r) = FirstUnmet (CheckNeeds objects c) check_reasons r
Checks objects c Passing Accepted = ⊥
Checks objects c v w = w ≡ v

abbrev pub ChecksAll : ObjectMap → List CommandText → List Verdict → List Verdict → Type 0
ChecksAll objects [] [] [] = Unit {0}
ChecksAll objects (c ∷ cs) (v ∷ vs) (w ∷ ws) = Checks objects c v w × ChecksAll objects cs vs ws
ChecksAll objects _ _ _ = ⊥

-- the check of a whole push: each by itself, and in an atomic one none passes if another does not
abbrev pub ChecksPush : ObjectMap → Bool → List CommandText → List Verdict → List Verdict → Type 0
ChecksPush objects false cs vs ws = ChecksAll objects cs vs ws
ChecksPush objects true cs vs ws = (us : List Verdict) × ChecksAll objects cs vs us × (ws ≡ checked_together us)

-- all commands are judged over what is stored and carried at that moment, in a repository whose refs are whole
pub record StepChecks (old new : FileMap) (s t : SessionText) (n : ℕ) : Type 0 where
  pub stage : s.stage ≡ Unpacked
  pub verdicts : AreRefsWhole old → ChecksPush (objects_seen old s.slot) s.atomic s.commands s.verdicts t.verdicts
  pub session : t ≡ record s { verdicts = t.verdicts; stage = stage_while t.verdicts Checked }
  pub passed : n ≡ count_by is_passing t.verdicts
  pub files : new ≡ old

-- ---- storing what is carried
pub record StepMigrates (old new : FileMap) (s t : SessionText) : Type 0 where
  pub stage : s.stage ≡ Checked
  pub stored : (id : ObjectId) → objects new id ≡ objects_seen old s.slot id
  pub session : t ≡ record s { stage = Migrated }
  pub outside : SameOutside (codes "objects/") old new

-- ---- one update
-- the next command that passed is judged over the refs of that moment, and its ref is set where nothing is against it
pub record UpdatesNext (old new : RefMap) (commands : List CommandText) (vs ws : List Verdict) (name : List ℕ) (found : Option Reason) : Type 0 where
  pub front : List Verdict
  pub back : List Verdict
  pub command : CommandText
  pub before : vs ≡ front ++ Passing ∷ back
  pub first : list_any is_passing front ≡ false
  pub command_is : slice_get commands (length front) ≡ Some command
  pub named : name ≡ command.name
  pub judged : IsVerdictAtUpdate old command found
  pub refs_are : new ≡ refs_after old command found
  pub after : ws ≡ front ++ verdict_of found ∷ back

pub record StepUpdates (old new : FileMap) (s t : SessionText) (name : List ℕ) (found : Option Reason) : Type 0 where
  pub stage : s.stage ≡ Migrated
  pub single : s.atomic ≡ false
  pub update : UpdatesNext (refs old) (refs new) s.commands s.verdicts t.verdicts name found
  pub session : t ≡ record s { verdicts = t.verdicts; stage = stage_while t.verdicts Migrated }
  pub rest : KeepsTheRest name old new

-- ---- the update of an atomic push
-- each file but those of the refs with these names and the packed one is as before, and so is all that lies outside `refs/`, and HEAD; no
-- file is bad that wasn't
pub record KeepsUnnamed (names : List (List ℕ)) (old new : FileMap) : Type 0 where
  pub only : (path : List ℕ) → is_one_of path names ≡ false → bytes_eq path packed_path ≡ false → files.get new path ≡ files.get old path
  pub outside : KeepsOutside old new

-- the names of the refs that they are to set
abbrev pub names_of : List CommandText → List (List ℕ)
names_of commands = map (λ (c : CommandText). c.name) commands

-- All commands pass, judged in turn over the refs of that moment: all are accepted, their refs are set as one change, so many, and what
-- they do not name is as before.
pub record StepSetsAll (old new : FileMap) (s t : SessionText) (n : ℕ) : Type 0 where
  pub stage : s.stage ≡ Migrated
  pub atomic : s.atomic ≡ true
  pub passed : PassInTurn (refs old) s.commands
  pub refs_are : refs new ≡ with_new (refs old) s.commands
  pub rest : KeepsUnnamed (names_of s.commands) old new
  pub session : t ≡ record s { verdicts = map (λ (c : CommandText). Accepted) s.commands; stage = Done }
  pub count : n ≡ length s.commands

-- Some are refused, judged in turn over the refs of that moment, and this one is the first that has a cause of its own: each is refused
-- for its own cause, or for that of the others, and no file has changed.
pub record StepRefusesAll (old new : FileMap) (s t : SessionText) (name : List ℕ) (reason : Reason) : Type 0 where
  pub stage : s.stage ≡ Migrated
  pub atomic : s.atomic ≡ true
  pub founds : List (Option Reason)
  pub judged : JudgesInTurn (refs old) [] s.commands founds
  pub first : first_refusal s.commands founds ≡ Some (name, reason)
  pub session : t ≡ record s { verdicts = map refused_by founds; stage = Done }
  pub files : new ≡ old

-- ---- the end
-- what is told of a command
abbrev pub Tells : CommandText → Verdict → ToldText → Type 0
Tells c Accepted t = t ≡ record { name = c.name; outcome = Ok c.new }
Tells c (Refused r) t = t ≡ record { name = c.name; outcome = Err (reason_text r) }
Tells c Passing t = ⊥

abbrev pub TellsAll : List CommandText → List Verdict → List ToldText → Type 0
TellsAll [] [] [] = Unit {0}
TellsAll (c ∷ cs) (v ∷ vs) (t ∷ ts) = Tells c v t × TellsAll cs vs ts
TellsAll _ _ _ = ⊥

abbrev pub fault_number : ObjectFault → ℕ
fault_number object.BadHeader = 1
fault_number object.BadSize = 2
fault_number object.TooLarge = 3
fault_number object.BadMode = 4
fault_number object.BadName = 5
fault_number object.NotSorted = 6
fault_number object.DuplicateName = 7
fault_number object.BadCommit = 8
fault_number object.BadTag = 9
fault_number object.Cut = 10

abbrev pub unpack_of : Option ObjectFault → Option (List ℕ)
unpack_of None = None
unpack_of (Some fault) = Some (unpack_error (fault_number fault))

-- the report of a push whose commands are all judged
pub record IsReport (s : SessionText) (report : ReportText) : Type 0 where
  pub unpack : report.unpack ≡ unpack_of s.fault
  pub told : TellsAll s.commands s.verdicts report.told

pub record StepFinishes (old new : FileMap) (s t : SessionText) (report : ReportText) : Type 0 where
  pub stage : s.stage ≡ Done
  pub report_is : IsReport s report
  pub session : t ≡ s
  pub dropped : IsDropped s.slot new
  pub outside : SameOutside (quarantine_folder s.slot) old new

-- what is told at the end is the report, whatever the files are
abbrev pub TellsReport : SessionText → Stepped → Type 0
TellsReport s (stepped.Finished report) = IsReport s (report_text report)
TellsReport s _ = Unit {0}

-- the step that was taken, by what it answers
abbrev pub Steps : FileMap → FileMap → SessionText → SessionText → Stepped → Type 0
Steps old new s t (stepped.Checked n) = StepChecks old new s t n
Steps old new s t stepped.Migrated = StepMigrates old new s t
Steps old new s t (stepped.Updated name found) = StepUpdates old new s t name.items found
Steps old new s t (stepped.Atomic n) = StepSetsAll old new s t n
Steps old new s t (stepped.AtomicRefused name reason) = StepRefusesAll old new s t name.items reason
Steps old new s t (stepped.Finished report) = StepFinishes old new s t (report_text report)

-- ---- a step that ends early, or writes nothing
-- what an update may leave that ends early: of an atomic push the refs that it names may stand in other files, and nothing else has
-- changed
abbrev pub EndsUpdate : Bool → List (List ℕ) → FileMap → FileMap → Type 0
EndsUpdate false names old new = new ≡ old
EndsUpdate true names old new = (refs new ≡ refs old) × KeepsUnnamed names old new

-- what a step may leave that ends early: some of what is carried is stored, or taken out of the quarantine at the end
abbrev pub EndsEarly : FileMap → FileMap → SessionText → Stage → Type 0
EndsEarly old new s Unpacked = new ≡ old
EndsEarly old new s Checked = ((id : ObjectId) → (objects new id ≡ objects old id) ⊎ (objects new id ≡ objects_seen old s.slot id)) × SameOutside (codes "objects/") old new
EndsEarly old new s Migrated = EndsUpdate s.atomic (names_of s.commands) old new
EndsEarly old new s Done = SameOutside (quarantine_folder s.slot) old new

-- nothing is against it over the refs of these files
abbrev pub PassesUpdate : FileMap → CommandText → Type 0
PassesUpdate content c = IsVerdictAtUpdate (refs content) c None

-- a passing command's update over these refs would set its ref, by itself
abbrev pub MaySetNext : FileMap → SessionText → Type 0
MaySetNext content s =
    (s.atomic ≡ false) × (front back : List Verdict) × (c : CommandText) × (s.verdicts ≡ front ++ Passing ∷ back) × (list_any is_passing front ≡ false) × (slice_get s.commands (length front) ≡ Some c)
    × PassesUpdate content c

-- the update of an atomic push over these refs would set them all
abbrev pub MaySetAll : FileMap → SessionText → Type 0
MaySetAll content s = (s.atomic ≡ true) × PassInTurn (refs content) s.commands

-- the steps that may write: storing where something is carried, an update that sets its ref, or all of an atomic push, and the end
abbrev pub MayWrite : FileMap → SessionText → Stage → Type 0
MayWrite content s Unpacked = ⊥
MayWrite content s Checked = s.names ≢ []
MayWrite content s Migrated = MaySetNext content s ⊎ MaySetAll content s
MayWrite content s Done = ⊤
