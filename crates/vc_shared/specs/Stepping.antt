-- A step of the push in a slot: that of its session.
use Rattle.std.specs.Prelude.{◌≡◌, ◌⊎◌, ℕ, Bool, true, List, Option, Some, None, Result, Ok, Err, slice_set}
use Rattle.std.specs.List.{All, flat_map}
use Rattle.vc_files.specs.FileMap.{FileMap}
use Rattle.vc_history.specs.Stored.{AgreesIn, KeepsObjects}
use Rattle.vc_pkt.specs.Line.{spelling}
use Rattle.vc_push.specs.Report.{IsShortTold, IsShortUnpack, report_lines}
use Rattle.vc_push.specs.ReportView.{bytes_of, report_text, told_of}
use Rattle.vc_push_rules.specs.Carrying.{HoldsNames}
use Rattle.vc_quarantine.specs.Clean.{KeepsPacked, MakesNoneBad}
use Rattle.vc_quarantine.specs.Learning.{Learnt}
use Rattle.vc_push_rules.specs.Session.{IsSession, SessionText}
use Rattle.vc_session.specs.SessionFault.{IsRefusedStep}
use Rattle.vc_session.specs.Stepping.{LeavesPacked}
use Rattle.vc_push_rules.specs.Steps.{EndsEarly, MayWrite, Steps}
use Rattle.vc_session.specs.declared.fault.SessionFault.{SessionFault}
use Rattle.vc_push_rules.specs.declared.stage.Stepped.{Stepped as SessionStep}
use Rattle.vc_push_rules.specs.declared.stage.Stepped.TheVariants as session
use Rattle.vc_shared.specs.Faults.{of_session}
use Rattle.vc_shared.specs.Learning.{LearnsIn}
use Rattle.vc_shared.specs.Slots.{slot_of}
use Rattle.vc_shared.specs.declared.fault.SharedFault.{SharedFault}
use Rattle.vc_shared.specs.declared.fault.SharedFault.TheVariants.{NoSuchSlot}
use Rattle.vc_shared.specs.declared.stepping.Stepped.{Stepped}
use Rattle.vc_shared.specs.declared.stepping.Stepped.TheVariants.{Checked, Migrated, Updated, Atomic, AtomicRefused, Finished}

-- what a session's step did is told so; a report by its bytes
abbrev pub Tells : SessionStep → Stepped → Type 0
Tells (session.Checked n) (Checked m) = m ≡ n
Tells session.Migrated Migrated = Unit {0}
Tells (session.Updated name found) (Updated told reason) = (told ≡ name) × (reason ≡ found)
Tells (session.Atomic n) (Atomic m) = m ≡ n
Tells (session.AtomicRefused name reason) (AtomicRefused told cause) = (told ≡ name) × (cause ≡ reason)
Tells (session.Finished report) (Finished bytes) = bytes.items ≡ flat_map spelling (report_lines (report_text report))
Tells _ _ = ⊥

-- a report has short lines
abbrev pub HasShortReport : SessionStep → Type 0
HasShortReport (session.Finished report) = IsShortUnpack (bytes_of report.unpack) × All (λ t. IsShortTold (told_of t)) report.told.items
HasShortReport _ = Unit {0}

-- the step is the last: its report is told
abbrev pub IsEnd : SessionStep → Type 0
IsEnd (session.Finished report) = Unit {0}
IsEnd _ = ⊥

-- a push that was told its report leaves its slot
abbrev pub left_by : Stepped → SessionText → Option SessionText
left_by (Finished bytes) s = None
left_by _ s = Some s

-- and after an error it stays
abbrev pub left_in : Result Stepped SharedFault → SessionText → Option SessionText
left_in (Ok told) s = left_by told s
left_in (Err e) s = Some s

-- the step of a push's session, and how it is told
pub record StepsPush (old new : FileMap) (s t : SessionText) (told : Stepped) : Type 0 where
  pub did : SessionStep
  pub is_session : IsSession t
  pub steps : Steps old new s t did
  pub tells : Tells did told

pub record StepsSlot (old new : FileMap) (slots after : List (Option SessionText)) (k : ℕ) (told : Stepped) : Type 0 where
  pub session : SessionText
  pub later : SessionText
  pub found : slot_of slots k ≡ Some session
  pub step : StepsPush old new session later told
  pub left : after ≡ slice_set slots k (left_by told later)

-- its quarantine has what it carries
abbrev pub IsHeldThere : FileMap → Option SessionText → Type 0
IsHeldThere content None = Unit {0}
IsHeldThere content (Some s) = HoldsNames content s.slot s.names

-- what a step may leave that ends early
abbrev pub EndsSlotEarly : FileMap → FileMap → Option SessionText → Type 0
EndsSlotEarly old new None = new ≡ old
EndsSlotEarly old new (Some s) = EndsEarly old new s s.stage

-- why a step may be refused
abbrev pub IsRefusedIn : FileMap → Option SessionText → SharedFault → Type 0
IsRefusedIn content None e = e ≡ NoSuchSlot
IsRefusedIn content (Some s) e = (f : SessionFault) × (e ≡ of_session f) × IsRefusedStep content s s.stage f

-- the steps that may write
abbrev pub MayWriteIn : FileMap → Option SessionText → Type 0
MayWriteIn content None = ⊥
MayWriteIn content (Some s) = MayWrite content s s.stage

-- where its quarantine has what it carries, the step may write, or this holds
abbrev pub MayStepOr : FileMap → Option SessionText → Type 0 → Type 0
MayStepOr content slot IsLook = IsHeldThere content slot → MayWriteIn content slot ⊎ IsLook

-- what a step leaves of the packed refs
abbrev pub LeavesPackedIn : FileMap → FileMap → Option SessionText → Type 0
LeavesPackedIn old new None = KeepsPacked old new
LeavesPackedIn old new (Some s) = LeavesPacked s.atomic old new

-- what is known of generations agrees then, each object that was stored is stored, no file was made bad, no ref packed but by an atomic push, and a step that ended in no fault
-- has learnt what it had to
pub record StepsWell (old new : FileMap) (slot : Option SessionText) (known now : Learnt) (is_up : Bool) : Type 0 where
  pub agrees : AgreesIn new now.generations
  pub objects : KeepsObjects old new
  pub bad : MakesNoneBad old new
  pub packed : LeavesPackedIn old new slot
  pub learns : is_up ≡ true → LearnsIn old slot known now
