-- What a step of an open push is handed, and what it leaves whatever the files are.
use Rattle.std.specs.Prelude.{◌≡◌, ◌⊎◌, Bool, true, Result, IfOk, OnErr}
use Rattle.vc_files.specs.FileMap.{FileMap}
use Rattle.vc_history.specs.Stored.{AgreesIn, KeepsObjects}
use Rattle.vc_history.specs.declared.generations.Generations.{Generations}
use Rattle.vc_push_rules.specs.Carrying.{HoldsNames}
use Rattle.vc_push_rules.specs.Session.{SessionText, IsSession}
use Rattle.vc_push_rules.specs.Steps.{Steps, TellsReport}
use Rattle.vc_push_rules.specs.declared.stage.Stepped.{Stepped}
use Rattle.vc_quarantine.specs.Clean.{KeepsPacked, MakesNoneBad}
use Rattle.vc_refs.specs.Head.{KeepsOutside}
use Rattle.vc_session.specs.declared.fault.SessionFault.{SessionFault}

-- The step of a push whose quarantine holds what it names, where the generations that are known agree with what is stored.
abbrev pub StepsHeld : Type 0 → (old new : FileMap) → Generations → (s t : SessionText) → Result Stepped SessionFault → Type 0
StepsHeld honest old new generations s t result = honest → AgreesIn old generations → HoldsNames old s.slot s.names → IfOk result (Steps old new s t)

-- What a step leaves of the push, whatever the files are: it is one still, of the same commands; after an error it is as it was; and
-- what it tells at its end is the report.
pub record TakesStep (s t : SessionText) (result : Result Stepped SessionFault) : Type 0 where
  pub session : IsSession t
  pub unchanged : OnErr result (t ≡ s)
  pub commands : t.commands ≡ s.commands
  pub told : IfOk result (TellsReport s)

-- The packed refs are as they were, or an atomic push changed only files in which refs stand.
abbrev pub LeavesPacked : Bool → FileMap → FileMap → Type 0
LeavesPacked atomic old new = KeepsPacked old new ⊎ ((atomic ≡ true) × KeepsOutside old new)

-- What no step takes away: each object that was stored is stored, no file becomes bad, and no ref is packed but by an atomic push.
pub record SparesFiles {F : Type 0} (honest : Type 0) (content : F → FileMap) (atomic : Bool) (old new : F) : Type 0 where
  pub objects : honest → KeepsObjects (content old) (content new)
  pub bad : honest → MakesNoneBad (content old) (content new)
  pub packed : honest → LeavesPacked atomic (content old) (content new)
