-- One open push, from the moment that it is taken to its report.
use Rattle.std.specs.Prelude.{◌≡◌, ℕ, Bool, true, false, List, ◌∷◌, length, Option, Some, None, if◌then◌else◌}
use Rattle.std.specs.List.{list_all, list_any}
use Rattle.vc_object.specs.declared.fault.ObjectFault.{ObjectFault}
use Rattle.vc_object.specs.declared.id.ObjectId.{ObjectId}
use Rattle.vc_push.specs.Push.{CommandText}
use Rattle.vc_push.specs.declared.reason.Reason.{Reason}
use Rattle.vc_push.specs.declared.reason.Reason.TheVariants.{UnpackerError}
use Rattle.vc_push_rules.specs.Verdict.{MayBeSet}
use Rattle.vc_push_rules.specs.declared.stage.Stage.{Stage}
use Rattle.vc_push_rules.specs.declared.stage.Stage.TheVariants.{Unpacked, Checked, Migrated, Done}
use Rattle.vc_push_rules.specs.declared.stage.Verdict.{Verdict}
use Rattle.vc_push_rules.specs.declared.stage.Verdict.TheVariants.{Passing, Accepted, Refused}

pub record SessionText : Type 0 where
  pub slot : ℕ
  -- all its refs are set, or none
  pub atomic : Bool
  -- why the first carried body at fault is none of its kind
  pub fault : Option ObjectFault
  pub commands : List CommandText
  -- the verdict so far on each command, in their order
  pub verdicts : List Verdict
  -- the names of what is carried
  pub names : List ObjectId
  pub stage : Stage

abbrev pub is_passing : Verdict → Bool
is_passing Passing = true
is_passing Accepted = false
is_passing (Refused reason) = false

-- the verdict on each command of a push as it is opened
abbrev pub fresh : Option ObjectFault → Verdict
fresh None = Passing
fresh (Some fault) = Refused UnpackerError

-- it stays at the stage while a command passes
abbrev pub stage_while : List Verdict → Stage → Stage
stage_while vs stage = if list_any is_passing vs then stage else Done

-- the verdict on a command after its update
abbrev pub verdict_of : Option Reason → Verdict
verdict_of None = Accepted
verdict_of (Some r) = Refused r

-- each command that passed its check may be set
abbrev pub MayBeSetWhere : List CommandText → List Verdict → Type 0
MayBeSetWhere (c ∷ cs) (Passing ∷ vs) = MayBeSet c.name × MayBeSetWhere cs vs
MayBeSetWhere (c ∷ cs) (v ∷ vs) = MayBeSetWhere cs vs
MayBeSetWhere _ _ = Unit {0}

-- of an atomic push each command passes
abbrev pub AllPassTogether : SessionText → Type 0
AllPassTogether s = s.atomic ≡ true → list_all is_passing s.verdicts ≡ true

-- between the check and the end a command passes, or each one if the push is atomic; at the end none does
abbrev pub IsInStage : SessionText → Stage → Type 0
IsInStage s Unpacked = Unit {0}
IsInStage s Checked = MayBeSetWhere s.commands s.verdicts × (list_any is_passing s.verdicts ≡ true) × AllPassTogether s
IsInStage s Migrated = MayBeSetWhere s.commands s.verdicts × (list_any is_passing s.verdicts ≡ true) × AllPassTogether s
IsInStage s Done = list_any is_passing s.verdicts ≡ false

-- what holds of every session
pub record IsSession (s : SessionText) : Type 0 where
  pub paired : length s.verdicts ≡ length s.commands
  pub in_stage : IsInStage s s.stage
